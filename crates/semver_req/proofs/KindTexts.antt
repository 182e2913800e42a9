-- The texts of one kind may follow the same prefixes, since their bytes may stand for one another: computed of each grammar's rule.
use Rattle.std.proofs.Common.{◌≡◌, ◌<◌, ℕ, Bool, true, ◌&&◌, List, [], ◌∷◌, ◌++◌, ◌⊎◌, inl, inr, refl, sym, subst, ◌↔◌, IsTrue, append_assoc, arith, codes}
use Rattle.std.specs.Char.{is_ascii_digit}
use Rattle.std.proofs.lemmas.Bool.{and_parts}
use Rattle.std.proofs.lemmas.Bool.Decides.{nat_tests}
use Rattle.semver_req.specs.Kinds.{IsExpected, IsOfKind, capital_x, digit, is_other_letter, itself, kind_text, letter}
use Rattle.semver_req.specs.Partials.{strictness_of}
use Rattle.semver_req.specs.Viable.{IsPart, IsViablePrefix}
use Rattle.semver_req.specs.declared.common.values.Flavour.{Flavour}
use Rattle.semver_req.specs.declared.common.values.Flavour.TheVariants.{Npm, Normal, Specifier}
use Rattle.semver_req.specs.declared.error_places.expected.Kind.{Kind}
use Rattle.semver_req.proofs.Endings.{viable_by}
use Rattle.semver_req.proofs.GrammarFacts.{Free, free_list}
use Rattle.semver_req.proofs.GrammarTexts.{AreSizes, InComparator, Numbers, are_numbers, exchanged, part_described}
use Rattle.semver_req.proofs.Grammars as rule
use Rattle.semver_req.proofs.RuleTexts.{Each, ends_by}
use Rattle.semver_req.proofs.Rules.{Bytes, has}
use Rattle.semver_req.proofs.States.{State, after, alike, are_alike, each, failing}
use Rattle.semver_req.proofs.Symbols.{Says, SaidBy, exchange, is_ended, sign}

any_size : AreSizes Free
any_size = record { one = tt; shorter = λ x p u h. tt }

-- letters but `v`, `x` and `X`
abbrev letters : Bytes
letters = (65, 88) ∷ ((89, 91) ∷ ((97, 118) ∷ ((119, 120) ∷ ((121, 123) ∷ []))))

abbrev both_x : Bytes
both_x = (88, 89) ∷ ((120, 121) ∷ [])

abbrev part_endings : List (List ℕ)
part_endings = [] ∷ codes "1" ∷ codes "&" ∷ codes " 1" ∷ codes "|" ∷ codes "||" ∷ []

abbrev are_kinds : State → Bool
are_kinds s = is_ended part_endings s && (are_alike 48 rule.digits s && (are_alike 97 letters s && are_alike 88 both_x s))

checked : (f : Flavour) → failing are_kinds (rule.part f) ≡ []
checked Npm = refl
checked Normal = refl
checked Specifier = refl

module _ (f : Flavour) where
  abbrev state : List ℕ → State
  state p = after (rule.part f ∷ []) p

  ended_there : (p : List ℕ) → is_ended part_endings (state p) ≡ true
  ended_there p = (and_parts (is_ended part_endings (state p)) (are_alike 48 rule.digits (state p) && (are_alike 97 letters (state p) && are_alike 88 both_x (state p))) (each are_kinds (rule.part f) (checked f) p)).0

  alike_there : (p : List ℕ) → (are_alike 48 rule.digits (state p) && (are_alike 97 letters (state p) && are_alike 88 both_x (state p))) ≡ true
  alike_there p = (and_parts (is_ended part_endings (state p)) (are_alike 48 rule.digits (state p) && (are_alike 97 letters (state p) && are_alike 88 both_x (state p))) (each are_kinds (rule.part f) (checked f) p)).1

  letters_there : (p : List ℕ) → (are_alike 97 letters (state p) && are_alike 88 both_x (state p)) ≡ true
  letters_there p = (and_parts (are_alike 48 rule.digits (state p)) (are_alike 97 letters (state p) && are_alike 88 both_x (state p)) (alike_there p)).1

  digits_alike : (p : List ℕ) → are_alike 48 rule.digits (state p) ≡ true
  digits_alike p = (and_parts (are_alike 48 rule.digits (state p)) (are_alike 97 letters (state p) && are_alike 88 both_x (state p)) (alike_there p)).0

  letters_alike : (p : List ℕ) → are_alike 97 letters (state p) ≡ true
  letters_alike p = (and_parts (are_alike 97 letters (state p)) (are_alike 88 both_x (state p)) (letters_there p)).0

  x_alike : (p : List ℕ) → are_alike 88 both_x (state p) ≡ true
  x_alike p = (and_parts (are_alike 97 letters (state p)) (are_alike 88 both_x (state p)) (letters_there p)).1

  -- where one byte of such a set may follow, so may another
  module _ (m : ℕ) (s : Bytes) (same : (p : List ℕ) → are_alike m s (state p) ≡ true) where
    follows : (d e : ℕ) → d < sign → e < sign → has s d ≡ true → has s e ≡ true → (is_ascii_digit d ≡ true → is_ascii_digit e ≡ true)
        → (prefix : List ℕ) → IsViablePrefix (IsPart f) (prefix ++ (d ∷ [])) → IsViablePrefix (IsPart f) (prefix ++ (e ∷ []))
    follows d e below also in_d in_e digits prefix v =
        by (exchange (are_numbers (strictness_of f) any_size) part_endings (rule.part f) ended_there d e below also (λ p u h. exchanged d e u (λ n. tt) (strictness_of f) digits p h) (λ b u h. alike m s (rule.part f) same d e in_d in_e b u h) prefix v.more
        ((part_described Free f).into (prefix ++ (d ∷ v.more)) v.value (subst (λ t. IsPart f t v.value) (append_assoc prefix (d ∷ []) v.more) v.stands) (free_list v.value)))
      where
        by : Says (Numbers Free f) (rule.part f) (prefix ++ (e ∷ v.more)) ⊎ SaidBy (Numbers Free f) (rule.part f) (prefix ++ (e ∷ [])) part_endings → IsViablePrefix (IsPart f) (prefix ++ (e ∷ []))
        by (inl h) =
            let w = (part_described Free f).from (prefix ++ (e ∷ v.more)) h in
            record { more = v.more; value = w.0; is_text = v.is_text; stands = subst (λ t. IsPart f t w.0) (sym (append_assoc prefix (e ∷ []) v.more)) w.1 }
        by (inr h) = viable_by (IsPart f) (Each (InComparator Free)) (IsPart f) (λ t cs k i. k) (prefix ++ (e ∷ [])) part_endings refl (ends_by (part_described Free f) (prefix ++ (e ∷ [])) part_endings h)

  digit_follows : (d e : ℕ) → is_ascii_digit d ≡ true → is_ascii_digit e ≡ true → (prefix : List ℕ) → IsViablePrefix (IsPart f) (prefix ++ (d ∷ [])) → IsViablePrefix (IsPart f) (prefix ++ (e ∷ []))
  digit_follows d e h k = follows 48 rule.digits digits_alike d e (low d h) (low e k) (there d h) (there e k) (λ i. k)
    where
      low : (x : ℕ) → is_ascii_digit x ≡ true → x < sign
      low x h = grind (arith, nat_tests)

      there : (x : ℕ) → is_ascii_digit x ≡ true → has rule.digits x ≡ true
      there x h = grind (arith, nat_tests)

  letter_follows : (d e : ℕ) → is_other_letter d ≡ true → is_other_letter e ≡ true → (prefix : List ℕ) → IsViablePrefix (IsPart f) (prefix ++ (d ∷ [])) → IsViablePrefix (IsPart f) (prefix ++ (e ∷ []))
  letter_follows d e h k = follows 97 letters letters_alike d e (low d h) (low e k) (there d h) (there e k) (λ i. absurd (no_digit d h i))
    where
      low : (x : ℕ) → is_other_letter x ≡ true → x < sign
      low x h = grind (arith, nat_tests)

      there : (x : ℕ) → is_other_letter x ≡ true → has letters x ≡ true
      there x h = grind (arith, nat_tests)

      no_digit : (x : ℕ) → is_other_letter x ≡ true → is_ascii_digit x ≡ true → ⊥
      no_digit x h k = grind (arith, nat_tests)

  capital_follows : (prefix : List ℕ) → IsViablePrefix (IsPart f) (prefix ++ codes "x") → IsViablePrefix (IsPart f) (prefix ++ codes "X")
  capital_follows = follows 88 both_x x_alike 120 88 (omega arith) (omega arith) refl refl (λ i. cc i)

  small_follows : (prefix : List ℕ) → IsViablePrefix (IsPart f) (prefix ++ codes "X") → IsViablePrefix (IsPart f) (prefix ++ codes "x")
  small_follows = follows 88 both_x x_alike 88 120 (omega arith) (omega arith) refl refl (λ i. cc i)

  module _ (prefix : List ℕ) where
    -- where one text of the kind may follow, so may each
    each_follows : (kind : Kind) → IsViablePrefix (IsPart f) (prefix ++ kind_text kind) → (next : List ℕ) → IsOfKind kind next → IsViablePrefix (IsPart f) (prefix ++ next)
    each_follows kind v next (digit d h) = digit_follows 49 d refl h prefix v
    each_follows kind v next (letter b h) = letter_follows 97 b refl h prefix v
    each_follows kind v next capital_x = capital_follows prefix v
    each_follows kind v next (itself _) = v

    -- and the other way
    one_follows : (kind : Kind) (next : List ℕ) → IsOfKind kind next → IsViablePrefix (IsPart f) (prefix ++ next) → IsViablePrefix (IsPart f) (prefix ++ kind_text kind)
    one_follows kind next (digit d h) v = digit_follows d 49 h refl prefix v
    one_follows kind next (letter b h) v = letter_follows b 97 h refl prefix v
    one_follows kind next capital_x v = small_follows prefix v
    one_follows kind next (itself _) v = v

    pub expected : (kind : Kind) (says : Bool) → IsTrue says ↔ IsViablePrefix (IsPart f) (prefix ++ kind_text kind) → IsExpected f prefix kind says
    expected kind says h = record {
      each = λ holds next of_kind. each_follows kind (h.0 holds) next of_kind;
      none = λ next of_kind v. h.1 (one_follows kind next of_kind v);
    }
