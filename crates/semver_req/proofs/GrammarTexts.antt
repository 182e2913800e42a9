-- Each rule describes its grammar: numbers are of such sizes, and loose or strict by the grammar.
use Rattle.std.proofs.Common.{◌≡◌, ◌≤◌, ◌<◌, ◌^◌, ℕ, true, false, List, [], ◌∷◌, ◌++◌, ◌⊎◌, inl, inr, Option, Some, None, length, refl, sym, ap, subst, ◌∙◌, arith, length-append, codes, slice_index, take_at}
use Rattle.std.specs.Char.{is_ascii_digit}
use Rattle.std.specs.List.{list_all}
use Rattle.std.specs.Str.Parse.{digits_value}
use Rattle.std.proofs.lemmas.Bool.{and_from, and_parts, both_ways, false_from_ne_true}
use Rattle.std.proofs.lemmas.Bool.Decides.{nat_tests}
use Rattle.std.proofs.lemmas.Str.Parse.{digits_value-take-le}
use Rattle.semver_base.specs.Comparators.{Bare, Caret, Comparator, Hyphen, OfPrimitive, Tilde}
use Rattle.semver_base.specs.Grammar.{After, Before, Either, this, that, IsText, Joined, Listed, Mapped, OneByte, Optional, Prefixed}
use Rattle.semver_base.specs.Lexical.{IsBuild, IsByte, IsIdentifiers, IsLooseNumber, IsLoosePre, IsNumber, IsNumberEnd, IsPre, IsQualifier, IsStrictPre, IsWhitespace, NoDigitFollows, is_identifier_byte}
use Rattle.semver_base.specs.ValueLaws.{all_first}
use Rattle.semver_base.specs.VersionGrammar.{AllNumbersFit, IsLead, IsTriple, IsVersion, version_of}
use Rattle.semver_base.specs.declared.lexical.values.Qualifier.{Qualifier}
use Rattle.semver_base.specs.declared.lexical.values.Strictness.{Strictness}
use Rattle.semver_base.specs.declared.lexical.values.Strictness.TheVariants.{Loose, Strict}
use Rattle.semver_base.specs.declared.partial.Partial.{Partial}
use Rattle.semver_base.specs.declared.partial.PrimitiveKind.{PrimitiveKind}
use Rattle.semver_base.specs.declared.partial.PrimitiveKind.TheVariants.{GreaterThan, LessThan, GreaterThanOrEqual, LessThanOrEqual, Equal}
use Rattle.semver_base.specs.declared.partial.XRange.{XRange}
use Rattle.semver_base.specs.declared.partial.XRange.TheVariants.{Wildcard, Val}
use Rattle.semver_base.specs.declared.version.Version.{Version}
use Rattle.semver_req.specs.Comparators.{IsBare, IsComparator, IsEquals, no_more as no_more_equals, one_more as one_more_equals, IsIgnored, IsLed, IsNpmCaret, IsNpmTilde, IsOfPrimitive, IsPrimitiveKind}
use Rattle.semver_req.specs.Partials.{IsBarePartial, IsComponent, IsPartial, is_wildcard, partial_of, strictness_of}
use Rattle.semver_req.specs.Pieces.{IsCutting, IsFilled, IsHyphen, IsHyphened, IsListOperator, IsNpmSeparator, IsPiece, npm, normal}
use Rattle.semver_req.specs.Viable.{IsAnyPiece, IsPart, IsPieceOrCut, alone, cut}
use Rattle.semver_req.specs.Written.{IsTildes}
use Rattle.semver_req.specs.declared.common.values.Flavour.{Flavour}
use Rattle.semver_req.specs.declared.common.values.Flavour.TheVariants.{Npm, Normal, Specifier}
use Rattle.semver_req.proofs.Grammars as rule
use Rattle.semver_req.proofs.Rules.{has, Rule, empty, byte, seq, alt, many, unless, Many, no_more, one_more, Avoids, Holds, nullable, is_made, letter, word, optional, some}
use Rattle.semver_req.proofs.RuleLaws.{nullable_into}
use Rattle.semver_req.proofs.RuleTexts.{Any, Both, Describes, Each, IfAny, Passing, after_described, alt_says, before_described, byte_described, bytes, described_as, either_described, followed_described, ground_described, ground_said, letter_described, listed_described, mapped_described, none_spelled, number_said, one_has, one_is, optional_described, prefixed_described, run_described, run_into, said_ground, said_number, says_alt, says_seq, seq_says, word_described}
use Rattle.semver_req.proofs.States.{matches_from}
use Rattle.semver_req.proofs.Symbols.{AreNumbers, Says, done}
use Rattle.semver_req.proofs.WhitespaceTexts.{some_whitespace_described, whitespace_described}

-- ---- numbers

-- 1 is of such a size, and so is what a number of such a size begins with
pub record AreSizes (N : ℕ → Type 0) : Type 0 where
  pub one : N 1
  pub shorter : (x : ℕ) (p u : List ℕ) → N (digits_value 10 ((x ∷ p) ++ u)) → N (digits_value 10 (x ∷ p))

-- a number of such a size
pub record IsSized (s : Strictness) (N : ℕ → Type 0) (t : List ℕ) : Type 0 where
  pub number : IsNumber s t (digits_value 10 t)
  pub size : N (digits_value 10 t)

digit_passing : Passing is_ascii_digit rule.digits
digit_passing = record { into = λ x h. grind (arith, nat_tests); from = λ x h. grind (arith, nat_tests) }

loose_of : (s : Strictness) (t : List ℕ) (n : ℕ) → IsNumber s t n → IsLooseNumber t n
loose_of Loose t n h = h
loose_of Strict t n h = h.digits

is_sized : (s : Strictness) {N : ℕ → Type 0} (t : List ℕ) (n : ℕ) → IsNumber s t n → N n → IsSized s N t
is_sized s {N} t n h i =
    let loose = loose_of s t n h in
    let is : n ≡ digits_value 10 t = loose.is ∙ ap (digits_value 10) loose.stands.is in
    record { number = subst (λ m. IsNumber s t m) is h; size = subst N is i }

loose_number : (t : List ℕ) → 0 < length t → list_all is_ascii_digit t ≡ true → IsLooseNumber t (digits_value 10 t)
loose_number t n h = record { value = t; stands = record { some = n; pass = h; is = refl }; is = refl }

shorter_number : (s : Strictness) (x : ℕ) (p u : List ℕ) (n : ℕ) → IsNumber s ((x ∷ p) ++ u) n → IsNumber s (x ∷ p) (digits_value 10 (x ∷ p))
shorter_number Loose x p u n h = loose_number (x ∷ p) (omega arith) (all_first is_ascii_digit (x ∷ p) u h.stands.pass)
shorter_number Strict x p u n h = record {
  digits = loose_number (x ∷ p) (omega arith) (all_first is_ascii_digit (x ∷ p) u h.digits.stands.pass);
  no_leading_zero = λ z. let k = h.no_leading_zero z in omega (arith, k, length-append (x ∷ p) u);
}

one_number : (s : Strictness) → IsNumber s (codes "1") 1
one_number Loose = loose_number (codes "1") (omega arith) refl
one_number Strict = record { digits = loose_number (codes "1") (omega arith) refl; no_leading_zero = λ z. refl }

pub are_numbers : (s : Strictness) {N : ℕ → Type 0} → AreSizes N → AreNumbers (IsSized s N)
are_numbers s sizes = record {
  shorter = λ x p u h. record { number = shorter_number s x p u (digits_value 10 ((x ∷ p) ++ u)) h.number; size = sizes.shorter x p u h.size };
  one = record { number = one_number s; size = sizes.one };
}

pub front_below : (x : ℕ) (p u : List ℕ) → digits_value 10 (x ∷ p) ≤ digits_value 10 ((x ∷ p) ++ u)
front_below x p u = subst (λ t. digits_value 10 t ≤ digits_value 10 ((x ∷ p) ++ u)) (take_at (x ∷ p) u (length (x ∷ p)) refl) (digits_value-take-le 10 ((x ∷ p) ++ u) (length (x ∷ p)) (omega arith))

abbrev Fits : ℕ → Type 0
Fits n = n < 2 ^ 64

pub below : AreSizes Fits
below = record { one = omega arith; shorter = λ x p u h. omega (arith, front_below x p u, h) }

-- a number is digits
pub loose_digits : (s : Strictness) {N : ℕ → Type 0} (t : List ℕ) → IsSized s N t → Holds (some (byte rule.digits)) t
loose_digits s t h = let loose = loose_of s t (digits_value 10 t) h.number in run_into digit_passing t loose.value loose.stands

-- a number with a digit in it, cut there with another digit in its place
module _ (d e : ℕ) (u : List ℕ) where
  digit_there : (p : List ℕ) → list_all is_ascii_digit (p ++ (d ∷ u)) ≡ true → is_ascii_digit d ≡ true
  digit_there [] h = (and_parts (is_ascii_digit d) (list_all is_ascii_digit u) h).0
  digit_there (x ∷ p) h = digit_there p (and_parts (is_ascii_digit x) (list_all is_ascii_digit (p ++ (d ∷ u))) h).1

  digits_swapped : (p : List ℕ) → is_ascii_digit e ≡ true → list_all is_ascii_digit (p ++ (d ∷ u)) ≡ true → list_all is_ascii_digit (p ++ (e ∷ [])) ≡ true
  digits_swapped [] k h = and_from (is_ascii_digit e) true k refl
  digits_swapped (x ∷ p) k h = let both = and_parts (is_ascii_digit x) (list_all is_ascii_digit (p ++ (d ∷ u))) h in and_from (is_ascii_digit x) (list_all is_ascii_digit (p ++ (e ∷ []))) both.0 (digits_swapped p k both.1)

  number_swapped : (s : Strictness) (p : List ℕ) (n : ℕ) → is_ascii_digit e ≡ true → IsNumber s (p ++ (d ∷ u)) n → IsNumber s (p ++ (e ∷ [])) (digits_value 10 (p ++ (e ∷ [])))
  number_swapped Loose p n k h = loose_number (p ++ (e ∷ [])) (omega (arith, length-append p (e ∷ []))) (digits_swapped p k h.stands.pass)
  number_swapped Strict p n k h = record {
    digits = loose_number (p ++ (e ∷ [])) (omega (arith, length-append p (e ∷ []))) (digits_swapped p k h.digits.stands.pass);
    no_leading_zero = zero p h.no_leading_zero;
  }
    where
      zero : (p : List ℕ) → (slice_index (p ++ (d ∷ u)) 0 ≡ 48 → length (p ++ (d ∷ u)) ≡ 1) → slice_index (p ++ (e ∷ [])) 0 ≡ 48 → length (p ++ (e ∷ [])) ≡ 1
      zero [] z k = refl
      zero (x ∷ p) z k = let n = z k in absurd (omega (arith, n, length-append p (d ∷ u)))

  -- where numbers are of any size, and e is a digit if d is one
  pub exchanged : {N : ℕ → Type 0} → ((n : ℕ) → N n) → (s : Strictness) → (is_ascii_digit d ≡ true → is_ascii_digit e ≡ true) → (p : List ℕ) → IsSized s N (p ++ (d ∷ u)) → IsSized s N (p ++ (e ∷ []))
  exchanged all s w p h =
      let n = digits_value 10 (p ++ (d ∷ u)) in
      record { number = number_swapped s p n (w (digit_there p (loose_of s (p ++ (d ∷ u)) n h.number).stands.pass)) h.number; size = all (digits_value 10 (p ++ (e ∷ []))) }

-- ---- sets of bytes

identifier_passing : Passing is_identifier_byte rule.identifier_bytes
identifier_passing = record { into = λ x h. grind (arith, nat_tests); from = λ x h. grind (arith, nat_tests) }

wildcard_passing : (f : Flavour) → Passing (is_wildcard f) (rule.wildcards f)
wildcard_passing Npm = record { into = λ x h. grind (arith, nat_tests); from = λ x h. grind (arith, nat_tests) }
wildcard_passing Normal = record { into = λ x h. grind (arith, nat_tests); from = λ x h. grind (arith, nat_tests) }
wildcard_passing Specifier = record { into = λ x h. grind (arith, nat_tests); from = λ x h. grind (arith, nat_tests) }

wildcards_made : (f : Flavour) → is_made (byte (rule.wildcards f)) bytes ≡ true
wildcards_made Npm = refl
wildcards_made Normal = refl
wildcards_made Specifier = refl

no_digit : (f : Flavour) (x : ℕ) → has (rule.wildcards f) x ≡ true → is_ascii_digit x ≡ true → ⊥
no_digit Npm x h k = grind (arith, nat_tests)
no_digit Normal x h k = grind (arith, nat_tests)
no_digit Specifier x h k = grind (arith, nat_tests)

qualifier_made : (s : Strictness) → is_made (rule.qualifier s) bytes ≡ true
qualifier_made Loose = refl
qualifier_made Strict = refl

-- ---- words

abbrev hyphens : List (ℕ × ℕ)
hyphens = (45, 46) ∷ []

each_any : {V : Type 0} (vs : List V) → Each Any vs
each_any [] = tt
each_any (v ∷ vs) = (tt, each_any vs)

pub if_any : {V : Type 0} (v : Option V) → IfAny Any v
if_any None = tt
if_any (Some v) = tt

module _ {T : List ℕ → Type 0} where
  identifiers_described : Describes T IsIdentifiers Any rule.identifiers
  identifiers_described = described_as (λ vs h. each_any vs) (λ vs h. tt) (listed_described (run_described rule.identifier_bytes identifier_passing refl) (letter_described 46 refl))

  strict_pre_described : Describes T IsStrictPre Any (rule.pre Strict)
  strict_pre_described = prefixed_described 45 (omega arith) identifiers_described

  loose_pre_described : Describes T IsLoosePre Any (rule.pre Loose)
  loose_pre_described = record { into = λ t v h i. go t v h; from = λ t h. back t (alt_says (rule.pre Strict) (unless hyphens rule.identifiers) t h) }
    where
      go : (t : List ℕ) (v : List (List ℕ)) → IsLoosePre t v → Says T (rule.pre Loose) t
      go [] v h = absurd h
      go (x ∷ t) v (inl h) = says_alt (rule.pre Strict) (unless hyphens rule.identifiers) (x ∷ t) (inl (strict_pre_described.into (x ∷ t) v h tt))
      go (x ∷ t) v (inr h) =
          let others = said_ground rule.identifiers refl (x ∷ t) (identifiers_described.into (x ∷ t) v h.1 tt) in
          let no_hyphen = false_from_ne_true (has hyphens x) (λ e. h.0 (one_is 45 x e)) in
          says_alt (rule.pre Strict) (unless hyphens rule.identifiers) (x ∷ t) (inr (ground_said (unless hyphens rule.identifiers) refl (x ∷ t) (no_hyphen, others)))

      loose : (t : List ℕ) (v : List (List ℕ)) → IsStrictPre t v → IsLoosePre t v
      loose [] v h = absurd h
      loose (x ∷ t) v h = inl h

      plain : (t : List ℕ) → Holds (unless hyphens rule.identifiers) t → (v : List (List ℕ)) → IsIdentifiers t v → IsLoosePre t v
      plain [] h v k = absurd (both_ways (nullable rule.identifiers) refl (nullable_into rule.identifiers h.1))
      plain (x ∷ t) h v k = inr (λ e. both_ways (has hyphens x) h.0 (rw e (one_has 45)), k)

      back : (t : List ℕ) → Says T (rule.pre Strict) t ⊎ Says T (unless hyphens rule.identifiers) t → (v : List (List ℕ)) × IsLoosePre t v × Any v
      back t (inl h) = let w = strict_pre_described.from t h in (w.0, loose t w.0 w.1, tt)
      back t (inr h) =
          let g = said_ground (unless hyphens rule.identifiers) refl t h in
          let w = identifiers_described.from t (ground_said rule.identifiers refl t g.1) in
          (w.0, plain t g w.0 w.1, tt)

  pre_described : (s : Strictness) → Describes T (IsPre s) Any (rule.pre s)
  pre_described Loose = loose_pre_described
  pre_described Strict = strict_pre_described

  build_described : Describes T IsBuild Any rule.build
  build_described = prefixed_described 43 (omega arith) identifiers_described

  qualifier_described : (s : Strictness) → Describes T (IsQualifier s) Any (rule.qualifier s)
  qualifier_described s = mapped_described (described_as (λ v h. (if_any v.0, if_any v.1)) (λ v h. tt) (followed_described (optional_described (pre_described s)) (optional_described build_described)))

  pub kind_described : Describes T IsPrimitiveKind Any rule.kind
  kind_described = ground_described rule.kind refl go back
    where
      go : (t : List ℕ) (v : PrimitiveKind) → IsPrimitiveKind t v → Holds rule.kind t
      go t GreaterThan e = rw e (matches_from rule.kind (codes ">") refl)
      go t LessThan e = rw e (matches_from rule.kind (codes "<") refl)
      go t GreaterThanOrEqual e = rw e (matches_from rule.kind (codes ">=") refl)
      go t LessThanOrEqual e = rw e (matches_from rule.kind (codes "<=") refl)
      go t Equal e = rw e (matches_from rule.kind (codes "=") refl)

      which : (x : ℕ) → has ((60, 61) ∷ ((62, 63) ∷ [])) x ≡ true → (x ≡ 60) ⊎ (x ≡ 62)
      which x h = grind (arith, nat_tests)

      alone : (x : ℕ) (t : List ℕ) → t ≡ x ∷ [] → (x ≡ 60) ⊎ (x ≡ 62) → (v : PrimitiveKind) × IsPrimitiveKind t v
      alone x t e (inl h) = (LessThan, e ∙ ap (λ x. x ∷ []) h)
      alone x t e (inr h) = (GreaterThan, e ∙ ap (λ x. x ∷ []) h)

      equal : (x : ℕ) (t : List ℕ) → t ≡ x ∷ (61 ∷ []) → (x ≡ 60) ⊎ (x ≡ 62) → (v : PrimitiveKind) × IsPrimitiveKind t v
      equal x t e (inl h) = (LessThanOrEqual, e ∙ ap (λ x. x ∷ (61 ∷ [])) h)
      equal x t e (inr h) = (GreaterThanOrEqual, e ∙ ap (λ x. x ∷ (61 ∷ [])) h)

      two : (t f s : List ℕ) → t ≡ f ++ s → Holds (byte ((60, 61) ∷ ((62, 63) ∷ []))) f → Holds (optional (letter 61)) s → (v : PrimitiveKind) × IsPrimitiveKind t v
      two t f s e h (inl k) = equal h.0 t (e ∙ (ap (λ l. l ++ s) h.1 ∙ (ap (λ l. h.0 ∷ l) k.1 ∙ ap (λ x. h.0 ∷ (x ∷ [])) (one_is 61 k.0 k.2)))) (which h.0 h.2)
      two t f s e h (inr k) = alone h.0 t (e ∙ (ap (λ l. l ++ s) h.1 ∙ ap (λ l. h.0 ∷ l) k)) (which h.0 h.2)

      back : (t : List ℕ) → Holds rule.kind t → (v : PrimitiveKind) × IsPrimitiveKind t v
      back t (inl h) = two t h.0 h.1 h.2 h.3 h.4
      back t (inr h) = (Equal, h.1 ∙ ap (λ x. x ∷ []) (one_is 61 h.0 h.2))

  pub equals_described : Describes T IsEquals Any (many (letter 61))
  equals_described = ground_described (many (letter 61)) refl (λ t v h. go h) (λ t h. (tt, back h))
    where
      go : {t : List ℕ} {v : Unit {0}} → IsEquals t v → Many (Holds (letter 61)) t
      go no_more_equals = no_more refl
      go (one_more_equals {rest} h) = one_more (61 ∷ []) rest refl (61, refl, one_has 61) (go h)

      back : {t : List ℕ} → Many (Holds (letter 61)) t → IsEquals t tt
      back (no_more e) = rw e no_more_equals
      back (one_more a b e h k) = let whole = e ∙ (ap (λ l. l ++ b) h.1 ∙ ap (λ x. x ∷ b) (one_is 61 h.0 h.2)) in rw whole (one_more_equals (back k))

  pub ignored_described : Describes T IsIgnored Any rule.ignored
  ignored_described = described_as of (λ v h. tt) (optional_described (followed_described kind_described some_whitespace_described))
    where
      of : (v : Option (PrimitiveKind × Unit {0})) → Any v → IfAny (Both Any Any) v
      of None h = tt
      of (Some v) h = (tt, tt)

  pub v_described : Describes T (Optional (IsByte 118)) Any (optional (letter 118))
  v_described = described_as (λ v h. if_any v) (λ v h. tt) (optional_described (letter_described 118 refl))

  pub tildes_described : Describes T IsTildes Any rule.tildes
  tildes_described = either_described (word_described (codes "~>") refl) (word_described (codes "~") refl)

  pub list_operator_described : Describes T IsListOperator Any rule.list_operator
  list_operator_described = either_described (word_described (codes "&&") refl) (word_described (codes ",") refl)

  pub separator_described : Describes T IsNpmSeparator Any (rule.separator Npm)
  separator_described = either_described (after_described whitespace_described (after_described list_operator_described whitespace_described)) some_whitespace_described

-- a number ends where no digit follows
avoids : (s : Strictness) (f t : List ℕ) (n : ℕ) → IsNumber s f n → IsNumberEnd f t → Avoids rule.digits t
avoids s f [] n h e = tt
avoids s f (y ∷ t) n h e = false_from_ne_true (has rule.digits y) (λ k. e (first_digit f (loose_of s f n h)) (digit_passing.from y k))
  where
    first_digit : (f : List ℕ) → IsLooseNumber f n → is_ascii_digit (slice_index f 0) ≡ true
    first_digit [] h = absurd (omega (arith, h.stands.some))
    first_digit (x ∷ f) h = (and_parts (is_ascii_digit x) (list_all is_ascii_digit f) h.stands.pass).0

no_digit_follows : (f t : List ℕ) → Avoids rule.digits t → NoDigitFollows f t
no_digit_follows f [] a k = absurd (both_ways false refl k)
no_digit_follows f (y ∷ t) a k = both_ways (has rule.digits y) a (digit_passing.into y k)

wildcard_end : (f : Flavour) (s t : List ℕ) → Holds (byte (rule.wildcards f)) s → IsNumberEnd s t
wildcard_end f s t h = let is = h.1 in rw is (λ d. absurd (no_digit f h.0 h.2 d))

-- ---- sizes of the numbers in values

abbrev pub InComponent : (ℕ → Type 0) → XRange → Type 0
InComponent N Wildcard = Unit {0}
InComponent N (Val n) = N n

abbrev pub InPartial : (ℕ → Type 0) → Partial → Type 0
InPartial N p = InComponent N p.major × (InComponent N p.minor × InComponent N p.patch)

abbrev pub InComparator : (ℕ → Type 0) → Comparator → Type 0
InComparator N (Tilde p) = InPartial N p
InComparator N (Caret p) = InPartial N p
InComparator N (OfPrimitive kind p) = InPartial N p
InComparator N (Bare p) = InPartial N p
InComparator N (Hyphen p q) = InPartial N p × InPartial N q

no_list : {V : Type 0} {A : List ℕ → V → Type 0} {S : List ℕ → Unit {0} → Type 0} {t : List ℕ} → Listed A S t [] → ⊥
no_list h = elim h [ ]

pub filled_piece : (f : Flavour) → IsCutting f → (t : List ℕ) (cs : List Comparator) → IsFilled f t cs → IsPiece f t cs
filled_piece f cuts t (c ∷ cs) h = h
filled_piece Npm npm t [] (this h) = cc (h.is)
filled_piece Npm npm t [] (that h) = absurd (no_list h)
filled_piece Normal normal t [] h = absurd (no_list h)
filled_piece Specifier cuts t [] h = elim cuts [ ]

-- ---- `~` and `^` of each grammar

abbrev pub IsTildeOf : Flavour → List ℕ → Comparator → Type 0
IsTildeOf Npm = IsNpmTilde
IsTildeOf Normal = Mapped Tilde (Prefixed 126 (IsPartial Normal))
IsTildeOf Specifier = Mapped Tilde (Prefixed 126 (IsPartial Specifier))

abbrev pub IsCaretOf : Flavour → List ℕ → Comparator → Type 0
IsCaretOf Npm = IsNpmCaret
IsCaretOf Normal = Mapped Caret (Prefixed 94 (IsPartial Normal))
IsCaretOf Specifier = Mapped Caret (Prefixed 94 (IsPartial Specifier))

module _ (N : ℕ → Type 0) where
  -- the numbers of a grammar
  abbrev pub Numbers : Flavour → List ℕ → Type 0
  Numbers f = IsSized (strictness_of f) N

  -- ---- partial versions

  pub component_described : (f : Flavour) → Describes (Numbers f) (IsComponent f) (InComponent N) (rule.component f)
  component_described f = record { into = go; from = λ t h. back t (alt_says (byte (rule.wildcards f)) rule.number t h) }
    where
      wildcard : Describes (Numbers f) (OneByte (is_wildcard f)) Any (byte (rule.wildcards f))
      wildcard = byte_described (rule.wildcards f) (wildcard_passing f) (wildcards_made f)

      go : (t : List ℕ) (v : XRange) → IsComponent f t v → InComponent N v → Says (Numbers f) (rule.component f) t
      go t Wildcard h i = says_alt (byte (rule.wildcards f)) rule.number t (inl (wildcard.into t h.0 h.1 tt))
      go t (Val n) h i = says_alt (byte (rule.wildcards f)) rule.number t (inr (number_said t (is_sized (strictness_of f) t n h i)))

      back : (t : List ℕ) → Says (Numbers f) (byte (rule.wildcards f)) t ⊎ Says (Numbers f) rule.number t → (v : XRange) × IsComponent f t v × InComponent N v
      back t (inl h) = let w = wildcard.from t h in (Wildcard, (w.0, w.1), tt)
      back t (inr h) = let n = said_number t h in (Val (digits_value 10 t), n.number, n.size)

  abbrev InThird : XRange × Qualifier → Type 0
  InThird = Both (InComponent N) Any

  abbrev InSecond : XRange × Option (XRange × Qualifier) → Type 0
  InSecond = Both (InComponent N) (IfAny InThird)

  module _ (f : Flavour) where
    abbrev plain : Rule
    plain = unless rule.digits (rule.qualifier (strictness_of f))

    patch_described : Describes (Numbers f) (Joined IsNumberEnd (IsComponent f) (IsQualifier (strictness_of f))) InThird (alt (rule.numbered f) (rule.starred f))
    patch_described = record { into = λ t v h i. go t v.0 v.1 h.first h.second h.text_is h.in_first h.in_second h.seam i.0; from = λ t h. back t (alt_says (rule.numbered f) (rule.starred f) t h) }
      where
        qualifier : Describes (Numbers f) (IsQualifier (strictness_of f)) Any (rule.qualifier (strictness_of f))
        qualifier = qualifier_described (strictness_of f)

        wildcard : Describes (Numbers f) (OneByte (is_wildcard f)) Any (byte (rule.wildcards f))
        wildcard = byte_described (rule.wildcards f) (wildcard_passing f) (wildcards_made f)

        go : (t : List ℕ) (x : XRange) (q : Qualifier) (a b : List ℕ) → t ≡ a ++ b → IsComponent f a x → IsQualifier (strictness_of f) b q → IsNumberEnd a b → InComponent N x → Says (Numbers f) (alt (rule.numbered f) (rule.starred f)) t
        go t Wildcard q a b e h k seam i = says_alt (rule.numbered f) (rule.starred f) t (inr (says_seq (byte (rule.wildcards f)) (rule.qualifier (strictness_of f)) a b t e (wildcard.into a h.0 h.1 tt) (qualifier.into b q k tt)))
        go t (Val n) q a b e h k seam i =
            let behind = said_ground (rule.qualifier (strictness_of f)) (qualifier_made (strictness_of f)) b (qualifier.into b q k tt) in
            says_alt (rule.numbered f) (rule.starred f) t (inl (says_seq rule.number plain a b t e (number_said a (is_sized (strictness_of f) a n h i)) (ground_said plain (qualifier_made (strictness_of f)) b (avoids (strictness_of f) a b n h seam, behind))))

        back : (t : List ℕ) → Says (Numbers f) (rule.numbered f) t ⊎ Says (Numbers f) (rule.starred f) t → (v : XRange × Qualifier) × Joined IsNumberEnd (IsComponent f) (IsQualifier (strictness_of f)) t v × InThird v
        back t (inl h) =
            let m = seq_says rule.number plain t h in
            let n = said_number m.0 m.3 in
            let p = said_ground plain (qualifier_made (strictness_of f)) m.1 m.4 in
            let q = qualifier.from m.1 (ground_said (rule.qualifier (strictness_of f)) (qualifier_made (strictness_of f)) m.1 p.1) in
            ((Val (digits_value 10 m.0), q.0), record { first = m.0; second = m.1; text_is = m.2; in_first = n.number; in_second = q.1; seam = λ d. no_digit_follows m.0 m.1 p.0 }, (n.size, tt))
        back t (inr h) =
            let m = seq_says (byte (rule.wildcards f)) (rule.qualifier (strictness_of f)) t h in
            let n = wildcard.from m.0 m.3 in
            let q = qualifier.from m.1 m.4 in
            ((Wildcard, q.0), record { first = m.0; second = m.1; text_is = m.2; in_first = (n.0, n.1); in_second = q.1; seam = wildcard_end f m.0 m.1 (said_ground (byte (rule.wildcards f)) (wildcards_made f) m.0 m.3) }, (tt, tt))

    bare_in : (v : XRange × Option (XRange × Option (XRange × Qualifier))) → InPartial N (partial_of v) → Both (InComponent N) (IfAny InSecond) v
    bare_in (m, None) h = (h.0, tt)
    bare_in (m, Some (n, None)) h = (h.0, (h.1.0, tt))
    bare_in (m, Some (n, Some (p, q))) h = (h.0, (h.1.0, (h.1.1, tt)))

    in_bare : (v : XRange × Option (XRange × Option (XRange × Qualifier))) → Both (InComponent N) (IfAny InSecond) v → InPartial N (partial_of v)
    in_bare (m, None) h = (h.0, (tt, tt))
    in_bare (m, Some (n, None)) h = (h.0, (h.1.0, tt))
    in_bare (m, Some (n, Some (p, q))) h = (h.0, (h.1.0, h.1.1.0))

    pub bare_partial_described : Describes (Numbers f) (IsBarePartial f) (InPartial N) (rule.bare_partial f)
    bare_partial_described = mapped_described (described_as bare_in in_bare (followed_described (component_described f) (optional_described (prefixed_described 46 (omega arith) (followed_described (component_described f) (optional_described (prefixed_described 46 (omega arith) patch_described)))))))

  pub partial_described : (f : Flavour) → Describes (Numbers f) (IsPartial f) (InPartial N) (rule.partial f)
  partial_described Npm = either_described (prefixed_described 118 (omega arith) (bare_partial_described Npm)) (bare_partial_described Npm)
  partial_described Normal = bare_partial_described Normal
  partial_described Specifier = bare_partial_described Specifier

  -- ---- comparators

  pub led_described : Describes (Numbers Npm) IsLed (InPartial N) rule.led
  led_described = after_described equals_described (after_described whitespace_described (after_described v_described (after_described whitespace_described (partial_described Npm))))

  pub tilde_described : (f : Flavour) → Describes (Numbers f) (IsTildeOf f) (InComparator N) (rule.tilde f)
  tilde_described Npm = mapped_described (after_described ignored_described (after_described tildes_described led_described))
  tilde_described Normal = mapped_described (prefixed_described 126 (omega arith) (partial_described Normal))
  tilde_described Specifier = mapped_described (prefixed_described 126 (omega arith) (partial_described Specifier))

  pub caret_described : (f : Flavour) → Describes (Numbers f) (IsCaretOf f) (InComparator N) (rule.caret f)
  caret_described Npm = mapped_described (after_described ignored_described (prefixed_described 94 (omega arith) led_described))
  caret_described Normal = mapped_described (prefixed_described 94 (omega arith) (partial_described Normal))
  caret_described Specifier = mapped_described (prefixed_described 94 (omega arith) (partial_described Specifier))

  pub operators_described : (f : Flavour) → Describes (Numbers f) (Either (IsTildeOf f) (IsCaretOf f)) (InComparator N) (alt (rule.tilde f) (rule.caret f))
  operators_described f = either_described (tilde_described f) (caret_described f)

  pub primitive_described : (f : Flavour) → Describes (Numbers f) (IsOfPrimitive f) (InComparator N) (rule.primitive f)
  primitive_described f = mapped_described (described_as (λ v h. (tt, h)) (λ v h. h.1) (followed_described kind_described (after_described whitespace_described (partial_described f))))

  pub bare_described : (f : Flavour) → Describes (Numbers f) (IsBare f) (InComparator N) (rule.partial f)
  bare_described f = mapped_described (partial_described f)

  pub comparator_described : (f : Flavour) → Describes (Numbers f) (IsComparator f) (InComparator N) (rule.comparator f)
  comparator_described Npm = either_described (operators_described Npm) (either_described (primitive_described Npm) (bare_described Npm))
  comparator_described Normal = either_described (operators_described Normal) (either_described (primitive_described Normal) (bare_described Normal))
  comparator_described Specifier = either_described (operators_described Specifier) (bare_described Specifier)

  -- ---- alternatives

  pub hyphened_described : Describes (Numbers Npm) IsHyphened (InPartial N) rule.hyphened
  hyphened_described = after_described some_whitespace_described (prefixed_described 45 (omega arith) (after_described some_whitespace_described (before_described (partial_described Npm) whitespace_described)))

  pub hyphen_described : Describes (Numbers Npm) IsHyphen (Each (InComparator N)) rule.hyphen
  hyphen_described = mapped_described (described_as (λ v h. h.0) (λ v h. (h, tt)) (followed_described (partial_described Npm) hyphened_described))

  pub filled_described : (f : Flavour) → IsCutting f → Describes (Numbers f) (IsFilled f) (Each (InComparator N)) (rule.filled f)
  filled_described Npm npm = either_described hyphen_described (listed_described (comparator_described Npm) separator_described)
  filled_described Normal normal = listed_described (comparator_described Normal) some_whitespace_described
  filled_described Specifier cuts = elim cuts [ ]

  module _ (f : Flavour) (cuts : IsCutting f) where
    piece_described : Describes (Numbers f) (IsPiece f) (Each (InComparator N)) (rule.piece f)
    piece_described = record { into = go; from = λ t h. back t (alt_says empty (rule.filled f) t h) }
      where
        go : (t : List ℕ) (cs : List Comparator) → IsPiece f t cs → Each (InComparator N) cs → Says (Numbers f) (rule.piece f) t
        go t [] h i = says_alt empty (rule.filled f) t (inl (record { written = []; holds = refl; spells = done refl h }))
        go t (c ∷ cs) h i = says_alt empty (rule.filled f) t (inr ((filled_described f cuts).into t (c ∷ cs) h i))

        back : (t : List ℕ) → Says (Numbers f) empty t ⊎ Says (Numbers f) (rule.filled f) t → (cs : List Comparator) × IsPiece f t cs × Each (InComparator N) cs
        back t (inl h) = ([], none_spelled h.spells h.holds, tt)
        back t (inr h) = let w = (filled_described f cuts).from t h in (w.0, filled_piece f cuts t w.0 w.1, w.2)

    any_piece_described : Describes (Numbers f) (IsAnyPiece f true) (Each (InComparator N)) (alt (rule.piece f) rule.whitespace)
    any_piece_described = record { into = go; from = λ t h. back t (alt_says (rule.piece f) rule.whitespace t h) }
      where
        go : (t : List ℕ) (cs : List Comparator) → IsAnyPiece f true t cs → Each (InComparator N) cs → Says (Numbers f) (alt (rule.piece f) rule.whitespace) t
        go t cs (inl h) i = says_alt (rule.piece f) rule.whitespace t (inl (piece_described.into t cs h i))
        go t cs (inr h) i = says_alt (rule.piece f) rule.whitespace t (inr (whitespace_described.into t tt h.1 tt))

        back : (t : List ℕ) → Says (Numbers f) (rule.piece f) t ⊎ Says (Numbers f) rule.whitespace t → (cs : List Comparator) × IsAnyPiece f true t cs × Each (InComparator N) cs
        back t (inl h) = let w = piece_described.from t h in (w.0, inl w.1, w.2)
        back t (inr h) = let w = whitespace_described.from t h in ([], inr (refl, w.1, refl), tt)

    piece_or_cut_described : Describes (Numbers f) (IsPieceOrCut f) (Each (InComparator N)) (rule.piece_or_cut f)
    piece_or_cut_described = record { into = go; from = λ t h. back t (alt_says (rule.piece f) (seq (alt (rule.piece f) rule.whitespace) (word (codes "||"))) t h) }
      where
        bars : Describes (Numbers f) (IsText (codes "||")) Any (word (codes "||"))
        bars = word_described (codes "||") refl

        go : (t : List ℕ) (cs : List Comparator) → IsPieceOrCut f t cs → Each (InComparator N) cs → Says (Numbers f) (rule.piece_or_cut f) t
        go t cs (alone h) i = says_alt (rule.piece f) (seq (alt (rule.piece f) rule.whitespace) (word (codes "||"))) t (inl (piece_described.into t cs h i))
        go t cs (cut {piece} h) i = says_alt (rule.piece f) (seq (alt (rule.piece f) rule.whitespace) (word (codes "||"))) t (inr (says_seq (alt (rule.piece f) rule.whitespace) (word (codes "||")) piece (codes "||") t refl (any_piece_described.into piece cs h i) (bars.into (codes "||") tt refl tt)))

        back : (t : List ℕ) → Says (Numbers f) (rule.piece f) t ⊎ Says (Numbers f) (seq (alt (rule.piece f) rule.whitespace) (word (codes "||"))) t → (cs : List Comparator) × IsPieceOrCut f t cs × Each (InComparator N) cs
        back t (inl h) = let w = piece_described.from t h in (w.0, alone w.1, w.2)
        back t (inr h) =
            let s = seq_says (alt (rule.piece f) rule.whitespace) (word (codes "||")) t h in
            let w = any_piece_described.from s.0 s.3 in
            let b = bars.from s.1 s.4 in
            (w.0, subst (λ t. IsPieceOrCut f t w.0) (sym (s.2 ∙ ap (λ l. s.0 ++ l) b.1)) (cut w.1), w.2)

  pub part_described : (f : Flavour) → Describes (Numbers f) (IsPart f) (Each (InComparator N)) (rule.part f)
  part_described Npm = piece_or_cut_described Npm npm
  part_described Normal = piece_or_cut_described Normal normal
  part_described Specifier = mapped_described (described_as (λ c h. h.0) (λ c h. (h, tt)) (comparator_described Specifier))

-- ---- versions

abbrev pub Fitting : List ℕ → Type 0
Fitting = IsSized Loose Fits

-- a version with whitespace around it
abbrev pub IsSurrounded : List ℕ → Version → Type 0
IsSurrounded = After IsWhitespace (Before IsVersion IsWhitespace)

abbrev pub IsCore : List ℕ → (ℕ × (ℕ × ℕ)) × Qualifier → Type 0
IsCore = Joined NoDigitFollows IsTriple (IsQualifier Loose)

abbrev ThreeFit : ℕ × (ℕ × ℕ) → Type 0
ThreeFit = Both Fits (Both Fits Fits)

lead_described : Describes Fitting IsLead Any rule.lead
lead_described = mapped_described (described_as (λ v h. if_any v) (λ v h. tt) (after_described (described_as (λ v h. if_any v) (λ v h. tt) (optional_described (letter_described 61 refl))) (after_described whitespace_described (optional_described (prefixed_described 118 (omega arith) whitespace_described)))))

number_described : Describes Fitting IsLooseNumber Fits rule.number
number_described = record { into = λ t n h i. number_said t (is_sized Loose t n h i); from = λ t h. let n = said_number t h in (digits_value 10 t, n.number, n.size) }

triple_described : Describes Fitting IsTriple ThreeFit rule.triple
triple_described = followed_described number_described (prefixed_described 46 (omega arith) (followed_described number_described (prefixed_described 46 (omega arith) number_described)))

core_described : Describes Fitting IsCore (Both ThreeFit Any) (seq rule.triple (unless rule.digits (rule.qualifier Loose)))
core_described = record { into = go; from = back }
  where
    qualifier : Describes Fitting (IsQualifier Loose) Any (rule.qualifier Loose)
    qualifier = qualifier_described Loose

    none : (f t : List ℕ) → NoDigitFollows f t → Avoids rule.digits t
    none f [] h = tt
    none f (x ∷ t) h = false_from_ne_true (has rule.digits x) (λ k. h (digit_passing.from x k))

    go : (t : List ℕ) (v : (ℕ × (ℕ × ℕ)) × Qualifier) → IsCore t v → Both ThreeFit Any v → Says Fitting (seq rule.triple (unless rule.digits (rule.qualifier Loose))) t
    go t v h i =
        let behind = said_ground (rule.qualifier Loose) refl h.second (qualifier.into h.second v.1 h.in_second tt) in
        says_seq rule.triple (unless rule.digits (rule.qualifier Loose)) h.first h.second t h.text_is (triple_described.into h.first v.0 h.in_first i.0) (ground_said (unless rule.digits (rule.qualifier Loose)) refl h.second (none h.first h.second h.seam, behind))

    back : (t : List ℕ) → Says Fitting (seq rule.triple (unless rule.digits (rule.qualifier Loose))) t → (v : (ℕ × (ℕ × ℕ)) × Qualifier) × IsCore t v × Both ThreeFit Any v
    back t h =
        let m = seq_says rule.triple (unless rule.digits (rule.qualifier Loose)) t h in
        let n = triple_described.from m.0 m.3 in
        let p = said_ground (unless rule.digits (rule.qualifier Loose)) refl m.1 m.4 in
        let q = qualifier.from m.1 (ground_said (rule.qualifier Loose) refl m.1 p.1) in
        ((n.0, q.0), record { first = m.0; second = m.1; text_is = m.2; in_first = n.1; in_second = q.1; seam = no_digit_follows m.0 m.1 p.0 }, (n.2, tt))

version_fits : (v : (ℕ × (ℕ × ℕ)) × Qualifier) → Both ThreeFit Any v → AllNumbersFit (version_of v)
version_fits v h = record { major = h.0.0; minor = h.0.1.0; patch = h.0.1.1 }

fits_version : (v : (ℕ × (ℕ × ℕ)) × Qualifier) → AllNumbersFit (version_of v) → Both ThreeFit Any v
fits_version v h = ((h.major, (h.minor, h.patch)), tt)

version_described : Describes Fitting IsVersion AllNumbersFit rule.version
version_described = mapped_described (described_as fits_version version_fits (after_described lead_described core_described))

pub surrounded_described : Describes Fitting IsSurrounded AllNumbersFit rule.surrounded_version
surrounded_described = after_described whitespace_described (before_described version_described whitespace_described)
