-- No tag begins with a comparison operator or a caret.
use Rattle.std.proofs.Common.{◌≡◌, ◌≤◌, ◌<◌, ◌+◌, ◌-◌, ℕ, zero, suc, Bool, true, false, not, ◌&&◌, List, [], ◌∷◌, ◌++◌, inl, inr, ltb, leb, refl, ap, ◌∙◌, arith}
use Rattle.std.specs.Str.{chars}
use Rattle.std.specs.List.{list_all}
use Rattle.std.proofs.lemmas.Bool.{and_parts, leb-true, ltb-true, not-true, or_cases}
use native.Mathlib.Nat.{eq-or-lt_of_le}
use Rattle.std.proofs.lemmas.Str.{chars-append, chars-IsAscii}
use Rattle.unicode.proofs.CategoryComputing.{ucd_category}
use Rattle.unicode.proofs.DerivedComputing.{ucd_derived}
use Rattle.semver_base.specs.ByteLaws.{BeginsBy}
use Rattle.semver_base.specs.SolidLaws.{all_ascii}
use Rattle.semver_req.specs.Comparators.{IsPrimitiveKind}
use Rattle.semver_req.specs.Tag.{is_tag_character}
use Rattle.semver_req.specs.declared.common.values.Flavour.TheVariants.{Normal}
use Rattle.semver_req.proofs.Endings.{ascii_text}
use Rattle.semver_req.proofs.GrammarFacts.{kind_under}
use Rattle.semver_req.proofs.GrammarParts.{IsCaretSign}
use Rattle.semver_req.proofs.Grammars as rule
use Rattle.semver_req.proofs.RuleFacts.{begins_first, plain}
use Rattle.semver_req.proofs.Rules.{Bytes, firsts, has, steps}

abbrev pub are_tag_characters : List ℕ → Bool
are_tag_characters text = list_all is_tag_character (chars text)

-- ---- what holds of each byte of a set

abbrev run : ℕ → ℕ → (ℕ → Bool) → Bool
run zero m p = true
run (suc n) m p = p m && run n (suc m) p

abbrev each_of : Bytes → (ℕ → Bool) → Bool
each_of [] p = true
each_of (r ∷ rs) p = run (r.1 - r.0) r.0 p && each_of rs p

run_there : (n m : ℕ) (p : ℕ → Bool) (x : ℕ) → run n m p ≡ true → m ≤ x → x < m + n → p x ≡ true
run_there zero m p x h low high = absurd (omega (arith, low, high))
run_there (suc n) m p x h low high = elim (eq-or-lt_of_le low) [
  | inl same ↦ rw (← same) ((and_parts (p m) (run n (suc m) p) h).0)
  | inr above ↦ run_there n (suc m) p x (and_parts (p m) (run n (suc m) p) h).1 above (omega (arith, high))
]

each_there : (s : Bytes) (p : ℕ → Bool) (x : ℕ) → each_of s p ≡ true → has s x ≡ true → p x ≡ true
each_there [] p x h k = cc k
each_there (r ∷ rs) p x h k =
    let both = and_parts (run (r.1 - r.0) r.0 p) (each_of rs p) h in
    elim (or_cases (leb r.0 x && ltb x r.1) (has rs x) k) [
      | inl here ↦
          let in_it = and_parts (leb r.0 x) (ltb x r.1) here in
          let low : r.0 ≤ x = leb-true r.0 x in_it.0 in
          let high : x < r.1 = ltb-true x r.1 in_it.1 in
          run_there (r.1 - r.0) r.0 p x both.0 low (omega (arith, low, high))
      | inr there ↦ each_there rs p x both.1 there
    ]

-- ---- signs that no tag begins with

abbrev pub is_sign : ℕ → Bool
is_sign x = ltb x 128 && not (is_tag_character x)

pub sign_no_tag : (x : ℕ) → is_sign x ≡ true → (rest : List ℕ) → are_tag_characters (x ∷ rest) ≡ false
sign_no_tag x h rest =
    let both = and_parts (ltb x 128) (not (is_tag_character x)) h in
    let small : list_all (λ y. ltb y 128) (x ∷ []) ≡ true = rw both.0 refl in
    let first : chars (x ∷ rest) ≡ x ∷ chars rest = chars-append (x ∷ []) rest (ascii_text (x ∷ []) small) ∙ ap (λ t. t ++ chars rest) (chars-IsAscii (x ∷ []) (all_ascii (x ∷ []) small)) in
    rw (first, not-true (is_tag_character x) both.1) refl

abbrev kind_starts : Bytes
kind_starts = firsts (steps (plain rule.kind))

kinds_checked : each_of kind_starts is_sign ≡ true
unfolding ucd_derived ucd_category
kinds_checked = refl

caret_checked : is_sign 94 ≡ true
unfolding ucd_derived ucd_category
caret_checked = refl

pub kind_no_tag : BeginsBy IsPrimitiveKind is_sign
kind_no_tag = record { begins = λ x b. each_there kind_starts is_sign x kinds_checked ((begins_first kind_under).begins x b) }

pub caret_no_tag : (x : ℕ) → IsCaretSign Normal x → is_sign x ≡ true
caret_no_tag x e = rw e caret_checked
