-- Leading separators between comparators.
use Rattle.std.proofs.Common.{◌≡◌, ◌≤◌, ◌<◌, ℕ, true, false, List, [], ◌∷◌, ◌++◌, length, Option, Some, None, refl, sym, ap, ◌∙◌, arith, length-append, inl, inr, ◌==◌, codes, nat_le}
use Rattle.std.specs.Char.{is_whitespace}
use Rattle.std.proofs.lemmas.Bool.{cases_lt, eq-eqb}
use Rattle.std.proofs.lemmas.Bool.Decides.{nat_tests}
use Rattle.semver_base.specs.Grammar.{After, HasNone, IsLongest, IsText, Reads}
use Rattle.semver_base.specs.Lexical.{IsWhitespace}
use Rattle.semver_base.specs.WhitespaceLaws.{whitespace_made, is_whitespace_byte, no_whitespace, some_whitespace}
use Rattle.semver_base.specs.ByteLaws.{BeginsBy, Disjoint, apart_by, goes_from_made, joined_begins, mapped_begins}
use Rattle.semver_base.specs.GrammarLaws.{Apart, NonEmpty, either_longer, either_none, either_that, either_this, followed, followed_none_second, joined_none_first, mapped, mapped_none}
use Rattle.semver_req.specs.Pieces.{IsListOperator, IsNpmSeparator, IsOperator}
use Rattle.semver_req.proofs.GrammarFacts.{operator_apart, operator_some, whitespace_operator}

-- ---- a token

pub text_longest : (t text rest : List ℕ) → text ≡ t ++ rest → IsLongest (IsText t) text tt rest
text_longest t text rest e = record { front = t; text_is = e; stands = refl; longest = λ a b w f h. (omega (arith, ap length h), λ _. refl) }

pub text_none : (t text : List ℕ) → ((rest : List ℕ) → text ≡ t ++ rest → ⊥) → HasNone (IsText t) text
text_none t text other = record { none = λ a b w e h. other b (e ∙ ap (λ z. z ++ b) h) }

-- ---- `&&` or `,`

pub operator_comma : {text rest : List ℕ} → text ≡ 44 ∷ rest → IsLongest IsListOperator text tt rest
operator_comma {text} {rest} e = either_that (text_none (codes "&&") text (λ r f. cc (sym e ∙ f))) (text_longest (codes ",") text rest e)

module _ {text : List ℕ} (other : (rest : List ℕ) → text ≡ 44 ∷ rest → ⊥) where
  no_comma : HasNone (IsText (codes ",")) text
  no_comma = text_none (codes ",") text other

  pub operator_or_none : (r : Option (Unit {0} × List ℕ)) → Reads (IsText (codes "&&")) text r → Reads IsListOperator text r
  operator_or_none None n = either_none n no_comma
  operator_or_none (Some p) h = either_this h no_comma

-- ---- npm's separators

pub separator_prefixed : {text rest more end : List ℕ} → IsLongest IsWhitespace text tt rest → IsLongest IsListOperator rest tt more → IsLongest IsWhitespace more tt end → IsLongest IsNpmSeparator text tt end
separator_prefixed {text} {rest} {more} {end} p q r =
    let whole : IsLongest (After IsWhitespace (After IsListOperator IsWhitespace)) text tt end = mapped (followed whitespace_operator p (mapped (followed operator_apart q r))) in
    elim (cases_lt (length rest) (length text)) [
      | inl whitespace ↦ either_longer whole (some_whitespace text rest p whitespace) (omega (arith, some_front q.front q.stands, ap length q.text_is, length-append q.front more, ap length r.text_is, length-append r.front end))
      | inr not_whitespace ↦ either_this whole (no_whitespace text rest p not_whitespace)
    ]
  where
    some_front : (a : List ℕ) → IsListOperator a tt → 0 < length a
    some_front [] h = absurd (operator_some.some tt h)
    some_front (x ∷ a) h = omega arith

module _ {text rest : List ℕ} (p : IsLongest IsWhitespace text tt rest) (n : HasNone IsListOperator rest) where
  no_operator : HasNone (After IsWhitespace (After IsListOperator IsWhitespace)) text
  no_operator = mapped_none (followed_none_second whitespace_operator p (mapped_none (joined_none_first n)))

  pub separator_whitespace : length rest < length text → IsLongest IsNpmSeparator text tt rest
  separator_whitespace whitespace = either_that no_operator (some_whitespace text rest p whitespace)

  pub separator_none : length text ≤ length rest → HasNone IsNpmSeparator text
  separator_none not_whitespace = either_none no_operator (no_whitespace text rest p not_whitespace)

-- ---- a byte twice, and the whitespace around it

module _ (m : ℕ) where
  word_begins : BeginsBy (IsText (m ∷ m ∷ [])) (λ x. x == m)
  word_begins = record { begins = λ x b. eq-eqb x m (cc b.stands) }

  word_some : NonEmpty (IsText (m ∷ m ∷ []))
  word_some = record { some = λ v h. cc h }

  -- the token doesn't continue
  word_apart : Apart (IsText (m ∷ m ∷ [])) IsWhitespace
  word_apart = record { apart = λ x g b. omega (arith, ap length g.short, ap length g.long, length-append g.front (x ∷ g.more)) }

  module _ (ascii : m < 128) (other : is_whitespace m ≡ false) where
    whitespace_no_word : Disjoint is_whitespace_byte (λ x. x == m)
    whitespace_no_word x h k = let same : x ≡ m = grind (arith, nat_tests) in let whitespace : is_whitespace_byte m ≡ true = rw (← same) h in not_whitespace (rw other at whitespace)
      where
        not_whitespace : nat_le 128 m ≡ true → ⊥
        not_whitespace e = grind (arith, nat_tests)

    whitespace_word : Apart IsWhitespace (After (IsText (m ∷ m ∷ [])) IsWhitespace)
    whitespace_word = apart_by is_whitespace_byte (λ x. x == m) whitespace_no_word (goes_from_made whitespace_made) (mapped_begins (joined_begins word_some word_begins))

    module _ {text start : List ℕ} (b : IsLongest IsWhitespace text tt start) where
      pub operator_read : {rest end : List ℕ} → IsLongest (IsText (m ∷ m ∷ [])) start tt rest → IsLongest IsWhitespace rest tt end → IsLongest (IsOperator m) text tt end
      operator_read w c = mapped (followed whitespace_word b (mapped (followed word_apart w c)))

      pub operator_none : HasNone (IsText (m ∷ m ∷ [])) start → HasNone (IsOperator m) text
      operator_none n = mapped_none (followed_none_second whitespace_word b (mapped_none (joined_none_first n)))
