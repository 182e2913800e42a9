-- The digits that a text begins with.
use Rattle.std.proofs.Common.{◌≡◌, ◌<◌, ◌∷◌, ℕ, List, [], IsUtf8, Some, None, true, drop, suc, zero, length, refl, ap, sym, take, inl, inr, arith}
use Rattle.std.specs.Char.{is_ascii_digit}
use Rattle.std.proofs.lemmas.Bool.{cases_Bool}
use Rattle.std.proofs.lemmas.List.Sums.{take_while-cons}
use Rattle.std.proofs.lemmas.Bool.Decides.{nat_tests}
use Rattle.std.proofs.lemmas.Str.{IsUtf8-from_ascii}
use Rattle.std.specs.Str.{IsAscii}
use Rattle.semver_base.specs.Precedence.{number_of}
use Rattle.node_semver.specs.Coerce.{leading_digits, leading_number}

-- as many bytes as there are digits are the digits
pub digits_taken : (text : List ℕ) → take (length (leading_digits text)) text ≡ leading_digits text
digits_taken [] = refl
digits_taken (c ∷ text) = elim (cases_Bool (is_ascii_digit c)) [
  | inl digit ↦ rw (take_while-cons is_ascii_digit c text, digit) (ap (λ (xs : List ℕ). c ∷ xs) (digits_taken text))
  | inr other ↦ rw (take_while-cons is_ascii_digit c text, other) refl
]

none_ascii : IsAscii []
none_ascii i = omega arith

more_ascii : (c : ℕ) (text : List ℕ) → c < 128 → IsAscii text → IsAscii (c ∷ text)
more_ascii c text h k zero = h
more_ascii c text h k (suc i) = k i

pub digit_ascii : (c : ℕ) → is_ascii_digit c ≡ true → c < 128
digit_ascii c h = grind (arith, nat_tests)

digits_ascii : (text : List ℕ) → IsAscii (leading_digits text)
digits_ascii [] = none_ascii
digits_ascii (c ∷ text) = elim (cases_Bool (is_ascii_digit c)) [
  | inl digit ↦ rw (take_while-cons is_ascii_digit c text, digit) (more_ascii c (leading_digits text) (digit_ascii c digit) (digits_ascii text))
  | inr other ↦ rw (take_while-cons is_ascii_digit c text, other) none_ascii
]

pub digits_utf8 : (text : List ℕ) (n : ℕ) → n ≡ length (leading_digits text) → IsUtf8 (take n text)
digits_utf8 text n e = rw (e, digits_taken text) (IsUtf8-from_ascii (leading_digits text) (digits_ascii text))

-- the number is found
pub number_found : (text rest : List ℕ) (n : ℕ) (m : ℕ) → m ≡ length (leading_digits text) → Some n ≡ number_of (leading_digits text) → rest ≡ drop m text → Some (n, rest) ≡ leading_number text
number_found text rest n m len is at = rw (at, len, sym is) refl

-- there is none
pub no_number : (text : List ℕ) → None ≡ number_of (leading_digits text) → None ≡ leading_number text
no_number text is = rw (sym is) refl
