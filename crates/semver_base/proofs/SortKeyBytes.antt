-- The bytes of a sort key are printable, and it is at most three times as long as the version's text.
use Rattle.std.proofs.Common.{◌≡◌, ◌==◌, ◌<◌, ◌≤◌, ◌+◌, ◌*◌, ◌^◌, ℕ, true, List, [], ◌∷◌, ◌++◌, length, refl, arith, decimal, Option, Some, None, inl, inr, length-append}
use Rattle.std.proofs.lemmas.Bool.{and_from, cases_Bool}
use Rattle.std.proofs.lemmas.Bool.Decides.{nat_tests}
use Rattle.std.proofs.lemmas.Fmt.{length-decimal-le}
use Rattle.std.proofs.lemmas.Int.Digits.{digits_value-lt}
use Rattle.std.specs.Char.{is_ascii_digit, is_ascii_graphic}
use Rattle.std.specs.List.{flat_map, list_all}
use Rattle.std.specs.Str.Parse.{digits_value, without_leading_plus}
use Rattle.semver_base.specs.ByteLaws.{list_all-append, list_all-wider}
use Rattle.semver_base.specs.Lexical.{is_identifier_byte}
use Rattle.semver_base.specs.Precedence.{is_number, number_of}
use Rattle.semver_base.specs.SortKey.{SortKeysArePrintable, SortKeysAreShort, identifier_key, identifier_key_of, identifiers_key, number_key, pre_key}
use Rattle.semver_base.specs.VersionText.{AreIdentifiers, prefixed}
use Rattle.semver_base.specs.WrittenLaws.{loose_written}
use Rattle.semver_base.proofs.PrecedenceLemmas.{is_number-digits, is_number-fits}

-- ---- numbers among identifiers

plus_le : (text : List ℕ) → length (without_leading_plus text) ≤ length text
plus_le [] = omega arith
plus_le (b ∷ bs) = elim (cases_Bool (b == 43)) [
  | inl plus ↦ rw plus (omega arith)
  | inr other ↦ rw other (omega arith)
]

-- such a number fits, and has at most as many digits as the text has bytes
pub number_fits : (text : List ℕ) (n : ℕ) → number_of text ≡ Some n → (n < 2 ^ 64) × (length (decimal n) ≤ length text)
unfolding number_of
number_fits text n e = elim (cases_Bool (is_number text)) [
  | inl number ↦
      let plain = without_leading_plus text in
      let some : Some (digits_value 10 plain) ≡ Some n = rw number at e in
      let same : digits_value 10 plain ≡ n = cc some in
      let fits : n < 2 ^ 64 = rw same at (is_number-fits text number) in
      let numeral = is_number-digits text number in
      let under : n < 10 ^ length plain = rw same at (digits_value-lt 10 plain numeral.1) in
      (fits, omega (arith, plus_le text, length-decimal-le (length plain) n numeral.0 under fits))
  | inr other ↦ let none : None ≡ Some n = rw other at e in cc none
]

-- ---- bytes

digit_graphic : (b : ℕ) → is_ascii_digit b ≡ true → is_ascii_graphic b ≡ true
digit_graphic b h = grind (arith, nat_tests)

identifier_graphic : (b : ℕ) → is_identifier_byte b ≡ true → is_ascii_graphic b ≡ true
identifier_graphic b h = grind (arith, nat_tests)

letter_graphic : (n : ℕ) → n ≤ 20 → is_ascii_graphic (64 + n) ≡ true
letter_graphic n h = grind (arith, nat_tests)

joined : (s t : List ℕ) → list_all is_ascii_graphic s ≡ true → list_all is_ascii_graphic t ≡ true → list_all is_ascii_graphic (s ++ t) ≡ true
joined = list_all-append is_ascii_graphic

number : (n : ℕ) → n < 2 ^ 64 → list_all is_ascii_graphic (number_key n) ≡ true
number n h = and_from (is_ascii_graphic (64 + length (decimal n))) _
    (letter_graphic (length (decimal n)) (length-decimal-le 20 n (omega arith) (omega (arith, h)) h))
    (list_all-wider is_ascii_digit is_ascii_graphic digit_graphic (decimal n) (loose_written n h).stands.pass)

text : (t : List ℕ) → list_all is_identifier_byte t ≡ true → list_all is_ascii_graphic (t ++ (33 ∷ [])) ≡ true
text t h = joined t (33 ∷ []) (list_all-wider is_identifier_byte is_ascii_graphic identifier_graphic t h) refl

identifier : (t : List ℕ) → list_all is_identifier_byte t ≡ true → list_all is_ascii_graphic (identifier_key t) ≡ true
identifier t h = go (number_of t) refl
  where
    go : (p : Option ℕ) → number_of t ≡ p → list_all is_ascii_graphic (identifier_key_of p t) ≡ true
    go None e = text t h
    go (Some n) e = joined (number_key n) (t ++ (33 ∷ [])) (number n (number_fits t n e).0) (text t h)

identifiers : (ids : List (List ℕ)) → AreIdentifiers ids → list_all is_ascii_graphic (identifiers_key ids) ≡ true
identifiers [] h = refl
identifiers (id ∷ ids) h = joined (identifier_key id) (identifiers_key ids) (identifier id h.0.pass) (identifiers ids h.1)

pre : (ids : List (List ℕ)) → AreIdentifiers ids → list_all is_ascii_graphic (pre_key ids) ≡ true
pre [] h = refl
pre (id ∷ ids) h = identifiers (id ∷ ids) h

pub keys_printable : SortKeysArePrintable
keys_printable v h =
    joined (number_key v.major) _ (number v.major h.numbers.major)
    (joined (number_key v.minor) _ (number v.minor h.numbers.minor)
    (joined (number_key v.patch) (pre_key v.pre) (number v.patch h.numbers.patch) (pre v.pre h.pre)))

-- ---- lengths

identifier_short : (t : List ℕ) → length (identifier_key t) ≤ 2 * length t + 3
identifier_short t = go (number_of t) refl
  where
    go : (p : Option ℕ) → number_of t ≡ p → length (identifier_key_of p t) ≤ 2 * length t + 3
    go None e = omega (arith, length-append t (33 ∷ []))
    go (Some n) e = omega (arith, length-append (number_key n) (t ++ (33 ∷ [])), length-append t (33 ∷ []), (number_fits t n e).1)

identifiers_short : (ids : List (List ℕ)) → length (identifiers_key ids) ≤ 3 * length (flat_map (λ other. 46 ∷ other) ids) + 1
identifiers_short [] = omega arith
identifiers_short (id ∷ ids) =
    omega (arith, length-append (identifier_key id) (identifiers_key ids), length-append id (flat_map (λ other. 46 ∷ other) ids), identifier_short id, identifiers_short ids)

pre_short : (ids : List (List ℕ)) → length (pre_key ids) ≤ 3 * length (prefixed 45 ids) + 2
pre_short [] = omega arith
pre_short (id ∷ ids) = omega (arith, identifiers_short (id ∷ ids))

pub keys_short : SortKeysAreShort
keys_short v = omega (
  arith,
  length-append (number_key v.major) (number_key v.minor ++ (number_key v.patch ++ pre_key v.pre)),
  length-append (number_key v.minor) (number_key v.patch ++ pre_key v.pre),
  length-append (number_key v.patch) (pre_key v.pre),
  length-append (decimal v.major) (46 ∷ (decimal v.minor ++ (46 ∷ (decimal v.patch ++ (prefixed 45 v.pre ++ prefixed 43 v.build))))),
  length-append (decimal v.minor) (46 ∷ (decimal v.patch ++ (prefixed 45 v.pre ++ prefixed 43 v.build))),
  length-append (decimal v.patch) (prefixed 45 v.pre ++ prefixed 43 v.build),
  length-append (prefixed 45 v.pre) (prefixed 43 v.build),
  pre_short v.pre,
)
