-- No identifier of the grammar is below `0`, so what comes next after a pre-release is the same with `0` appended.
use Rattle.std.proofs.Common.{◌≡◌, ◌==◌, ◌<◌, ◌≤◌, ℕ, true, false, List, [], ◌∷◌, ◌++◌, Some, refl, inl, inr, arith, Ordering, Equal, Greater, Less}
use Rattle.std.proofs.lemmas.Bool.{and_parts, cases_Bool}
use Rattle.std.proofs.lemmas.Bool.Decides.{nat_tests}
use Rattle.std.proofs.lemmas.Cmp.{tied_itself}
use Rattle.std.specs.Char.{is_ascii_digit}
use Rattle.std.specs.Cmp.Lexicographic.{slice_cmp}
use Rattle.std.specs.Ordering.{is_le, nat_cmp, ordering_then}
use Rattle.std.specs.Str.{all_ascii_digits}
use Rattle.std.specs.Str.Parse.{without_leading_plus}
use Rattle.semver_base.specs.Intervals.{zero_identifier}
use Rattle.semver_base.specs.Lexical.{IsIdentifier, is_identifier_byte}
use Rattle.semver_base.specs.Precedence.{identifier_class, identifier_cmp, identifier_value, is_number, number_of}
use Rattle.semver_base.specs.PrecedenceLaws.{identifier_total}
use Rattle.semver_base.specs.VersionText.{AreIdentifiers}
use Rattle.semver_base.specs.OrderLaws.{le_then, nat_le_cmp}

-- ---- `0` among the identifiers

zero_number : number_of zero_identifier ≡ Some 0
unfolding number_of
zero_number = refl

-- a list that has ended isn't above any
nothing_lowest : {X : Type 0} (R : X → X → Ordering) (xs : List X) → is_le (slice_cmp R [] xs) ≡ true
nothing_lowest R [] = refl
nothing_lowest R (x ∷ xs) = refl

identifier_no_plus : (b : ℕ) → is_identifier_byte b ≡ true → (b == 43) ≡ false
identifier_no_plus b h = grind (arith, nat_tests)

digit_from : (b : ℕ) → is_ascii_digit b ≡ true → 48 ≤ b
digit_from b h = grind (arith, nat_tests)

identifier_bare : (b : ℕ) (bs : List ℕ) → is_identifier_byte b ≡ true → without_leading_plus (b ∷ bs) ≡ b ∷ bs
identifier_bare b bs identifier = rw (identifier_no_plus b identifier) refl

-- an identifier that is a number begins with a digit
number_digit : (b : ℕ) (bs : List ℕ) → is_identifier_byte b ≡ true → is_number (b ∷ bs) ≡ true → 48 ≤ b
number_digit b bs identifier number =
    let plain = identifier_bare b bs identifier in
    let digits : all_ascii_digits (without_leading_plus (b ∷ bs)) ≡ true = (and_parts _ _ (and_parts _ _ number).0).1 in
    let own : all_ascii_digits (b ∷ bs) ≡ true = rw plain at digits in
    digit_from b (and_parts _ _ own).0

-- such an identifier isn't below `0` as a text
zero_text : (id : List ℕ) → IsIdentifier id id → is_number id ≡ true → is_le (slice_cmp nat_cmp zero_identifier id) ≡ true
zero_text [] identifier number = absurd (let some : 0 < 0 = identifier.some in omega arith)
zero_text (b ∷ bs) identifier number =
    le_then (nat_cmp 48 b) _ (nat_le_cmp 48 b (number_digit b bs (and_parts (is_identifier_byte b) _ identifier.pass).0 number)) (λ _. nothing_lowest nat_cmp bs)

class_number : (id : List ℕ) → nat_cmp 0 (identifier_class id) ≡ Equal → is_number id ≡ true
unfolding number_of
class_number id e = elim (cases_Bool (is_number id)) [
  | inl number ↦ number
  | inr text ↦ let high : nat_cmp 0 1 ≡ Equal = rw text at e in cc high
]

-- no identifier of the grammar is below `0`
pub zero_lowest : (id : List ℕ) → IsIdentifier id id → is_le (identifier_cmp zero_identifier id) ≡ true
zero_lowest id identifier = rw zero_number (
    le_then (nat_cmp 0 (identifier_class id)) _ (nat_le_cmp 0 (identifier_class id) (omega arith)) (λ number.
    le_then (nat_cmp 0 (identifier_value id)) _ (nat_le_cmp 0 (identifier_value id) (omega arith)) (λ _. zero_text id identifier (class_number id number))))

-- ---- lists of identifiers

-- the list of `0` alone isn't above any other non-empty one
pub zeros_lowest : (x : List ℕ) (xs : List (List ℕ)) → AreIdentifiers (x ∷ xs) → is_le (slice_cmp identifier_cmp (zero_identifier ∷ []) (x ∷ xs)) ≡ true
zeros_lowest x xs identifiers = le_then (identifier_cmp zero_identifier x) _ (zero_lowest x identifiers.0) (λ _. nothing_lowest identifier_cmp xs)

-- a list with `0` appended is the next one
pub appended_next : (some others : List (List ℕ)) → AreIdentifiers others → slice_cmp identifier_cmp some others ≡ Less → is_le (slice_cmp identifier_cmp (some ++ zero_identifier ∷ []) others) ≡ true
appended_next [] [] identifiers below = cc below
appended_next [] (y ∷ ys) identifiers below = zeros_lowest y ys identifiers
appended_next (x ∷ xs) [] identifiers below = cc below
appended_next (x ∷ xs) (y ∷ ys) identifiers below = go (identifier_cmp x y) (appended_next xs ys identifiers.1) below
  where
    go : (r : Ordering) → (slice_cmp identifier_cmp xs ys ≡ Less → is_le (slice_cmp identifier_cmp (xs ++ zero_identifier ∷ []) ys) ≡ true)
        → ordering_then r (slice_cmp identifier_cmp xs ys) ≡ Less → is_le (ordering_then r (slice_cmp identifier_cmp (xs ++ zero_identifier ∷ []) ys)) ≡ true
    go Less later e = refl
    go Equal later e = later e
    go Greater later e = cc e

-- and it is above the list
pub appended_above : (ids : List (List ℕ)) → slice_cmp identifier_cmp (ids ++ zero_identifier ∷ []) ids ≡ Greater
appended_above [] = refl
appended_above (x ∷ xs) = rw (tied_itself identifier_total x) (appended_above xs)
