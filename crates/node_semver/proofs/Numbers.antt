-- The numbers among identifiers.
use Rattle.std.proofs.Common.{◌≡◌, ◌∙◌, ◌+◌, ◌<◌, ◌++◌, ◌∷◌, ◌^◌, ℕ, true, List, [], Option, Some, None, Result, Ok, Err, length, refl, ap, inl, inr, arith}
use Rattle.std.proofs.lemmas.Bool.{and_parts, cases_Bool, lt-ltb, ltb-true}
use Rattle.std.proofs.lemmas.Str.Parse.{IsNumeralModel, numerals_by_value, tells_all_ascii_digits}
use Rattle.std.specs.Result.{result_ok}
use Rattle.std.specs.Str.{all_ascii_digits}
use Rattle.std.specs.Str.Parse.{ParsesUnsigned, digits_value, without_leading_plus}
use Rattle.semver_base.specs.Precedence.{is_number, number_of}
use Rattle.node_semver.specs.Increment.{counted, is_counted, last_number, last_of, number_at}

-- ---- the number that an identifier is

own : IsNumeralModel (λ ds. all_ascii_digits ds ≡ true) (digits_value 10)
own = numerals_by_value _ tells_all_ascii_digits

-- what `parse` returns is the number
pub parsed_number : {E : Type 0} (text : List ℕ) (r : Result ℕ E) → ParsesUnsigned 64 10 text r → result_ok r ≡ number_of text
unfolding number_of
parsed_number text (Ok x) h =
    let digits = without_leading_plus text in
    rw (lt-ltb 0 (length digits) h.0.0.0, own.from digits h.0.0.1, lt-ltb (digits_value 10 digits) (2 ^ 64) h.0.1) (ap Some h.1)
parsed_number text (Err e) h = elim (cases_Bool (is_number text)) [
  | inl number ↦
      let digits = without_leading_plus text in
      let both = and_parts _ _ number in
      let some = and_parts _ _ both.0 in
      absurd (h ((ltb-true 0 (length digits) some.0, own.to digits some.1), ltb-true (digits_value 10 digits) (2 ^ 64) both.1))
  | inr other ↦ rw other refl
]

-- ---- the last one

last_assoc : (a b c : Option (ℕ × ℕ)) → last_of a (last_of b c) ≡ last_of (last_of a b) c
last_assoc a b None = refl
last_assoc a b (Some c) = refl

nothing_before : (a : Option (ℕ × ℕ)) → a ≡ last_of None a
nothing_before None = refl
nothing_before (Some a) = refl

abbrev place_of : Option (ℕ × ℕ) → ℕ
place_of None = 0
place_of (Some found) = found.0

-- one identifier more
pub last_more : (place : ℕ) (xs : List (List ℕ)) (x : List ℕ)
    → last_number place (xs ++ x ∷ []) ≡ last_of (last_number place xs) (number_at (place + length xs) (number_of x))
last_more place [] x =
    let here : place ≡ place + 0 = omega arith in
    nothing_before (number_at place (number_of x)) ∙ ap (λ at. last_of None (number_at at (number_of x))) here
last_more place (y ∷ ys) x =
    let behind : place + 1 + length ys ≡ place + length (y ∷ ys) = omega arith in
    rw (last_more (place + 1) ys x, last_assoc (number_at place (number_of y)) (last_number (place + 1) ys) (number_at (place + 1 + length ys) (number_of x)))
    (ap (λ at. last_of (last_of (number_at place (number_of y)) (last_number (place + 1) ys)) (number_at at (number_of x))) behind)

-- its place is one of the identifiers
pub last_inside : (place : ℕ) (xs : List (List ℕ)) (at n : ℕ) → last_number place xs ≡ Some (at, n) → at < place + length xs
last_inside place [] at n e = absurd (cc e)
last_inside place (x ∷ xs) at n e = go (last_number (place + 1) xs) (last_inside (place + 1) xs) e
  where
    first : (number : Option ℕ) → number_at place number ≡ Some (at, n) → at < place + length (x ∷ xs)
    first None is = absurd (cc is)
    first (Some m) is = let here : place ≡ at = ap place_of is in omega (arith, here)

    go : (found : Option (ℕ × ℕ)) → ((b m : ℕ) → found ≡ Some (b, m) → b < place + 1 + length xs) → last_of (number_at place (number_of x)) found ≡ Some (at, n) → at < place + length (x ∷ xs)
    go None later is = first (number_of x) is
    go (Some last) later is = let below = later at n is in omega (arith, below)

-- so is that of the number that is raised
pub counted_inside : (identifiers pre : List (List ℕ)) (at n : ℕ) → counted identifiers pre ≡ Some (at, n) → at < length pre
counted_inside [] pre at n e = let below = last_inside 0 pre at n e in omega (arith, below)
counted_inside (identifier ∷ others) pre at n e = elim (cases_Bool (is_counted (identifier ∷ others) pre)) [
  | inl goes_on ↦ let found : last_number 0 pre ≡ Some (at, n) = rw goes_on at e in let below = last_inside 0 pre at n found in omega (arith, below)
  | inr ends ↦ let none : None ≡ Some (at, n) = rw ends at e in absurd (cc none)
]
