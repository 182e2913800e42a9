-- Leading numbers: where runs of bytes end, and the value of digits.
use Rattle.std.proofs.Common.{◌≡◌, ◌≤◌, ◌<◌, ◌^◌, ℕ, zero, suc, Bool, true, false, List, [], ◌∷◌, ◌++◌, length, take, drop, get_or, Option, Some, None, Result, Ok, Err, refl, sym, ap, ◌∙◌, arith, inl, inr, ◌==◌, add-one, slice_index, Bor, IsUtf8, IsCharBoundary}
use Rattle.std.specs.Result.{OkIff, result_ok}
use Rattle.std.proofs.lemmas.List.Sums.{take_while-cons}
use Rattle.std.specs.List.{list_all, take_while}
use Rattle.std.specs.Char.{is_ascii_digit}
use Rattle.std.specs.Str.Parse.{ParsesUnsigned, digits_value}
use Rattle.std.proofs.lemmas.Str.{IsCharBoundary-start, IsCharBoundary-after_ascii}
use Rattle.std.proofs.lemmas.Str.Parse.{parse_digits}
use Rattle.std.proofs.lemmas.Bool.{cases_Bool, cases_lt, lt-ltb, le-ltb}
use Rattle.std.proofs.lemmas.Bool.Decides.{nat_tests}
use Rattle.std.proofs.lemmas.List.{take-append-drop, nil_from_length}
use Rattle.semver_base.specs.Grammar.{IsLongest, HasNone, ReadsAs, Run, Stops, CutsRun, answer_of}
use Rattle.semver_base.specs.Lexical.{IsLooseNumber, IsStrictNumber, is_identifier_byte, measured_of, sized}
use Rattle.semver_base.specs.declared.lexical.values.Measured.{Measured}
use Rattle.semver_base.specs.GrammarLaws.{narrowed, narrowed_none}
use Rattle.semver_base.specs.ListLaws.{run_longest, run_none}
use Rattle.semver_base.specs.TokenLaws.{own}

-- ---- where a run ends

taken_pass : (p : ℕ → Bool) (xs : List ℕ) → list_all p (take (length (take_while p xs)) xs) ≡ true
taken_pass p [] = refl
taken_pass p (x ∷ xs) = elim (cases_Bool (p x)) [
  | inl passes ↦ rw (take_while-cons p x xs, passes) (rw passes (taken_pass p xs))
  | inr fails ↦ rw (take_while-cons p x xs, fails) refl
]

rest_stops : (p : ℕ → Bool) (xs : List ℕ) → Stops p (drop (length (take_while p xs)) xs)
rest_stops p [] = tt
rest_stops p (x ∷ xs) = elim (cases_Bool (p x)) [
  | inl passes ↦ rw (take_while-cons p x xs, passes) (rest_stops p xs)
  | inr fails ↦ rw (take_while-cons p x xs, fails) fails
]

pub cuts_run : (p : ℕ → Bool) (xs first rest : List ℕ) (n : ℕ) → n ≡ length (take_while p xs) → first ≡ take n xs → rest ≡ drop n xs → CutsRun p xs first rest
cuts_run p xs first rest n e f g = record {
  text_is = rw (f, g) (sym (take-append-drop n xs));
  pass = rw (f, e) (taken_pass p xs);
  stops = rw (g, e) (rest_stops p xs);
}

bound : (p : ℕ → Bool) (xs : List ℕ) → length (take_while p xs) ≤ length xs
bound p [] = omega arith
bound p (x ∷ xs) = elim (cases_Bool (p x)) [
  | inl passes ↦ rw (take_while-cons p x xs, passes) (omega (arith, bound p xs))
  | inr fails ↦ rw (take_while-cons p x xs, fails) (omega arith)
]

low : (p : ℕ → Bool) → ((x : ℕ) → p x ≡ true → x < 128) → (xs : List ℕ) (i : ℕ) → i < length (take_while p xs) → get_or xs i 0 < 128
low p ascii [] i h = absurd (omega arith)
low p ascii (x ∷ xs) zero h = elim (cases_Bool (p x)) [
  | inl passes ↦ ascii x passes
  | inr fails ↦ let k : 0 < 0 = rw (take_while-cons p x xs, fails) at h in absurd (omega arith)
]
low p ascii (x ∷ xs) (suc i) h = elim (cases_Bool (p x)) [
  | inl passes ↦ let k : suc i < suc (length (take_while p xs)) = rw (take_while-cons p x xs, passes) at h in low p ascii xs i (omega arith)
  | inr fails ↦ let k : suc i < 0 = rw (take_while-cons p x xs, fails) at h in absurd (omega arith)
]

after_low : (xs : List ℕ) (n : ℕ) → IsUtf8 xs → n ≤ length xs → ((i : ℕ) → i < n → get_or xs i 0 < 128) → IsCharBoundary xs n
after_low xs zero u h ascii = IsCharBoundary-start xs u
after_low xs (suc n) u h ascii = rw (← add-one) (IsCharBoundary-after_ascii xs n u (omega arith) (ascii n (omega arith)))

pub inside_boundary : (p : ℕ → Bool) → ((x : ℕ) → p x ≡ true → x < 128) → (xs : List ℕ) (n : ℕ) → IsUtf8 xs → n ≤ length (take_while p xs) → IsCharBoundary xs n
inside_boundary p ascii xs n u h = after_low xs n u (omega (arith, h, bound p xs)) (λ i k. low p ascii xs i (omega (arith, h, k)))

pub run_boundary : (p : ℕ → Bool) → ((x : ℕ) → p x ≡ true → x < 128) → (xs : List ℕ) (n : ℕ) → IsUtf8 xs → n ≡ length (take_while p xs) → IsCharBoundary xs n
run_boundary p ascii xs n u e = inside_boundary p ascii xs n u (omega (arith, e))

pub digit_ascii : (x : ℕ) → is_ascii_digit x ≡ true → x < 128
digit_ascii x h = grind (arith, nat_tests)

pub zero_ascii : (x : ℕ) → (x == 48) ≡ true → x < 128
zero_ascii x h = grind (arith, nat_tests)

pub identifier_ascii : (x : ℕ) → is_identifier_byte x ≡ true → x < 128
identifier_ascii x h = grind (arith, nat_tests)

-- ---- what was split off, as the longest prefix

pub run_seen : {p : ℕ → Bool} {text first rest : List ℕ} → CutsRun p text first rest → (length first == 0) ≡ false → IsLongest (Run p) text first rest
run_seen {p} {text} {first} {rest} c some = rw c.text_is (run_longest p first rest (grind (arith, nat_tests)) c.pass c.stops)

pub run_unseen : {p : ℕ → Bool} {text first rest : List ℕ} → CutsRun p text first rest → (length first == 0) ≡ true → HasNone (Run p) text
run_unseen {p} {text} {first} {rest} c none =
    let nil : first ≡ [] = nil_from_length first (grind (arith, nat_tests)) in
    let whole : text ≡ rest = rw nil at c.text_is in
    rw whole (run_none p rest c.stops)

-- ---- the value of digits

-- what `parse` returns for digits is the number, if it fits
pub parsed : {E : Type 0} (bs : List ℕ) (r : Result ℕ E) → ParsesUnsigned 64 10 bs r → list_all is_ascii_digit bs ≡ true → (length bs == 0) ≡ false → measured_of (result_ok r) ≡ sized (digits_value 10 bs)
parsed {E} bs r h digits some = go r (parse_digits own 64 bs r h digits)
  where
    go : (r : Result ℕ E) → OkIff r ((0 < length bs) × (digits_value 10 bs < 2 ^ 64)) (digits_value 10 bs) → measured_of (result_ok r) ≡ sized (digits_value 10 bs)
    go (Ok x) h = rw (lt-ltb (digits_value 10 bs) (2 ^ 64) h.0.1, h.1) refl
    go (Err e) h = rw (le-ltb (digits_value 10 bs) (2 ^ 64) (over h)) refl
      where
        over : ¬ ((0 < length bs) × (digits_value 10 bs < 2 ^ 64)) → 2 ^ 64 ≤ digits_value 10 bs
        over h = elim (cases_lt (digits_value 10 bs) (2 ^ 64)) [
          | inl small ↦ absurd (h (grind (arith, nat_tests), small))
          | inr big ↦ big
        ]

-- ---- strict numbers

strict_is_loose : (a : List ℕ) (w : ℕ) → IsStrictNumber a w → IsLooseNumber a w
strict_is_loose a w h = h.digits

starts_zero : (a b text : List ℕ) → 0 < length a → slice_index a 0 ≡ 48 → text ≡ a ++ b → (rest : List ℕ) × (text ≡ 48 ∷ rest)
starts_zero [] b text some h e = absurd (omega arith)
starts_zero (y ∷ a) b text some h e = (a ++ b, e ∙ ap (λ z. z ∷ (a ++ b)) h)

pub strict_other : (text : List ℕ) (r : Option (Measured ℕ × Bor (List ℕ))) → ((rest : List ℕ) → text ≡ 48 ∷ rest → ⊥) → ReadsAs sized IsLooseNumber text (answer_of r) → ReadsAs sized IsStrictNumber text (answer_of r)
strict_other text None other h = narrowed_none IsStrictNumber strict_is_loose h
strict_other text (Some p) other h = record {
  value = h.value;
  longest = narrowed IsStrictNumber strict_is_loose h.longest (record {
    digits = h.longest.stands;
    no_leading_zero = λ z. let s = starts_zero h.longest.front p.1.now text h.longest.stands.stands.some z h.longest.text_is in absurd (other s.0 s.1);
  });
  seen = h.seen;
}

-- ---- the bytes with which numbers begin and continue
