-- The leading items of a list that pass, if some of that is known, and leading zeros of a number.
use Rattle.std.proofs.Common.{◌≡◌, ◌≤◌, ◌<◌, ◌+◌, ◌-◌, ◌==◌, ℕ, suc, zero, Bool, true, false, List, [], ◌∷◌, ◌++◌, length, take, drop, ap, refl, sym, subst, ◌∙◌, inl, inr, arith, length-drop, take_while}
use Rattle.std.proofs.Math.Seq.{take-length}
use Rattle.std.proofs.lemmas.Bool.{cases_Bool, eqb-true, lt-ltb}
use Rattle.std.proofs.lemmas.List.Sums.{take_while-cons}
use Rattle.semver_base.specs.Precedence.{number_of}
use Rattle.semver_base.specs.Texts.{zeros_in_front}

-- all that follows the first ones
pub rest_whole : (xs : List ℕ) (k : ℕ) → take (length xs - k) (drop k xs) ≡ drop k xs
rest_whole xs k = subst (λ n. take n (drop k xs) ≡ drop k xs) (length-drop k xs) (take-length (drop k xs))

module _ (p : ℕ → Bool) where
  passing : (x : ℕ) (xs : List ℕ) → p x ≡ true → length (take_while p (x ∷ xs)) ≡ suc (length (take_while p xs))
  passing x xs passes = rw (take_while-cons p x xs, passes) refl

  failing : (x : ℕ) (xs : List ℕ) → p x ≡ false → length (take_while p (x ∷ xs)) ≡ 0
  failing x xs fails = rw (take_while-cons p x xs, fails) refl

  -- what is known and what follows it
  pub front_splits : (bs : List ℕ) (known : ℕ) → known ≤ length (take_while p bs) → known + length (take_while p (drop known bs)) ≡ length (take_while p bs)
  front_splits bs zero h = omega arith
  front_splits [] (suc k) h = absurd (omega (arith, h))
  front_splits (b ∷ bs) (suc k) h = elim (cases_Bool (p b)) [
    | inl passes ↦ let rest = front_splits bs k (omega (arith, h, passing b bs passes)) in omega (arith, rest, passing b bs passes)
    | inr fails ↦ absurd (omega (arith, h, failing b bs fails))
  ]

  -- appending leaves it unchanged
  pub front_stays : (xs ys : List ℕ) → length (take_while p xs) ≤ length (take_while p (xs ++ ys))
  front_stays [] ys = omega arith
  front_stays (x ∷ xs) ys = elim (cases_Bool (p x)) [
    | inl passes ↦ omega (arith, front_stays xs ys, passing x xs passes, passing x (xs ++ ys) passes)
    | inr fails ↦ omega (arith, failing x xs fails)
  ]

-- ---- numbers

one_zero : (more : List ℕ) → number_of (48 ∷ more) ≡ number_of (48 ∷ (48 ∷ more))
unfolding number_of
one_zero more = rw (lt-ltb 0 (length (48 ∷ more)) (omega arith), lt-ltb 0 (length (48 ∷ (48 ∷ more))) (omega arith)) refl

-- what a leading zero says of the text
begins : (text : List ℕ) → 0 < zeros_in_front text → number_of text ≡ number_of (48 ∷ text)
begins [] h = absurd (omega (arith, h))
begins (b ∷ bs) h = elim (cases_Bool (b == 48)) [
  | inl zero_is ↦ rw (eqb-true b 48 zero_is) (one_zero bs)
  | inr other ↦ absurd (omega (arith, h, failing (λ x. x == 48) b bs other))
]

-- all zeros but the last may be stripped
some_fewer : (text : List ℕ) (k : ℕ) → k < zeros_in_front text → number_of (drop k text) ≡ number_of text
some_fewer text zero h = refl
some_fewer [] (suc k) h = absurd (omega (arith, h))
some_fewer (b ∷ bs) (suc k) h = elim (cases_Bool (b == 48)) [
  | inl zero_is ↦
      let longer = passing (λ x. x == 48) b bs zero_is in
      some_fewer bs k (omega (arith, h, longer)) ∙ (begins bs (omega (arith, h, longer)) ∙ ap (λ x. number_of (x ∷ bs)) (sym (eqb-true b 48 zero_is)))
  | inr other ↦ absurd (omega (arith, h, failing (λ x. x == 48) b bs other))
]

pub fewer_zeros : (text : List ℕ) (k : ℕ) → k ≡ zeros_in_front text - 1 → number_of (drop k text) ≡ number_of text
fewer_zeros text k is = elim (cases_Bool (zeros_in_front text == 0)) [
  | inl none ↦ let start : k ≡ 0 = omega (arith, is, eqb-true (zeros_in_front text) 0 none) in rw start refl
  | inr some ↦ some_fewer text k (grind (arith, is, some))
]
