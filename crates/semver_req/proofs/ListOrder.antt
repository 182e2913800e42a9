-- Two ascending lists, one a permutation of the other, have items that tie at each place.
use Rattle.std.proofs.Common.{◌≡◌, ◌<◌, ◌+◌, ℕ, suc, List, [], ◌∷◌, length, get_or, false, cond, Ordering, Less, Equal, Greater, IsPermutation, IsSorted, All, refl, sym, ap, subst, ◌∙◌, arith, sum_by}
use Rattle.std.specs.Cmp.{IsTotalOrder}
use Rattle.std.specs.Ordering.{is_lt, ordering_reverse}
use Rattle.std.proofs.lemmas.Cmp.{tied_itself}
use Rattle.std.proofs.lemmas.List.Elements.{All-head, All-tail}
use Rattle.std.proofs.lemmas.List.Recursion.{is_sum_by}
use Rattle.std.proofs.lemmas.List.Sorted.{length_permutation, ranks_by, sorted_far, sum_by-IsPermutation}
use Rattle.semver_req.specs.Ascending.{Tie}

module _ {K : Type 0} (R : K → K → Ordering) (o : IsTotalOrder R) where
  -- the number of items below this one
  abbrev one_below : K → K → ℕ
  one_below v x = cond (is_lt (R x v)) 1 0

  abbrev below : K → List K → ℕ
  below v [] = 0
  below v (x ∷ xs) = one_below v x + below v xs

  below_sum : (v : K) (xs : List K) → below v xs ≡ sum_by (one_below v) xs
  below_sum v xs = is_sum_by (below v) (one_below v) refl (λ _ _. refl) xs

  below_moved : (v : K) (xs ys : List K) → IsPermutation xs ys → below v ys ≡ below v xs
  below_moved v xs ys h = below_sum v ys ∙ (sum_by-IsPermutation (one_below v) xs ys h ∙ sym (below_sum v xs))

  below_none : (v : K) (xs : List K) → All (λ x. is_lt (R x v) ≡ false) xs → below v xs ≡ 0
  below_none v [] h = refl
  below_none v (x ∷ xs) h = rw (All-head (λ y. is_lt (R y v) ≡ false) x xs h, below_none v xs (All-tail (λ y. is_lt (R y v) ≡ false) x xs h)) refl

  -- in an ascending list none is below the first, and the rest is ascending
  none_below : (x : K) (xs : List K) → IsSorted R (x ∷ xs) → All (λ y. is_lt (R y x) ≡ false) xs
  none_below x xs h k d lt = sorted_far (λ a b. is_lt (R a b)) (ranks_by o (λ a. a)) (x ∷ xs) h 0 (suc k) d (omega arith) (omega arith)

  rest_sorted : (x : K) (xs : List K) → IsSorted R (x ∷ xs) → IsSorted R xs
  rest_sorted x xs h k d low lt =
      let next : suc k + 1 ≡ suc (k + 1) = omega arith in
      subst (λ n. is_lt (R (get_or (x ∷ xs) n d) (get_or xs k d)) ≡ false) next (h (suc k) d (omega arith) (omega arith))

  tie_below : (v x y : K) → R x y ≡ Equal → one_below v x ≡ one_below v y
  tie_below v x y e = ap (λ r. cond (is_lt r) 1 0) (o.congr x y v e)

  -- a list that ties at each place has as many items below each item
  pub ties_below : (v : K) (xs ys : List K) → Tie R xs ys → below v xs ≡ below v ys
  ties_below v [] [] h = refl
  ties_below v [] (y ∷ ys) h = absurd h
  ties_below v (x ∷ xs) [] h = absurd h
  ties_below v (x ∷ xs) (y ∷ ys) h = rw (tie_below v x y h.0, ties_below v xs ys h.1) refl

  ties_length : (xs ys : List K) → Tie R xs ys → length xs ≡ length ys
  ties_length [] [] h = refl
  ties_length [] (y ∷ ys) h = absurd h
  ties_length (x ∷ xs) [] h = absurd h
  ties_length (x ∷ xs) (y ∷ ys) h = omega (arith, ties_length xs ys h.1)

  -- the first item of an ascending list has none below it in the list
  first_lowest : (x : K) (xs : List K) → IsSorted R (x ∷ xs) → below x (x ∷ xs) ≡ 0
  first_lowest x xs h = rw (tied_itself o x, below_none x xs (none_below x xs h)) refl

  first_below : (v x : K) (xs : List K) → R x v ≡ Less → 0 < below v (x ∷ xs)
  first_below v x xs e = let one : one_below v x ≡ 1 = ap (λ r. cond (is_lt r) 1 0) e in omega (arith, one)

  same_first : (x y : K) (xs ys : List K) → IsSorted R (x ∷ xs) → IsSorted R (y ∷ ys) → ((v : K) → below v (x ∷ xs) ≡ below v (y ∷ ys)) → (r : Ordering) → R x y ≡ r → R x y ≡ Equal
  same_first x y xs ys h k same Less e = absurd (omega (arith, first_below y x xs e, same y, first_lowest y ys k))
  same_first x y xs ys h k same Equal e = e
  same_first x y xs ys h k same Greater e =
      let back : R y x ≡ Less = o.antisymm y x ∙ ap ordering_reverse e in
      absurd (omega (arith, first_below x y ys back, same x, first_lowest x xs h))

  pub ascending_tie : (xs ys : List K) → IsSorted R xs → IsSorted R ys → length xs ≡ length ys → ((v : K) → below v xs ≡ below v ys) → Tie R xs ys
  ascending_tie [] [] h k long same = tt
  ascending_tie [] (y ∷ ys) h k long same = absurd (omega (arith, long))
  ascending_tie (x ∷ xs) [] h k long same = absurd (omega (arith, long))
  ascending_tie (x ∷ xs) (y ∷ ys) h k long same =
      let first = same_first x y xs ys h k same (R x y) refl in
      (first, ascending_tie xs ys (rest_sorted x xs h) (rest_sorted y ys k) (omega (arith, long)) (λ v. omega (arith, same v, tie_below v x y first)))

  -- an ascending list ties at each place with what is sorted from a list that does
  pub sorted_ties : (xs ys zs : List K) → IsSorted R xs → Tie R ys xs → IsPermutation ys zs → IsSorted R zs → Tie R zs xs
  sorted_ties xs ys zs h tie moved k =
      ascending_tie zs xs k h (length_permutation ys zs moved ∙ ties_length ys xs tie) (λ v. below_moved v ys zs moved ∙ ties_below v ys xs tie)
