-- Arrangements of one list in ascending order.
use Rattle.std.proofs.Common.{◌≡◌, List, [], ◌∷◌, Ordering, Equal, IsPermutation, IsSorted}
use Rattle.std.specs.Cmp.{IsTotalOrder}

-- at each place the items tie
abbrev pub Tie : {K : Type 0} → (K → K → Ordering) → List K → List K → Type 0
Tie R [] [] = Unit {0}
Tie R [] (y ∷ ys) = ⊥
Tie R (x ∷ xs) [] = ⊥
Tie R (x ∷ xs) (y ∷ ys) = (R x y ≡ Equal) × Tie R xs ys

-- an ascending list, and what is sorted from one that ties with it at each place, tie at each place
abbrev pub AscendingArrangementsTie : Type 0 → Type 0
AscendingArrangementsTie K = (R : K → K → Ordering) → IsTotalOrder R → (xs ys zs : List K)
    → IsSorted R xs → Tie R ys xs → IsPermutation ys zs → IsSorted R zs → Tie R zs xs
