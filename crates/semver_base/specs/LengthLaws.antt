-- The lengths of joined lists.
use Rattle.std.proofs.Common.{◌≡◌, ◌≤◌, ◌<◌, List, [], ◌∷◌, ◌++◌, length, refl}
use Prim.Native.Nat.{zero-le, suc-le-suc}
use native.Mathlib.Nat.{suc_inj, le_of_suc-le-suc, not-suc-le-zero, not-suc-le_self, le_refl, le_step, le_trans, zero-lt-suc}

module _ {X : Type 0} where
  pub front_le : (front rest : List X) → length front ≤ length (front ++ rest)
  front_le [] rest = zero-le
  front_le (x ∷ front) rest = suc-le-suc (front_le front rest)

  pub rest_le : (front rest : List X) → length rest ≤ length (front ++ rest)
  rest_le [] rest = le_refl (length rest)
  rest_le (x ∷ front) rest = le_step (rest_le front rest)

  pub join_le : (front a b : List X) → length a ≤ length b → length (front ++ a) ≤ length (front ++ b)
  join_le [] a b h = h
  join_le (x ∷ front) a b h = suc-le-suc (join_le front a b h)

  pub join_cancel : (front a b : List X) → length (front ++ a) ≡ length (front ++ b) → length a ≡ length b
  join_cancel [] a b e = e
  join_cancel (x ∷ front) a b e = join_cancel front a b (suc_inj e)

  longer : (front : List X) (x : X) (more : List X) → length (front ++ (x ∷ more)) ≤ length front → ⊥
  longer [] x more h = not-suc-le-zero h
  longer (y ∷ front) x more h = longer front x more (le_of_suc-le-suc h)

  -- a text that goes on after its front isn't as short as that
  pub goes_on : {text : List X} (front : List X) (x : X) (more : List X) → text ≡ front ++ (x ∷ more) → length text ≤ length front → ⊥
  goes_on front x more e h = longer front x more (rw e at h)

  -- what is longer than its rest has something before that
  pub some_front : (front rest : List X) → length rest < length (front ++ rest) → 0 < length front
  some_front [] rest h = absurd (not-suc-le_self (length rest) h)
  some_front (x ∷ front) rest h = zero-lt-suc (length front)

  pub no_front : (front rest : List X) → length (front ++ rest) ≤ length rest → front ≡ []
  no_front [] rest h = refl
  no_front (x ∷ front) rest h = absurd (not-suc-le_self (length (front ++ rest)) (le_trans h (rest_le front rest)))

  pub no_rest : (front rest : List X) → length (front ++ rest) ≤ length front → rest ≡ []
  no_rest front [] h = refl
  no_rest front (x ∷ rest) h = absurd (longer front x rest h)
