-- The stretches of a list hold the places that match, and are as long as they can be.
use Rattle.std.proofs.Common.{◌≡◌, ◌≤◌, ◌<◌, ◌+◌, ◌⊎◌, ◌∷◌, ℕ, zero, suc, Bool, true, false, List, [], Option, Some, None, refl, inl, inr, arith}
use Rattle.std.specs.List.{slice_get}
use Rattle.std.proofs.lemmas.Bool.{cases_lt}
use Rattle.node_semver.specs.Simplify.{stretches, AreApart, IsInSome, StretchesHoldMatches}

-- the stretch that has begun, if one has, begins from `low` on and before a place
abbrev HasBegun : ℕ → Option ℕ → ℕ → Type 0
HasBegun low None from = low ≤ from
HasBegun low (Some begun) from = (low ≤ begun) × (begun < from)

-- ---- the places

abbrev IsInBegun : Option ℕ → ℕ → ℕ → Type 0
IsInBegun None from place = ⊥
IsInBegun (Some begun) from place = (begun ≤ place) × (place < from)

-- a place matches by the answers from another place on
abbrev Matches : List Bool → ℕ → ℕ → Type 0
Matches answers from place = (k : ℕ) × (place ≡ from + k) × (slice_get answers k ≡ Some true)

later : (X : Type 0) (a : Bool) (answers : List Bool) (from place : ℕ) → ⊥ ⊎ Matches answers (from + 1) place → X ⊎ Matches (a ∷ answers) from place
later X a answers from place (inl h) = absurd h
later X a answers from place (inr m) = inr (suc m.0, omega (arith, m.1), m.2)

behind : (answers : List Bool) (from place k : ℕ) → place ≡ from + k → slice_get (false ∷ answers) k ≡ Some true → Matches answers (from + 1) place
behind answers from place zero e h = absurd (cc h)
behind answers from place (suc k) e h = (k, omega (arith, e), h)

from_begun : (answers : List Bool) (begun from place k : ℕ) → begun ≤ from → place ≡ from + k → slice_get (true ∷ answers) k ≡ Some true
    → ((begun ≤ place) × (place < from + 1)) ⊎ Matches answers (from + 1) place
from_begun answers begun from place zero b e h = inl (omega (arith, b, e), omega (arith, e))
from_begun answers begun from place (suc k) b e h = inr (k, omega (arith, e), h)

to_begun : (answers : List Bool) (begun from place : ℕ) → ((begun ≤ place) × (place < from + 1)) ⊎ Matches answers (from + 1) place
    → (place < from) ⊎ (from ≤ place) → ((begun ≤ place) × (place < from)) ⊎ Matches (true ∷ answers) from place
to_begun answers begun from place (inl h) (inl l) = inl (h.0, l)
to_begun answers begun from place (inl h) (inr g) = inr (0, omega (arith, h.1, g), refl)
to_begun answers begun from place (inr m) c = inr (suc m.0, omega (arith, m.1), m.2)

only_at : (answers : List Bool) (from place : ℕ) → ((from ≤ place) × (place < from + 1)) ⊎ Matches answers (from + 1) place → ⊥ ⊎ Matches (true ∷ answers) from place
only_at answers from place (inl h) = inr (0, omega (arith, h.0, h.1), refl)
only_at answers from place (inr m) = inr (suc m.0, omega (arith, m.1), m.2)

matches_there : (answers : List Bool) (begun : Option ℕ) (from place : ℕ) → HasBegun 0 begun from → IsInSome place (stretches from begun answers)
    → IsInBegun begun from place ⊎ Matches answers from place
matches_there [] None from place b h = absurd h
matches_there [] (Some begun) from place b (inl h) = inl h
matches_there [] (Some begun) from place b (inr h) = absurd h
matches_there (true ∷ answers) None from place b h = only_at answers from place (matches_there answers (Some from) (from + 1) place (b, omega arith) h)
matches_there (false ∷ answers) None from place b h = later ⊥ false answers from place (matches_there answers None (from + 1) place (omega arith) h)
matches_there (true ∷ answers) (Some begun) from place b h = to_begun answers begun from place
    (matches_there answers (Some begun) (from + 1) place (b.0, omega (arith, b.1)) h) (cases_lt place from)
matches_there (false ∷ answers) (Some begun) from place b (inl h) = inl h
matches_there (false ∷ answers) (Some begun) from place b (inr h) = later ((begun ≤ place) × (place < from)) false answers from place
    (matches_there answers None (from + 1) place (omega arith) h)

is_there : (answers : List Bool) (begun : Option ℕ) (from place : ℕ) → HasBegun 0 begun from → IsInBegun begun from place ⊎ Matches answers from place
    → IsInSome place (stretches from begun answers)
is_there [] None from place b (inl h) = absurd h
is_there [] None from place b (inr m) = absurd (cc m.2)
is_there [] (Some begun) from place b (inl h) = inl h
is_there [] (Some begun) from place b (inr m) = absurd (cc m.2)
is_there (true ∷ answers) None from place b (inl h) = absurd h
is_there (true ∷ answers) None from place b (inr m) = is_there answers (Some from) (from + 1) place (b, omega arith)
    (from_begun answers from from place m.0 (omega arith) m.1 m.2)
is_there (false ∷ answers) None from place b (inl h) = absurd h
is_there (false ∷ answers) None from place b (inr m) = is_there answers None (from + 1) place (omega arith) (inr (behind answers from place m.0 m.1 m.2))
is_there (true ∷ answers) (Some begun) from place b (inl h) = is_there answers (Some begun) (from + 1) place (b.0, omega (arith, b.1))
    (inl (h.0, omega (arith, h.1)))
is_there (true ∷ answers) (Some begun) from place b (inr m) = is_there answers (Some begun) (from + 1) place (b.0, omega (arith, b.1))
    (from_begun answers begun from place m.0 (omega (arith, b.1)) m.1 m.2)
is_there (false ∷ answers) (Some begun) from place b (inl h) = inl h
is_there (false ∷ answers) (Some begun) from place b (inr m) = inr (is_there answers None (from + 1) place (omega arith)
    (inr (behind answers from place m.0 m.1 m.2)))

-- ---- their order

apart : (answers : List Bool) (begun : Option ℕ) (low from : ℕ) → HasBegun low begun from → AreApart low (stretches from begun answers)
apart [] None low from b = tt
apart [] (Some begun) low from b = (b.0, b.1, tt)
apart (true ∷ answers) None low from b = apart answers (Some from) low (from + 1) (b, omega arith)
apart (false ∷ answers) None low from b = apart answers None low (from + 1) (omega (arith, b))
apart (true ∷ answers) (Some begun) low from b = apart answers (Some begun) low (from + 1) (b.0, omega (arith, b.1))
apart (false ∷ answers) (Some begun) low from b = (b.0, b.1, apart answers None (from + 1) (from + 1) (omega arith))

-- ---- both

from_first : (answers : List Bool) (place : ℕ) → ⊥ ⊎ Matches answers 0 place → slice_get answers place ≡ Some true
from_first answers place (inl h) = absurd h
from_first answers place (inr m) = let same : place ≡ m.0 = omega (arith, m.1) in rw same m.2

pub stretches_hold_matches : StretchesHoldMatches
stretches_hold_matches answers = record {
  matches = λ place. (
    λ h. from_first answers place (matches_there answers None 0 place (omega arith) h),
    λ h. is_there answers None 0 place (omega arith) (inr (place, omega arith, h)),
  );
  apart = apart answers None 0 0 (omega arith);
}
