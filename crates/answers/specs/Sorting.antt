-- The order of several versions.
use Rattle.std.specs.Prelude.{◌≡◌, ◌+◌, ℕ, List, [], ◌∷◌, map, Option, None, Some, Result, Ok, IsPermutation, IsSorted}
use Rattle.std.specs.Ordering.{nat_cmp, on, then_cmp}
use Rattle.std.specs.declared.cmp.Ordering.{Ordering}
use Rattle.semver_base.specs.Precedence.{precedence_cmp}
use Rattle.semver_base.specs.declared.version.Version.{Version}
use Rattle.answers.specs.Asking.{Each, Fault, Given}
use Rattle.answers.specs.Reading.{IsVersionAt}
use Rattle.answers.specs.declared.sorting.Order.{Order}
use Rattle.answers.specs.declared.sorting.Order.TheVariants.{Ascending, Descending}
use Rattle.answers.specs.declared.sorting.Placed.{Placed}

-- two versions compared by precedence, or the other way round
abbrev pub order_cmp : Order → Version → Version → Ordering
order_cmp Ascending one other = precedence_cmp one other
order_cmp Descending one other = precedence_cmp other one

-- a version with its place in a list
abbrev pub Standing : Type 0
Standing = Version × ℕ

abbrev pub standing : Placed → Standing
standing placed = (placed.version.now, placed.place)

-- the versions with their places, counted from this one on
abbrev pub standing_from : ℕ → List Version → List Standing
standing_from place [] = []
standing_from place (v ∷ vs) = (v, place) ∷ standing_from (place + 1) vs

-- those of lines, of which some have no version
abbrev pub standing_lines : ℕ → List (Option Version) → List Standing
standing_lines place [] = []
standing_lines place (Some v ∷ lines) = (v, place) ∷ standing_lines (place + 1) lines
standing_lines place (None ∷ lines) = standing_lines (place + 1) lines

-- compared in this order, equal ones by their places
abbrev pub standing_cmp : Order → Standing → Standing → Ordering
standing_cmp order = then_cmp (on (λ (s : Standing). s.0) (order_cmp order)) (on (λ (s : Standing). s.1) nat_cmp)

-- the places of the versions in that order
pub record AreSortedPlaces (order : Order) (versions : List Standing) (places : List ℕ) : Type 0 where
  pub sorted : List Standing
  pub same : IsPermutation versions sorted
  pub ascends : IsSorted (standing_cmp order) sorted
  pub places_are : places ≡ map (λ s. s.1) sorted

-- no other places are
abbrev pub AreOnlySortedPlaces : Order → List Standing → List ℕ → Type 0
AreOnlySortedPlaces order versions places =
    (others : List ℕ) → AreSortedPlaces order versions others → others ≡ places

abbrev pub SortedPlaces : {P : Type 0} → Order → List Standing → Result (List ℕ) P → Type 0
SortedPlaces order versions outcome = (places : List ℕ) × AreSortedPlaces order versions places × (outcome ≡ Ok places)

-- the places of the versions in that order
abbrev pub Sorts : Order → List (List ℕ) → Result (List ℕ) Fault → Type 0
Sorts order texts = Given (Each IsVersionAt 0 texts) (λ versions. SortedPlaces order (standing_from 0 versions))

-- the places of the lines that have a version, in that order
abbrev pub SortedLines : {P : Type 0} → Order → List (Option Version) → Result (List ℕ) P → Type 0
SortedLines order lines = SortedPlaces order (standing_lines 0 lines)
