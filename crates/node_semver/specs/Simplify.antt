-- The ranges in which a list matches. Source: node-semver's documentation of `simplifyRange`: a range that matches the same of a list of
-- versions. Each stretch of neighbours that match is one range, from the first of them to the last.
use Rattle.std.specs.Prelude.{◌≡◌, ◌≤◌, ◌<◌, ◌⊎◌, ◌↔◌, ◌+◌, ◌-◌, ◌==◌, ◌∷◌, ℕ, Bool, true, false, List, [], Option, Some, None, if◌then◌else◌, length, map}
use Rattle.std.specs.List.{slice_get}
use Rattle.semver_base.specs.Intervals.{with_pre}
use Rattle.semver_base.specs.declared.range.RangeBound.{RangeBound}
use Rattle.semver_base.specs.declared.range.RangeBound.TheVariants as bound
use Rattle.semver_base.specs.declared.range.VersionBoundKind.TheVariants as kind
use Rattle.semver_base.specs.declared.range.VersionRange.{VersionRange}
use Rattle.semver_base.specs.declared.version.Version.{Version}

-- the stretches of a list of answers, each from a place on and before another. One may have begun at a place before this one.
abbrev pub stretches : ℕ → Option ℕ → List Bool → List (ℕ × ℕ)
stretches place None [] = []
stretches place (Some from) [] = (from, place) ∷ []
stretches place None (true ∷ answers) = stretches (place + 1) (Some place) answers
stretches place None (false ∷ answers) = stretches (place + 1) None answers
stretches place (Some from) (true ∷ answers) = stretches (place + 1) (Some from) answers
stretches place (Some from) (false ∷ answers) = (from, place) ∷ stretches (place + 1) None answers

-- the bound that includes a version, whose build doesn't matter
abbrev pub bound_at : Option Version → RangeBound
bound_at None = bound.Unbounded
bound_at (Some v) = bound.Version (record { kind = kind.Inclusive; version = with_pre v v.pre })

-- the range of a stretch: without a start at the beginning of the list, and without an end at its end
abbrev pub range_of : List Version → ℕ × ℕ → VersionRange
range_of versions stretch = record {
  start = if stretch.0 == 0 then bound.Unbounded else bound_at (slice_get versions stretch.0);
  end = if stretch.1 == length versions then bound.Unbounded else bound_at (slice_get versions (stretch.1 - 1));
}

-- the ranges of the stretches that pass a test
abbrev pub ranges_of : (Version → Bool) → List Version → List VersionRange
ranges_of test versions = map (range_of versions) (stretches 0 None (map test versions))

-- ---- what stretches are

-- a place is in one of them
abbrev pub IsInSome : ℕ → List (ℕ × ℕ) → Type 0
IsInSome place [] = ⊥
IsInSome place (stretch ∷ others) = ((stretch.0 ≤ place) × (place < stretch.1)) ⊎ IsInSome place others

-- they stand in their order from a place on, none is empty, and a place lies between two of them
abbrev pub AreApart : ℕ → List (ℕ × ℕ) → Type 0
AreApart from [] = Unit {0}
AreApart from (stretch ∷ others) = (from ≤ stretch.0) × (stretch.0 < stretch.1) × AreApart (stretch.1 + 1) others

-- the places in stretches are those that match, and each stretch is as long as it can be
pub record HoldsMatches (answers : List Bool) (all : List (ℕ × ℕ)) : Type 0 where
  pub matches : (place : ℕ) → IsInSome place all ↔ (slice_get answers place ≡ Some true)
  pub apart : AreApart 0 all

abbrev pub StretchesHoldMatches : Type 0
StretchesHoldMatches = (answers : List Bool) → HoldsMatches answers (stretches 0 None answers)
