-- Requirements with the same ranges in any order, which have one lowest version.
use Rattle.std.specs.Prelude.{◌≡◌, List, [], ◌∷◌, Bool, Option, IsPermutation, map}
use Rattle.semver_base.specs.LowestVersion.{IsLowest, IsOnlyLowest}
use Rattle.semver_base.specs.declared.range.PreRelease.{PreRelease}
use Rattle.semver_base.specs.declared.version.Version.{Version}
use Rattle.semver_req.specs.Requirement.{Requirement, all_inners_mean_with}
use Rattle.semver_req.specs.declared.range_set_or_tag.RangeSetOrTag.{RangeSetOrTag}
use Rattle.semver_req.specs.declared.range_set_or_tag.RangeSetOrTag.TheVariants as inner

-- the same ranges in any order, or the same tag
abbrev pub IsReordered : RangeSetOrTag → RangeSetOrTag → Type 0
IsReordered (inner.RangeSet set) (inner.RangeSet other) = IsPermutation set.0 other.0
IsReordered (inner.Tag text) (inner.Tag other) = text ≡ other
IsReordered one other = ⊥

abbrev pub AreEachReordered : List RangeSetOrTag → List RangeSetOrTag → Type 0
AreEachReordered [] [] = Unit {0}
AreEachReordered (one ∷ some) (other ∷ others) = IsReordered one other × AreEachReordered some others
AreEachReordered some others = ⊥

-- the same requirements in any order, with the ranges of each in any order
pub record AreReordered (some others : List RangeSetOrTag) : Type 0 where
  pub moved : List RangeSetOrTag
  pub in_order : IsPermutation some moved
  pub each : AreEachReordered moved others

-- in any order of the ranges, no other result is the lowest
abbrev pub InAnyOrder : (RangeSetOrTag → Version → Bool) → RangeSetOrTag → Option Version → Type 0
InAnyOrder test one lowest = (same : RangeSetOrTag) → IsReordered one same → IsOnlyLowest (test same) lowest

-- the same for two requirements
abbrev pub BothInAnyOrder : (RangeSetOrTag → RangeSetOrTag → Version → Bool) → RangeSetOrTag → RangeSetOrTag
    → Option Version → Type 0
BothInAnyOrder test one other lowest =
    (same others : RangeSetOrTag) → IsReordered one same → IsReordered other others
    → IsOnlyLowest (test same others) lowest

-- the same for a requirement and others, which are in any order too
abbrev pub AllInAnyOrder : PreRelease → RangeSetOrTag → List Requirement → Option Version → Type 0
AllInAnyOrder flag own others lowest = (same : RangeSetOrTag) (rest : List Requirement)
    → AreReordered (own ∷ map (λ (req : Requirement). req.inner) others)
    (same ∷ map (λ (req : Requirement). req.inner) rest)
    → IsOnlyLowest (all_inners_mean_with flag same rest) lowest

-- a test has one lowest version
abbrev pub TestsHaveOneLowestVersion : Type 0
TestsHaveOneLowestVersion = (test : Version → Bool) (lowest other : Option Version) → IsLowest test lowest → IsLowest test other
    → lowest ≡ other
