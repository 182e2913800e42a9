-- When two ranges overlap: each start lies below the other's end. An absent bound is infinite.
use Rattle.std.specs.Prelude.{◌≡◌, List, Bool, true, false, ◌==◌, ◌&&◌}
use Rattle.std.specs.List.{list_any}
use Rattle.std.specs.Ordering.{is_lt}
use Rattle.std.specs.declared.cmp.Ordering.{Ordering}
use Rattle.semver_base.specs.Meaning.{alternatives, bounds_hold, is_below, is_release, tree_means_with}
use Rattle.semver_base.specs.Precedence.{precedence_cmp}
use Rattle.semver_base.specs.declared.version.Version.{Version}
use Rattle.semver_base.specs.declared.range.PreRelease.{PreRelease}
use Rattle.semver_base.specs.declared.range.RangeBound.{RangeBound}
use Rattle.semver_base.specs.declared.range.RangeBound.TheVariants as bound
use Rattle.semver_base.specs.declared.range.VersionBoundKind.{VersionBoundKind}
use Rattle.semver_base.specs.declared.range.VersionBoundKind.TheVariants as kind
use Rattle.semver_base.specs.declared.range.VersionRange.{VersionRange}

-- whether a start of the first kind that compares so to an end of the second is below it, or at it with both inclusive
abbrev pub lies_within : VersionBoundKind → VersionBoundKind → Ordering → Bool
lies_within kind.Inclusive end order = is_below end order
lies_within kind.Exclusive end order = is_lt order

abbrev pub starts_before : RangeBound → RangeBound → Bool
starts_before (bound.Version start) (bound.Version end) =
    lies_within start.kind end.kind (precedence_cmp start.version end.version)
starts_before start end = true

abbrev pub overlap : VersionRange → VersionRange → Bool
overlap a b = starts_before a.start b.end && starts_before b.start a.end

-- some range of one set overlaps some range of the other
abbrev pub some_overlap : List VersionRange → List VersionRange → Bool
some_overlap some others = list_any (λ a. list_any (λ b. overlap a b) others) some

abbrev pub is_exclusive : VersionBoundKind → Bool
is_exclusive kind.Inclusive = false
is_exclusive kind.Exclusive = true

-- the end is exclusive and at 0.0.0, whatever its pre-release, so that no release comes before it
abbrev pub ends_at_zero : RangeBound → Bool
ends_at_zero (bound.Version end) = is_exclusive end.kind
    && ((end.version.major == 0) && ((end.version.minor == 0) && (end.version.patch == 0)))
ends_at_zero bound.Unbounded = false

-- no release lies between the bounds
abbrev pub HoldsNoRelease : VersionRange → Type 0
HoldsNoRelease range = (v : Version) → is_release v ≡ true → bounds_hold range v ≡ false

-- no version lies between the bounds of both
abbrev pub HoldNothingTogether : VersionRange → VersionRange → Type 0
HoldNothingTogether a b = (v : Version) → (bounds_hold a v && bounds_hold b v) ≡ false

-- no version matches both, with or without npm's rule about pre-releases
abbrev pub MatchNothingTogether : List VersionRange → List VersionRange → Type 0
MatchNothingTogether some others = (flag : PreRelease) (v : Version)
    → (tree_means_with flag (alternatives some) v && tree_means_with flag (alternatives others) v) ≡ false
