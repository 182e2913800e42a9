-- The intersection of two ranges, and what it matches.
use Rattle.std.specs.Prelude.{◌≡◌, ◌⊎◌, [], ◌∷◌, true, false, ◌&&◌}
use Rattle.std.specs.declared.cmp.Ordering.{Ordering}
use Rattle.std.specs.declared.cmp.Ordering.TheVariants.{Less, Equal, Greater}
use Rattle.semver_base.specs.Meaning.{alternative_means, alternative_means_with, bounds_hold, is_release, to_below}
use Rattle.semver_base.specs.Precedence.{precedence_cmp}
use Rattle.semver_base.specs.declared.version.Version.{Version}
use Rattle.semver_base.specs.declared.range.PreRelease.{PreRelease}
use Rattle.semver_base.specs.declared.range.PreRelease.TheVariants.{Admitted}
use Rattle.semver_base.specs.declared.range.RangeBound.{RangeBound}
use Rattle.semver_base.specs.declared.range.RangeBound.TheVariants as bound
use Rattle.semver_base.specs.declared.range.VersionBound.{VersionBound}
use Rattle.semver_base.specs.declared.range.VersionBoundKind.{VersionBoundKind}
use Rattle.semver_base.specs.declared.range.VersionBoundKind.TheVariants as kind
use Rattle.semver_base.specs.declared.range.VersionRange.{VersionRange}

-- ---- one bound of two

-- of two bounds that tie, the first if it is exclusive, and otherwise the second
abbrev pub of_tied : VersionBoundKind → RangeBound → RangeBound → RangeBound
of_tied kind.Exclusive first second = first
of_tied kind.Inclusive first second = second

-- the higher of two bounds, where the first, of the kind k, compares so to the second
abbrev pub greater_of : Ordering → VersionBoundKind → RangeBound → RangeBound → RangeBound
greater_of Less k first second = second
greater_of Equal k first second = of_tied k first second
greater_of Greater k first second = first

-- the lower of the two
abbrev pub lesser_of : Ordering → VersionBoundKind → RangeBound → RangeBound → RangeBound
lesser_of Less k first second = first
lesser_of Equal k first second = of_tied k first second
lesser_of Greater k first second = second

-- the higher start by precedence; if one is absent, the other
abbrev pub clamped_start : RangeBound → RangeBound → RangeBound
clamped_start bound.Unbounded second = second
clamped_start (bound.Version x) bound.Unbounded = bound.Version x
clamped_start (bound.Version x) (bound.Version y) =
    greater_of (precedence_cmp x.version y.version) x.kind (bound.Version x) (bound.Version y)

-- the lower end by precedence; if one is absent, the other
abbrev pub clamped_end : RangeBound → RangeBound → RangeBound
clamped_end bound.Unbounded second = second
clamped_end (bound.Version x) bound.Unbounded = bound.Version x
clamped_end (bound.Version x) (bound.Version y) =
    lesser_of (precedence_cmp x.version y.version) x.kind (bound.Version x) (bound.Version y)

-- ---- a start and an end

-- stops a start that compares so to the end: one past the end becomes exclusive at it and includes nothing; an inclusive one
-- at the end becomes the end
abbrev pub stopped_by : Ordering → VersionBound → VersionBound → RangeBound
stopped_by Less start end = bound.Version start
stopped_by Equal start end = of_tied start.kind (bound.Version start) (bound.Version end)
stopped_by Greater start end = to_below end.version

-- stops the start of a range at its end
abbrev pub stopped_at : RangeBound → RangeBound → RangeBound
stopped_at (bound.Version start) (bound.Version end) = stopped_by (precedence_cmp start.version end.version) start end
stopped_at start end = start

-- the intersection of two ranges
abbrev pub clamped : VersionRange → VersionRange → VersionRange
clamped a b = record {
  start = stopped_at (clamped_start a.start b.start) (clamped_end a.end b.end);
  end = clamped_end a.end b.end;
}

-- ---- what a clamped range matches

-- its bounds include what the bounds of both include
abbrev pub HoldsBoth : VersionRange → VersionRange → VersionRange → Type 0
HoldsBoth a b range = (v : Version) → bounds_hold range v ≡ (bounds_hold a v && bounds_hold b v)

-- it matches what the two match as comparators of one alternative, with or without npm's rule about pre-releases
abbrev pub MeansBoth : VersionRange → VersionRange → VersionRange → Type 0
MeansBoth a b range = (flag : PreRelease) (v : Version)
    → alternative_means_with flag (range ∷ []) v ≡ alternative_means_with flag (a ∷ b ∷ []) v

-- if pre-releases are admitted, a version matches it exactly if it matches both
abbrev pub AdmitsBoth : VersionRange → VersionRange → VersionRange → Type 0
AdmitsBoth a b range = (v : Version)
    → alternative_means_with Admitted (range ∷ []) v
    ≡ (alternative_means_with Admitted (a ∷ []) v && alternative_means_with Admitted (b ∷ []) v)

-- a release matches it exactly if it matches both
abbrev pub MatchesBoth : VersionRange → VersionRange → VersionRange → Type 0
MatchesBoth a b range = (v : Version) → is_release v ≡ true
    → alternative_means (range ∷ []) v ≡ (alternative_means (a ∷ []) v && alternative_means (b ∷ []) v)

-- no version lies between its bounds
abbrev pub HoldsNothing : VersionRange → Type 0
HoldsNothing range = (v : Version) → bounds_hold range v ≡ false

-- the start is above the end
abbrev pub HasPassed : RangeBound → RangeBound → Type 0
HasPassed (bound.Version start) (bound.Version end) = precedence_cmp start.version end.version ≡ Greater
HasPassed start end = ⊥

-- the higher start of two ranges is above their lower end
abbrev pub HaveCrossed : VersionRange → VersionRange → Type 0
HaveCrossed a b = HasPassed (clamped_start a.start b.start) (clamped_end a.end b.end)

-- the range includes and matches what both do, and includes nothing if they have crossed or one of them includes nothing
pub record IsClamped (a b range : VersionRange) : Type 0 where
  pub bounds : HoldsBoth a b range
  pub means : MeansBoth a b range
  pub admits : AdmitsBoth a b range
  pub releases : MatchesBoth a b range
  pub crossed : HaveCrossed a b → HoldsNothing range
  pub stays_empty : HoldsNothing a ⊎ HoldsNothing b → HoldsNothing range

-- any two ranges are clamped to such a range
abbrev pub ClampedRangesMeanBoth : Type 0
ClampedRangesMeanBoth = (a b : VersionRange) → IsClamped a b (clamped a b)
