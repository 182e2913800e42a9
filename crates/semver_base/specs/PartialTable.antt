-- The two bounds of a partial version under `~`, `^`, a comparison operator or alone, and the sums that they need. Numbers
-- are of any size. Source: node-semver's "Advanced Range Syntax" and its range grammar, with `deno_semver`'s cases of
-- wildcards before numbers.
use Rattle.std.specs.Prelude.{◌≡◌, ℕ, List, [], ◌∷◌, ◌+◌, ◌^◌, Bool, false, true, Option, Some, None, ◌⊎◌, nat_lt, if◌then◌else◌}
use Rattle.std.specs.List.{list_all}
use Rattle.semver_base.specs.Failure.{rejection_message}
use Rattle.semver_base.specs.declared.failure.Rejection.TheVariants.{BoundTooLarge}
use Rattle.semver_base.specs.Meaning.{bound_at, everything, from, nothing, release, to_below}
use Rattle.semver_base.specs.declared.lexical.values.Qualifier.{Qualifier}
use Rattle.semver_base.specs.declared.short.ShortNumbers.{ShortNumbers}
use Rattle.semver_base.specs.declared.short.ShortNumbers.TheVariants as short_numbers
use Rattle.semver_base.specs.declared.short.Numbers.{Numbers}
use Rattle.semver_base.specs.declared.partial.numbers.ReleaseBound.{ReleaseBound}
use Rattle.semver_base.specs.declared.partial.numbers.ReleaseRange.{ReleaseRange}
use Rattle.semver_base.specs.declared.version.Version.{Version}
use Rattle.semver_base.specs.declared.range.RangeBound.{RangeBound}
use Rattle.semver_base.specs.declared.range.RangeBound.TheVariants as bound
use Rattle.semver_base.specs.declared.range.VersionBoundKind.{VersionBoundKind}
use Rattle.semver_base.specs.declared.range.VersionBoundKind.TheVariants as kind
use Rattle.semver_base.specs.declared.range.VersionRange.{VersionRange}
use Rattle.semver_base.specs.declared.partial.Partial.{Partial}
use Rattle.semver_base.specs.declared.partial.XRange.{XRange}
use Rattle.semver_base.specs.declared.partial.XRange.TheVariants.{Wildcard, Val}

-- ---- lines of the table: a range or an end, and the sums that it needs

pub record Line : Type 0 where
  pub range : VersionRange
  pub sums : List ℕ

pub record EndLine : Type 0 where
  pub end : RangeBound
  pub sums : List ℕ

-- at most 18446744073709551615
abbrev pub number_fits : ℕ → Bool
number_fits n = nat_lt n (2 ^ 64)

-- each sum fits in 64 bits
abbrev pub all_fit : List ℕ → Bool
all_fit sums = list_all number_fits sums

-- the failure of a bound that doesn't fit
abbrev pub bound_too_large : Option (List ℕ × Option (List ℕ))
bound_too_large = Some (rejection_message BoundTooLarge, None)

-- how a call whose line has these sums fails: out of memory, or with a bound too large if one of them doesn't fit
abbrev pub IsBoundRejection : List ℕ → Option (List ℕ × Option (List ℕ)) → Type 0
IsBoundRejection sums failure = (failure ≡ None) ⊎ ((failure ≡ bound_too_large) × (all_fit sums ≡ false))

-- ---- the versions that the lines name

-- a wildcard counts as 0
abbrev pub or_zero : XRange → ℕ
or_zero Wildcard = 0
or_zero (Val n) = n

-- `M.m.p-pre+build`, with wildcards as 0
abbrev pub lowest : Partial → Version
lowest p =
    record { major = or_zero p.major; minor = or_zero p.minor; patch = or_zero p.patch; pre = p.pre; build = p.build }

-- `M.m.p-pre`, with wildcards as 0
abbrev pub without_build : Partial → Version
without_build p =
    record { major = or_zero p.major; minor = or_zero p.minor; patch = or_zero p.patch; pre = p.pre; build = [] }

-- the end that includes its version
abbrev pub up_to : Version → RangeBound
up_to = bound_at kind.Inclusive

abbrev pub between : RangeBound → RangeBound → VersionRange
between start end = record { start = start; end = end }

abbrev pub any : Line
any = record { range = everything; sums = [] }

-- the range of a line whose sums fit
pub record IsLineRange (line : Line) (range : VersionRange) : Type 0 where
  pub is : range ≡ line.range
  pub fits : all_fit line.sums ≡ true

-- three numbers, as a partial version
abbrev pub of_numbers : Numbers → Partial
of_numbers n = record { major = Val n.major; minor = Val n.minor; patch = Val n.patch; pre = []; build = [] }

-- one to three numbers, as a partial version with wildcards for the missing ones
abbrev pub of_short : ShortNumbers → Partial
of_short (short_numbers.One m) = record { major = Val m; minor = Wildcard; patch = Wildcard; pre = []; build = [] }
of_short (short_numbers.Two m n) = record { major = Val m; minor = Val n; patch = Wildcard; pre = []; build = [] }
of_short (short_numbers.Three n) = of_numbers n

-- three numbers, as a release
abbrev pub release_of : Numbers → Version
release_of n = release n.major n.minor n.patch

-- a bound at a release
abbrev pub release_bound : ReleaseBound → RangeBound
release_bound b = bound_at b.kind (release_of b.numbers)

-- such an end, which may be absent
abbrev pub release_end : Option ReleaseBound → RangeBound
release_end None = bound.Unbounded
release_end (Some b) = release_bound b

-- the range from one release to another, or without an end
abbrev pub release_range : ReleaseRange → VersionRange
release_range r = between (release_bound r.start) (release_end r.end)

-- ---- a qualifier behind three numbers

-- three numbers and a qualifier, as a partial version
abbrev pub with_qualifier : Qualifier → Numbers → Partial
with_qualifier q n = record { major = Val n.major; minor = Val n.minor; patch = Val n.patch; pre = q.pre; build = q.build }

-- the version gets the qualifier
abbrev pub qualified : Qualifier → Version → Version
qualified q v = record { major = v.major; minor = v.minor; patch = v.patch; pre = q.pre; build = q.build }

-- a start gets it
abbrev pub qualified_start : Qualifier → RangeBound → RangeBound
qualified_start q bound.Unbounded = bound.Unbounded
qualified_start q (bound.Version b) = bound_at b.kind (qualified q b.version)

-- an end gets it if it includes its version
abbrev pub qualified_end_by : Qualifier → VersionBoundKind → Version → RangeBound
qualified_end_by q kind.Inclusive v = bound_at kind.Inclusive (qualified q v)
qualified_end_by q kind.Exclusive v = bound_at kind.Exclusive v

abbrev pub qualified_end : Qualifier → RangeBound → RangeBound
qualified_end q bound.Unbounded = bound.Unbounded
qualified_end q (bound.Version b) = qualified_end_by q b.kind b.version

abbrev pub qualified_range : Qualifier → VersionRange → VersionRange
qualified_range q range = between (qualified_start q range.start) (qualified_end q range.end)

-- ---- from the lower bound to below a release, with the sums in it
abbrev pub lower_to_below : Partial → Version → List ℕ → Line
lower_to_below p end sums = record { range = between (from (lowest p)) (to_below end); sums = sums }

-- ---- tilde: patches may grow, or minors if no minor is given

abbrev pub tilde_by : Partial → XRange → XRange → Line
tilde_by p Wildcard minor = any
tilde_by p (Val major) Wildcard = lower_to_below p (release (major + 1) 0 0) ((major + 1) ∷ [])
tilde_by p (Val major) (Val minor) = lower_to_below p (release major (minor + 1) 0) ((minor + 1) ∷ [])

abbrev pub tilde : Partial → Line
tilde p = tilde_by p p.major p.minor

-- ---- caret: what is right of the leftmost non-zero number may grow

abbrev pub caret_patch : Partial → XRange → Line
caret_patch p Wildcard = lower_to_below p (release 0 1 0) []
caret_patch p (Val patch) = lower_to_below p (release 0 0 (patch + 1)) ((patch + 1) ∷ [])

abbrev pub caret_by : Partial → XRange → XRange → XRange → Line
caret_by p Wildcard minor patch = any
caret_by p (Val major) Wildcard patch = lower_to_below p (release (major + 1) 0 0) ((major + 1) ∷ [])
caret_by p (Val major) (Val minor) patch =
    if nat_lt 0 major then lower_to_below p (release (major + 1) 0 0) ((major + 1) ∷ [])
    else if nat_lt 0 minor then lower_to_below p (release 0 (minor + 1) 0) ((minor + 1) ∷ [])
    else caret_patch p patch

abbrev pub caret : Partial → Line
caret p = caret_by p p.major p.minor p.patch

-- ---- the upper bound, which ends a hyphen range

abbrev pub upper_by : Partial → XRange → XRange → XRange → EndLine
upper_by p Wildcard minor patch = record { end = bound.Unbounded; sums = [] }
upper_by p (Val major) Wildcard patch =
    record { end = to_below (release (major + 1) 0 (or_zero patch)); sums = (major + 1) ∷ [] }
upper_by p (Val major) (Val minor) Wildcard =
    record { end = to_below (release major (minor + 1) 0); sums = (minor + 1) ∷ [] }
upper_by p (Val major) (Val minor) (Val patch) = record { end = up_to (without_build p); sums = [] }

abbrev pub upper : Partial → EndLine
upper p = upper_by p p.major p.minor p.patch

-- ---- the versions that the partial names, with a start of the kind k

abbrev pub greater_range_by : VersionBoundKind → XRange → XRange → XRange → Line
greater_range_by k Wildcard minor patch = any
greater_range_by k (Val major) Wildcard patch = record {
  range = between (bound_at k (release major 0 (or_zero patch))) (to_below (release (major + 1) 0 (or_zero patch)));
  sums = (major + 1) ∷ [];
}
greater_range_by k (Val major) (Val minor) Wildcard = record {
  range = between (bound_at k (release major minor 0)) (to_below (release major (minor + 1) 0));
  sums = (minor + 1) ∷ [];
}
greater_range_by k (Val major) (Val minor) (Val patch) = record {
  range = between (bound_at k (release major minor patch)) (bound_at k (release major minor patch));
  sums = [];
}

-- the range of `>` or `>=` before a partial version
abbrev pub greater_range : VersionBoundKind → Partial → Line
greater_range k p = greater_range_by k p.major p.minor p.patch

-- ---- equal: the one version, or what the wildcards leave open

abbrev pub equal_by : Partial → XRange → XRange → XRange → Line
equal_by p (Val major) (Val minor) (Val patch) =
    record { range = between (from (lowest p)) (up_to (lowest p)); sums = [] }
equal_by p major minor patch = greater_range kind.Inclusive p

abbrev pub equal : Partial → Line
equal p = equal_by p p.major p.minor p.patch

-- ---- `>=` and `>`

abbrev pub at_least_by : Partial → XRange → Line
at_least_by p Wildcard = any
at_least_by p (Val major) = record { range = between (from (without_build p)) bound.Unbounded; sums = [] }

abbrev pub above_by : Partial → XRange → XRange → XRange → Line
above_by p Wildcard minor patch = record { range = nothing; sums = [] }
above_by p (Val major) Wildcard patch =
    record { range = between (from (release (major + 1) 0 (or_zero patch))) bound.Unbounded; sums = (major + 1) ∷ [] }
above_by p (Val major) (Val minor) Wildcard =
    record { range = between (from (release major (minor + 1) 0)) bound.Unbounded; sums = (minor + 1) ∷ [] }
above_by p (Val major) (Val minor) (Val patch) =
    record { range = between (bound_at kind.Exclusive (without_build p)) bound.Unbounded; sums = [] }

abbrev pub greater_than : VersionBoundKind → Partial → Line
greater_than kind.Inclusive p = at_least_by p p.major
greater_than kind.Exclusive p = above_by p p.major p.minor p.patch

-- ---- `<=` and `<`, which start at 0.0.0

abbrev pub from_zero : RangeBound → List ℕ → Line
from_zero end sums = record { range = between (from (release 0 0 0)) end; sums = sums }

-- the version of three numbers with the partial's pre-release
abbrev pub version_with_pre : Partial → ℕ → ℕ → ℕ → Version
version_with_pre p major minor patch = record { major = major; minor = minor; patch = patch; pre = p.pre; build = [] }

abbrev pub at_most_by : Partial → XRange → XRange → XRange → Line
at_most_by p Wildcard minor patch = any
at_most_by p (Val major) Wildcard Wildcard = from_zero (to_below (release (major + 1) 0 0)) ((major + 1) ∷ [])
at_most_by p (Val major) Wildcard (Val patch) =
    from_zero (to_below (version_with_pre p (major + 1) 0 patch)) ((major + 1) ∷ [])
at_most_by p (Val major) (Val minor) Wildcard = from_zero (to_below (release major (minor + 1) 0)) ((minor + 1) ∷ [])
at_most_by p (Val major) (Val minor) (Val patch) = from_zero (up_to (without_build p)) []

abbrev pub below_by : Partial → XRange → XRange → XRange → Line
below_by p Wildcard minor patch = record { range = nothing; sums = [] }
below_by p (Val major) Wildcard Wildcard = from_zero (to_below (release major 0 0)) []
below_by p (Val major) Wildcard (Val patch) = from_zero (to_below (version_with_pre p major 0 patch)) []
below_by p (Val major) (Val minor) Wildcard = from_zero (to_below (release major minor 0)) []
below_by p (Val major) (Val minor) (Val patch) = from_zero (to_below (without_build p)) []

abbrev pub less_than : VersionBoundKind → Partial → Line
less_than kind.Inclusive p = at_most_by p p.major p.minor p.patch
less_than kind.Exclusive p = below_by p p.major p.minor p.patch
