-- The order of package requirements. Source: the crate `deno_semver`, whose version after 0.10.1 puts requirements that match
-- fewer versions first; builds, which it ignores, come last here, so that only equal requirements tie.
use Rattle.std.specs.Prelude.{ℕ, List, [], Option, Some, None}
use Rattle.std.specs.Cmp.Lexicographic.{slice_cmp}
use Rattle.std.specs.Option.{option_cmp}
use Rattle.std.specs.Ordering.{flip_args, nat_cmp, on, then_cmp}
use Rattle.std.specs.declared.cmp.Ordering.{Ordering}
use Rattle.semver_base.specs.Precedence.{precedence_cmp}
use Rattle.semver_base.specs.declared.range.RangeBound.{RangeBound}
use Rattle.semver_base.specs.declared.range.RangeBound.TheVariants as bound
use Rattle.semver_base.specs.declared.range.VersionBound.{VersionBound}
use Rattle.semver_base.specs.declared.range.VersionBoundKind.{VersionBoundKind}
use Rattle.semver_base.specs.declared.range.VersionBoundKind.TheVariants as kind
use Rattle.semver_base.specs.declared.range.VersionRange.{VersionRange}
use Rattle.semver_req.specs.Requirement.{tag_of}
use Rattle.semver_req.specs.declared.range_set_or_tag.RangeSetOrTag.{RangeSetOrTag}
use Rattle.semver_req.specs.declared.range_set_or_tag.RangeSetOrTag.TheVariants as inner
use Rattle.deno_semver.specs.declared.package.order.By.{By}
use Rattle.deno_semver.specs.declared.package.order.By.TheVariants.{Bounds, Builds}
use Rattle.deno_semver.specs.declared.package.values.PackageReq.{PackageReq}

abbrev pub text_cmp : List ℕ → List ℕ → Ordering
text_cmp = slice_cmp nat_cmp

-- ---- bounds

-- an exclusive one first
abbrev pub kind_place : VersionBoundKind → ℕ
kind_place kind.Exclusive = 0
kind_place kind.Inclusive = 1

abbrev pub bound_versions_cmp : VersionBound → VersionBound → Ordering
bound_versions_cmp = on (λ (b : VersionBound). b.version) precedence_cmp

abbrev pub bound_kinds_cmp : VersionBound → VersionBound → Ordering
bound_kinds_cmp = on (λ (b : VersionBound). kind_place b.kind) nat_cmp

-- an absent one last
abbrev pub bound_place : RangeBound → ℕ
bound_place (bound.Version b) = 0
bound_place bound.Unbounded = 1

abbrev pub version_bound_of : RangeBound → Option VersionBound
version_bound_of (bound.Version b) = Some b
version_bound_of bound.Unbounded = None

-- starts: an absent one last, the higher version first, and then by kind
abbrev pub start_cmp : RangeBound → RangeBound → Ordering
start_cmp =
    then_cmp (on bound_place nat_cmp)
    (on version_bound_of (option_cmp (then_cmp (flip_args bound_versions_cmp) bound_kinds_cmp)))

-- ends: an absent one last, the lower version first, and then by kind
abbrev pub end_cmp : RangeBound → RangeBound → Ordering
end_cmp =
    then_cmp (on bound_place nat_cmp)
    (on version_bound_of (option_cmp (then_cmp bound_versions_cmp bound_kinds_cmp)))

-- the starts, and then the ends
abbrev pub range_cmp : VersionRange → VersionRange → Ordering
range_cmp = then_cmp (on (λ (r : VersionRange). r.start) start_cmp) (on (λ (r : VersionRange). r.end) end_cmp)

-- ---- builds

abbrev pub build_of : RangeBound → List (List ℕ)
build_of (bound.Version b) = b.version.build
build_of bound.Unbounded = []

-- the start's build, and then the end's, as lists of texts
abbrev pub builds_cmp : VersionRange → VersionRange → Ordering
builds_cmp =
    then_cmp (on (λ (r : VersionRange). build_of r.start) (slice_cmp text_cmp))
    (on (λ (r : VersionRange). build_of r.end) (slice_cmp text_cmp))

-- what two ranges are compared by
abbrev pub cmp_by : By → VersionRange → VersionRange → Ordering
cmp_by Bounds = range_cmp
cmp_by Builds = builds_cmp

-- ---- requirements

abbrev pub listed_ranges : RangeSetOrTag → List VersionRange
listed_ranges (inner.RangeSet set) = set.0
listed_ranges (inner.Tag text) = []

-- a tag before ranges, and of two tags the greater one first; the ranges one by one, and their builds last
abbrev pub inner_cmp : RangeSetOrTag → RangeSetOrTag → Ordering
inner_cmp =
    then_cmp (on tag_of (flip_args (option_cmp text_cmp)))
    (then_cmp (on listed_ranges (slice_cmp range_cmp)) (on listed_ranges (slice_cmp builds_cmp)))

-- the name, and then the version requirement's meaning
abbrev pub req_cmp : PackageReq → PackageReq → Ordering
req_cmp = then_cmp (on (λ (r : PackageReq). r.name) text_cmp) (on (λ (r : PackageReq). r.version_req.inner) inner_cmp)
