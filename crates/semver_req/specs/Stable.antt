-- What the canonical form of a range parses to, and the ranges that parse back unchanged.
use Rattle.std.specs.Prelude.{◌≡◌, List, [], true}
use Rattle.std.specs.Ordering.{is_ge}
use Rattle.std.specs.declared.cmp.Ordering.TheVariants.{Less}
use Rattle.semver_base.specs.Meaning.{bound_at, everything, from, release, to_below}
use Rattle.semver_base.specs.PartialTable.{up_to, between}
use Rattle.semver_base.specs.Precedence.{precedence_cmp}
use Rattle.semver_base.specs.Shortest.{has_short_form, shortest, shortest_tree}
use Rattle.semver_base.specs.declared.range.RangeBound.TheVariants as bound
use Rattle.semver_base.specs.declared.range.VersionBoundKind.{VersionBoundKind}
use Rattle.semver_base.specs.declared.range.VersionBoundKind.TheVariants as kind
use Rattle.semver_base.specs.declared.range.VersionRange.{VersionRange}
use Rattle.semver_base.specs.declared.version.Version.{Version}
use Rattle.semver_req.specs.RetainedSet.{retained, retained_range}
use Rattle.semver_req.specs.declared.common.values.Flavour.TheVariants.{Normal}

-- the range that is kept of the shortest form of a range
abbrev pub reread : VersionRange → VersionRange
reread range = retained_range (shortest range)

-- the ranges that npm's and the normalized parser keep of the shortest form of a set
abbrev pub reread_set : List VersionRange → List VersionRange
reread_set ranges = retained Normal (shortest_tree ranges)

-- the ranges that parse back unchanged, by their bounds
pub data IsStable : VersionRange → Type 0 where
  all : IsStable everything
  no_end : {k : VersionBoundKind} {s : Version} → s.build ≡ [] → IsStable (between (bound_at k s) bound.Unbounded)
  one_version : {s : Version} → IsStable (between (from s) (up_to s))
  -- the start may have a build
  short : {s e : Version} → has_short_form s e ≡ true → IsStable (between (from s) (to_below e))
  -- the start isn't below 0.0.0, and is below the end
  ordered : {k l : VersionBoundKind} {s e : Version} → s.build ≡ [] → e.build ≡ []
      → is_ge (precedence_cmp s (release 0 0 0)) ≡ true
      → precedence_cmp s e ≡ Less → IsStable (between (bound_at k s) (bound_at l e))
  empty_at_end : {l : VersionBoundKind} {e : Version} → e.build ≡ []
      → IsStable (between (bound_at kind.Exclusive e) (bound_at l e))
