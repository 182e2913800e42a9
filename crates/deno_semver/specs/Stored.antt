-- What the stored canonical form of a package requirement, or a dependency, parses to. Source: the crate `deno_semver`, which
-- means a requirement's text to be parsed again.
use Rattle.std.specs.Prelude.{◌≡◌, ℕ, List, true, Ok, IsUtf8}
use Rattle.std.specs.List.{list_all}
use Rattle.serde_json.specs.Data.{Data, string}
use Rattle.semver_base.specs.Meaning.{alternatives, tree_means_with}
use Rattle.semver_base.specs.declared.range.PreRelease.{PreRelease}
use Rattle.semver_base.specs.declared.range.VersionRange.{VersionRange}
use Rattle.semver_base.specs.declared.version.Version.{Version}
use Rattle.semver_req.specs.Rereading.{is_orderly, keeps_meaning}
use Rattle.semver_req.specs.declared.common.values.Flavour.TheVariants.{Npm}
use Rattle.semver_req.specs.declared.range_set_or_tag.RangeSetOrTag.{RangeSetOrTag}
use Rattle.semver_req.specs.declared.range_set_or_tag.RangeSetOrTag.TheVariants as inner
use Rattle.deno_semver.specs.DependencyText.{normal_dependency_text}
use Rattle.deno_semver.specs.Equal.{AreEqualDependencies, AreEqualReqs}
use Rattle.deno_semver.specs.Json.{IsStringOf, IsTextOfDependency, IsTextOfReq}
use Rattle.deno_semver.specs.PackageOutcome.{IsPackageOutcome}
use Rattle.deno_semver.specs.RequirementText.{normal_req_text}
use Rattle.deno_semver.specs.declared.jsr.dependency.JsrDepPackageReq.{JsrDepPackageReq}
use Rattle.deno_semver.specs.declared.package.values.PackageReq.{PackageReq}

-- ranges that are parsed in place of these
pub record AreReadFor (ranges again : List VersionRange) : Type 0 where
  -- they match the same versions if each of these keeps its meaning, with npm's rule about pre-releases and without
  pub means : list_all keeps_meaning ranges ≡ true → (flag : PreRelease) (v : Version)
      → tree_means_with flag (alternatives again) v ≡ tree_means_with flag (alternatives ranges) v
  -- they are the same if each of these is orderly too
  pub equal : list_all is_orderly ranges ≡ true → list_all keeps_meaning ranges ≡ true → again ≡ ranges

-- ranges parse to such ranges, and a tag to itself
abbrev pub IsReadFor : RangeSetOrTag → RangeSetOrTag → Type 0
IsReadFor (inner.RangeSet set) (inner.RangeSet again) = AreReadFor set.0 again.0
IsReadFor (inner.RangeSet set) (inner.Tag again) = ⊥
IsReadFor (inner.Tag tag) (inner.RangeSet again) = ⊥
IsReadFor (inner.Tag tag) (inner.Tag again) = again ≡ tag

-- the JSON parses to a package requirement equal to this one
pub record ParsesToEqual (json : Data) (req : PackageReq) : Type 0 where
  pub again : PackageReq
  pub parses_to : IsStringOf IsTextOfReq json again
  pub equal : AreEqualReqs again req

-- its JSON parses to an equal package requirement
abbrev pub IsStableReq : PackageReq → Type 0
IsStableReq req = ParsesToEqual (string (normal_req_text req)) req

-- a package requirement with the same name, which keeps this one's meaning and is stable
pub record IsSameWhenStored (req again : PackageReq) : Type 0 where
  pub name : again.name ≡ req.name
  pub stored : IsReadFor req.version_req.inner again.version_req.inner
  pub stable : IsStableReq again

-- the JSON parses to such a package requirement
pub record IsStoredReq (req : PackageReq) (json : Data) : Type 0 where
  pub again : PackageReq
  pub parses_to : IsStringOf IsTextOfReq json again
  pub is_retained : IsSameWhenStored req again

-- for each package requirement that npm's grammar parsed from some text, its JSON parses to such a package requirement
abbrev pub StoredRequirementsAreReadAgain : Type 0
StoredRequirementsAreReadAgain = (req : PackageReq) (text : List ℕ) → IsUtf8 text → IsPackageOutcome Npm text (Ok req)
    → IsStoredReq req (string (normal_req_text req))

-- ---- dependencies

-- the JSON parses to a dependency equal to this one
pub record ParsesToEqualDependency (json : Data) (dependency : JsrDepPackageReq) : Type 0 where
  pub again : JsrDepPackageReq
  pub parses_to : IsStringOf IsTextOfDependency json again
  pub equal : AreEqualDependencies again dependency

abbrev pub IsStableDependency : JsrDepPackageReq → Type 0
IsStableDependency dependency = ParsesToEqualDependency (string (normal_dependency_text dependency)) dependency

-- the JSON parses to a dependency of the same registry and name, which keeps this one's meaning and is stable
pub record IsStoredDependency (dependency : JsrDepPackageReq) (json : Data) : Type 0 where
  pub again : JsrDepPackageReq
  pub parses_to : IsStringOf IsTextOfDependency json again
  pub kind : again.kind ≡ dependency.kind
  pub name : again.req.name ≡ dependency.req.name
  pub stored : IsReadFor dependency.req.version_req.inner again.req.version_req.inner
  pub stable : IsStableDependency again
