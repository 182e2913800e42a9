-- The JSON of versions, ranges, requirements and packages, and which values JSON parses to. Source: the JSON of the crate
-- `deno_semver`.
use Rattle.std.specs.Prelude.{◌≡◌, ℕ, List, [], ◌∷◌, Some, Ok, codes, map}
use Rattle.std.specs.Str.{trim}
use Rattle.serde_json.specs.Data.{Data, array, object, string, Items, item, no_items, member, no_members}
use Rattle.serde_json.specs.Find.{get}
use Rattle.serde_json.specs.View.{items_of}
use Rattle.semver_base.specs.VersionGrammar.{IsVersionOutcome}
use Rattle.semver_base.specs.VersionText.{version_text}
use Rattle.semver_base.specs.declared.range.RangeBound.{RangeBound}
use Rattle.semver_base.specs.declared.range.RangeBound.TheVariants as bound
use Rattle.semver_base.specs.declared.range.VersionBound.{VersionBound}
use Rattle.semver_base.specs.declared.range.VersionBoundKind.{VersionBoundKind}
use Rattle.semver_base.specs.declared.range.VersionBoundKind.TheVariants as kind
use Rattle.semver_base.specs.declared.range.VersionRange.{VersionRange}
use Rattle.semver_base.specs.declared.range.VersionRangeSet.{VersionRangeSet}
use Rattle.semver_base.specs.declared.version.Version.{Version}
use Rattle.semver_req.specs.Parsers.{IsReading}
use Rattle.semver_req.specs.Requirement.{Requirement, inner_text}
use Rattle.semver_req.specs.declared.common.values.Flavour.TheVariants.{Normal}
use Rattle.semver_req.specs.declared.range_set_or_tag.RangeSetOrTag.{RangeSetOrTag}
use Rattle.deno_semver.specs.DependencyOutcome.{IsDependencyOutcome}
use Rattle.deno_semver.specs.NameAndVersion.{IsNvOutcome}
use Rattle.deno_semver.specs.NvReference.{IsNvReferenceOutcome}
use Rattle.deno_semver.specs.PackageOutcome.{IsPackageOutcome}
use Rattle.deno_semver.specs.declared.jsr.dependency.JsrDepPackageReq.{JsrDepPackageReq}
use Rattle.deno_semver.specs.declared.package.values.PackageKind.{PackageKind}
use Rattle.deno_semver.specs.declared.package.values.PackageNv.{PackageNv}
use Rattle.deno_semver.specs.declared.package.nv_reference.PackageNvReference.{PackageNvReference}
use Rattle.deno_semver.specs.declared.package.values.PackageReq.{PackageReq}

-- ---- strings

-- a string whose text parses to the value
pub record IsStringOf {T : Type 0} (Reads : List ℕ → T → Type 0) (json : Data) (value : T) : Type 0 where
  pub text : List ℕ
  pub is_string : json ≡ string text
  pub reads : Reads text value

-- how a string's text is parsed, by the type of the value
abbrev pub IsTextItself : List ℕ → List ℕ → Type 0
IsTextItself text value = value ≡ text

abbrev pub IsTextOfVersion : List ℕ → Version → Type 0
IsTextOfVersion text version = IsVersionOutcome (trim text) (Ok version)

abbrev pub IsTextOfNv : List ℕ → PackageNv → Type 0
IsTextOfNv text nv = IsNvOutcome text (Ok nv)

abbrev pub IsTextOfReq : List ℕ → PackageReq → Type 0
IsTextOfReq text req = IsPackageOutcome Normal text (Ok req)

-- as a reference to a version of a package of this registry
abbrev pub IsTextOfReference : PackageKind → List ℕ → PackageNvReference → Type 0
IsTextOfReference kind text reference = IsNvReferenceOutcome kind text (Ok reference)

abbrev pub IsTextOfDependency : List ℕ → JsrDepPackageReq → Type 0
IsTextOfDependency text dependency = IsDependencyOutcome Normal text (Ok dependency)

-- as ranges or a tag, by the normalized grammar
abbrev pub IsTextOfInner : List ℕ → RangeSetOrTag → Type 0
IsTextOfInner = IsReading Normal

-- the string for a bound's kind
abbrev pub bound_kind_text : VersionBoundKind → List ℕ
bound_kind_text kind.Inclusive = codes "Inclusive"
bound_kind_text kind.Exclusive = codes "Exclusive"

abbrev pub IsTextOfKind : List ℕ → VersionBoundKind → Type 0
IsTextOfKind text k = text ≡ bound_kind_text k

-- ---- members and items

-- an object has a member with this key that parses to the value
pub record IsMemberOf {T : Type 0} (Reads : Data → T → Type 0) (key : List ℕ) (json : Data) (value : T) : Type 0 where
  pub member_json : Data
  pub is_member : get key json ≡ Some member_json
  pub reads : Reads member_json value

-- the items parse to the values, one by one
abbrev pub AreItemsOf : {T : Type 0} → (Data → T → Type 0) → Items → List T → Type 0
AreItemsOf Reads no_items [] = Unit {0}
AreItemsOf Reads no_items (x ∷ xs) = ⊥
AreItemsOf Reads (item d ds) [] = ⊥
AreItemsOf Reads (item d ds) (x ∷ xs) = Reads d x × AreItemsOf Reads ds xs

-- ---- bounds, ranges and requirements of versions

abbrev pub bound_json : VersionBound → Data
bound_json b =
    object (member (codes "kind") (string (bound_kind_text b.kind))
    (member (codes "version") (string (version_text b.version)) no_members))

pub record IsJsonOfBound (json : Data) (b : VersionBound) : Type 0 where
  pub kind : IsMemberOf (IsStringOf IsTextOfKind) (codes "kind") json b.kind
  pub version : IsMemberOf (IsStringOf IsTextOfVersion) (codes "version") json b.version

-- an absent bound is a string, any other an object with one member
abbrev pub range_bound_json : RangeBound → Data
range_bound_json bound.Unbounded = string (codes "Unbounded")
range_bound_json (bound.Version b) = object (member (codes "Version") (bound_json b) no_members)

-- that object has no further member
abbrev pub IsJsonOfRangeBound : Data → RangeBound → Type 0
IsJsonOfRangeBound json bound.Unbounded = json ≡ string (codes "Unbounded")
IsJsonOfRangeBound json (bound.Version b) =
    (only : Data) × (json ≡ object (member (codes "Version") only no_members)) × IsJsonOfBound only b

abbrev pub range_json : VersionRange → Data
range_json range =
    object (member (codes "end") (range_bound_json range.end)
    (member (codes "start") (range_bound_json range.start) no_members))

-- JSON as a range
pub record IsJsonOfRange (json : Data) (range : VersionRange) : Type 0 where
  pub start : IsMemberOf IsJsonOfRangeBound (codes "start") json range.start
  pub end : IsMemberOf IsJsonOfRangeBound (codes "end") json range.end

abbrev pub set_json : VersionRangeSet → Data
set_json set = array (items_of (map range_json set.0))

-- JSON as a set of ranges
pub record IsJsonOfSet (json : Data) (set : VersionRangeSet) : Type 0 where
  pub items : Items
  pub is_array : json ≡ array items
  pub ranges : AreItemsOf IsJsonOfRange items set.0

abbrev pub version_req_json : Requirement → Data
version_req_json req =
    object (member (codes "inner") (string (inner_text req.inner))
    (member (codes "raw_text") (string req.raw_text) no_members))

-- the `raw_text` is any string
pub record IsJsonOfVersionReq (json : Data) (req : Requirement) : Type 0 where
  pub raw_text : IsMemberOf (IsStringOf IsTextItself) (codes "raw_text") json req.raw_text
  pub inner : IsMemberOf (IsStringOf IsTextOfInner) (codes "inner") json req.inner
