-- No text of a package, a name with a version, a reference or a dependency has two outcomes, and none of a package has two
-- splits; no JSON parses to two values of a type.
use Rattle.std.specs.Prelude.{◌≡◌, ℕ, List, Result}
use Rattle.serde_json.specs.Data.{Data}
use Rattle.semver_base.specs.declared.failure.Rejection.{Rejection}
use Rattle.semver_req.specs.declared.common.values.Flavour.{Flavour}
use Rattle.deno_semver.specs.DependencyOutcome.{DependencyFault, IsDependencyOutcome}
use Rattle.deno_semver.specs.NameAndVersion.{IsNvOutcome}
use Rattle.deno_semver.specs.NvReference.{IsNvReferenceOutcome}
use Rattle.deno_semver.specs.PackageOutcome.{PackageFault, IsPackageOutcome}
use Rattle.deno_semver.specs.PackageText.{IsPackageText, PackageParts}
use Rattle.deno_semver.specs.ReferenceOutcome.{IsReferenceOutcome, ReferenceFault}
use Rattle.deno_semver.specs.declared.jsr.dependency.JsrDepPackageReq.{JsrDepPackageReq}
use Rattle.deno_semver.specs.declared.package.values.PackageKind.{PackageKind}
use Rattle.deno_semver.specs.declared.package.nv_reference.PackageNvReference.{PackageNvReference}
use Rattle.deno_semver.specs.declared.package.reference.PackageReqReference.{PackageReqReference}
use Rattle.deno_semver.specs.declared.package.values.PackageNv.{PackageNv}
use Rattle.deno_semver.specs.declared.package.values.PackageReq.{PackageReq}

-- no text splits as a package in two ways
abbrev pub PackageTextsHaveOneCut : Type 0
PackageTextsHaveOneCut =
    (text : List ℕ) (cut other : PackageParts) → IsPackageText text cut → IsPackageText text other → cut ≡ other

-- no text parses to two package requirements, nor to one and a fault, nor has it two faults
abbrev pub PackageTextsHaveOneOutcome : Type 0
PackageTextsHaveOneOutcome =
    (f : Flavour) (text : List ℕ) (o p : Result PackageReq PackageFault) → IsPackageOutcome f text o
    → IsPackageOutcome f text p → o ≡ p

-- the same of references to packages of either registry
abbrev pub ReferencesHaveOneOutcome : Type 0
ReferencesHaveOneOutcome = (kind : PackageKind) (text : List ℕ) (o p : Result PackageReqReference ReferenceFault)
    → IsReferenceOutcome kind text o → IsReferenceOutcome kind text p → o ≡ p

-- and of dependencies of JSR packages
abbrev pub DependenciesHaveOneOutcome : Type 0
DependenciesHaveOneOutcome = (f : Flavour) (text : List ℕ) (o p : Result JsrDepPackageReq DependencyFault)
    → IsDependencyOutcome f text o → IsDependencyOutcome f text p → o ≡ p

-- of names with versions, and of references to versions
abbrev pub NamesWithVersionsHaveOneOutcome : Type 0
NamesWithVersionsHaveOneOutcome =
    (text : List ℕ) (o p : Result PackageNv Rejection) → IsNvOutcome text o → IsNvOutcome text p → o ≡ p

-- the same of references to versions
abbrev pub VersionReferencesHaveOneOutcome : Type 0
VersionReferencesHaveOneOutcome = (kind : PackageKind) (text : List ℕ) (o p : Result PackageNvReference Rejection)
    → IsNvReferenceOutcome kind text o → IsNvReferenceOutcome kind text p → o ≡ p

-- no JSON parses to two values
abbrev pub ParsesToOne : {T : Type 0} → (Data → T → Type 0) → Type 0
ParsesToOne {T} ParsesTo = (json : Data) (x y : T) → ParsesTo json x → ParsesTo json y → x ≡ y
