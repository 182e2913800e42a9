-- References to one version of a package, and dependencies, with their parts as JSON.
use Rattle.std.specs.Prelude.{◌≡◌, ℕ, List, None, Some, Result, Ok, Err, codes}
use Rattle.serde_json.specs.Data.{Data, member, no_members, object, string}
use Rattle.serde_json.specs.Written.{compact_text}
use Rattle.semver_base.specs.declared.failure.Rejection.{Rejection}
use Rattle.semver_req.specs.Parsers.{Failure}
use Rattle.semver_req.specs.declared.common.values.Flavour.{Flavour}
use Rattle.deno_semver.specs.DependencyText.{normal_dependency_text}
use Rattle.deno_semver.specs.DependencyOutcome.{DependencyFault, IsDependencyOutcome, ReportsDependency}
use Rattle.deno_semver.specs.NvReference.{IsNvReferenceOutcome}
use Rattle.deno_semver.specs.declared.jsr.dependency.JsrDepPackageReq.{JsrDepPackageReq}
use Rattle.deno_semver.specs.declared.jsr.dependency.JsrDepPackageReqParseError.{JsrDepPackageReqParseError}
use Rattle.deno_semver.specs.declared.jsr.dependency.JsrDepPackageReqParseError.TheVariants as error
use Rattle.deno_semver.specs.declared.package.values.PackageKind.{PackageKind}
use Rattle.answers.specs.Asking.{Fault, Given, Is}
use Rattle.package_answers.specs.Packages.{package_json, parts_failure}
use Rattle.answers.specs.Object.{text_or_null}
use Rattle.answers.specs.Reading.{Parsed, ReadBy}
use Rattle.package_answers.specs.Names.{ShowsRejection, nv_json}
use Rattle.package_answers.specs.References.{IsRegistryOf, export_of, registry_text}
use Rattle.answers.specs.declared.asking.Kind.TheVariants as kind
use Rattle.package_answers.specs.declared.specifiers.VersionReference.{VersionReference}

-- ---- dependencies

-- the registry, the canonical form of the whole, and the package
abbrev pub dependency_json : JsrDepPackageReq → Data
dependency_json d =
    object (member (codes "kind") (string (registry_text d.kind))
    (member (codes "normal") (string (normal_dependency_text d))
    (member (codes "package") (package_json d.req) no_members)))

-- what is wrong: with the package what its parser reports; none for out of memory
abbrev pub dependency_failure : JsrDepPackageReqParseError → Failure
dependency_failure (error.NotExpectedScheme scheme) = Some (codes "Neither jsr: nor npm: stands in front.", None)
dependency_failure (error.PackageReqParse inner) = parts_failure inner.source
dependency_failure error.Memory = None

-- the failure is that of an error that reports the fault
abbrev pub ShowsDependencyFault : Flavour → List ℕ → DependencyFault → Failure → Type 0
ShowsDependencyFault f text fault failure =
    (e : JsrDepPackageReqParseError) × ReportsDependency f text fault e × (failure ≡ dependency_failure e)

-- the dependency that a text parses to, with a grammar for its range
abbrev pub IsDependency : Flavour → List ℕ → Result JsrDepPackageReq Fault → Type 0
IsDependency f text = Parsed kind.Reference 0 (ReadBy (IsDependencyOutcome f text) (ShowsDependencyFault f text))

-- its parts
abbrev pub DependencyParts : Flavour → List ℕ → Result (List ℕ) Fault → Type 0
DependencyParts f text = Given (IsDependency f text) (λ d. Is (compact_text (dependency_json d)))

-- ---- references to a version

-- for JSR the export that the path means, the registry, the name with its version, and the path
abbrev pub version_reference_json : VersionReference → Data
version_reference_json read =
    object (member (codes "export") (text_or_null (export_of read.kind read.reference.sub_path))
    (member (codes "kind") (string (registry_text read.kind))
    (member (codes "package") (nv_json read.reference.nv)
    (member (codes "path") (text_or_null read.reference.sub_path) no_members))))

-- what the parser of the text's registry makes of it
abbrev pub IsPinnedOutcome : List ℕ → Result VersionReference Rejection → Type 0
IsPinnedOutcome text (Ok read) = IsRegistryOf text read.kind × IsNvReferenceOutcome read.kind text (Ok read.reference)
IsPinnedOutcome text (Err fault) =
    (registry : PackageKind) × IsRegistryOf text registry × IsNvReferenceOutcome registry text (Err fault)

-- the reference to a version of a package of that registry that a text parses to
abbrev pub IsVersionReference : List ℕ → Result VersionReference Fault → Type 0
IsVersionReference text = Parsed kind.Reference 0 (ReadBy (IsPinnedOutcome text) ShowsRejection)

-- its parts
abbrev pub VersionReferenceParts : List ℕ → Result (List ℕ) Fault → Type 0
VersionReferenceParts text = Given (IsVersionReference text) (λ read. Is (compact_text (version_reference_json read)))
