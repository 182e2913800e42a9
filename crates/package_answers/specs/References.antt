-- The package reference that a text parses to, its parts, and what is wrong with an invalid text.
use Rattle.std.specs.Prelude.{◌≡◌, ◌++◌, ◌∷◌, ◌+◌, ℕ, List, true, Option, None, Some, Result, Ok, Err, codes, length}
use Rattle.std.specs.List.{list_all}
use Rattle.serde_json.specs.Data.{Data, member, no_members, object, string}
use Rattle.serde_json.specs.Written.{compact_text}
use Rattle.semver_base.specs.Characters.{at_sign}
use Rattle.semver_req.specs.Parsers.{Failure}
use Rattle.semver_req.specs.declared.common.values.Flavour.TheVariants.{Specifier}
use Rattle.deno_semver.specs.Cuts.{is_not}
use Rattle.deno_semver.specs.ExportName.{export_name}
use Rattle.deno_semver.specs.Kind.{scheme_of}
use Rattle.deno_semver.specs.PackageOutcome as outcome
use Rattle.deno_semver.specs.PackageOutcome.{BadVersion}
use Rattle.deno_semver.specs.ReferenceOutcome as reference
use Rattle.deno_semver.specs.ReferenceOutcome.{BadText, IsReferenceOutcome, OtherScheme, ReferenceError, ReferenceFault, ReportsReference, VersionInPath, unboxed}
use Rattle.deno_semver.specs.ReferenceText.{LacksScheme}
use Rattle.deno_semver.specs.declared.package.values.PackageKind.{PackageKind}
use Rattle.deno_semver.specs.declared.package.values.PackageKind.TheVariants.{Jsr, Npm}
use Rattle.deno_semver.specs.declared.package.errors.PackageReqReferenceParseError.{PackageReqReferenceParseError}
use Rattle.answers.specs.Asking.{Fault, Given, Is}
use Rattle.package_answers.specs.Packages.{AreOfRange, package_json, parts_failure}
use Rattle.answers.specs.Object.{text_or_null}
use Rattle.answers.specs.Reading.{Parsed, ReadBy}
use Rattle.answers.specs.declared.asking.Kind.TheVariants as kind
use Rattle.package_answers.specs.Errors.{IsFaultAt, IsPartError, package_errors_json}
use Rattle.package_answers.specs.declared.errors.PackageErrors.{PackageErrors}
use Rattle.package_answers.specs.declared.errors.Part.{Part}
use Rattle.package_answers.specs.declared.errors.Part.TheVariants.{Scheme}
use Rattle.package_answers.specs.declared.references.Reference.{Reference}

-- ---- the parts

-- the name of a registry
abbrev pub registry_text : PackageKind → List ℕ
registry_text Jsr = codes "jsr"
registry_text Npm = codes "npm"

-- for JSR, the export that the path means
abbrev pub export_of : PackageKind → Option (List ℕ) → Option (List ℕ)
export_of Jsr path = Some (export_name path)
export_of Npm path = None

-- for JSR the export that the path means, the registry, the package and the path
abbrev pub reference_json : Reference → Data
reference_json read =
    object (member (codes "export") (text_or_null (export_of read.kind read.reference.sub_path))
    (member (codes "kind") (string (registry_text read.kind))
    (member (codes "package") (package_json read.reference.req)
    (member (codes "path") (text_or_null read.reference.sub_path) no_members))))

-- ---- failures

-- what is wrong: with the package what its parser reports, else one of two messages; none for out of memory
abbrev pub reference_failure : ReferenceError → Failure
reference_failure (reference.NotExpectedScheme registry) = Some (codes "Neither jsr: nor npm: stands in front.", None)
reference_failure (reference.Invalid error) = parts_failure error.source
reference_failure (reference.InvalidPathWithVersion error) =
    Some (codes "The version stands in the path; write " ++ (scheme_of error.kind ++ error.suggested), None)
reference_failure reference.Memory = None

-- ---- the question

-- JSR if the text begins with its scheme, else npm
abbrev pub IsRegistryOf : List ℕ → PackageKind → Type 0
IsRegistryOf text Jsr = (body : List ℕ) × (text ≡ scheme_of Jsr ++ body)
IsRegistryOf text Npm = LacksScheme Jsr text

-- what the parser of that registry makes of the text
abbrev pub IsRegistryOutcome : List ℕ → Result Reference ReferenceFault → Type 0
IsRegistryOutcome text (Ok read) = IsRegistryOf text read.kind × IsReferenceOutcome read.kind text (Ok read.reference)
IsRegistryOutcome text (Err fault) =
    (registry : PackageKind) × IsRegistryOf text registry × IsReferenceOutcome registry text (Err fault)

-- the failure is that of an error of its registry that reports the fault
abbrev pub ShowsReferenceFault : List ℕ → ReferenceFault → Failure → Type 0
ShowsReferenceFault text fault failure = (registry : PackageKind) × (e : PackageReqReferenceParseError) × IsRegistryOf text registry
    × ReportsReference registry text fault e × (failure ≡ reference_failure (unboxed e))

-- the reference to a package of that registry that a text parses to
abbrev pub IsReference : List ℕ → Result Reference Fault → Type 0
IsReference text = Parsed kind.Reference 0 (ReadBy (IsRegistryOutcome text) (ShowsReferenceFault text))

-- its parts
abbrev pub ReferenceParts : List ℕ → Result (List ℕ) Fault → Type 0
ReferenceParts text = Given (IsReference text) (λ read. Is (compact_text (reference_json read)))

-- ---- places of errors

-- where the text of a reference has a fault, and the part that is missing there; a version isn't allowed in the path
pub data IsReferenceFaultAt (text : List ℕ) : ReferenceFault → Option Part → ℕ → Type 0 where
  no_scheme : IsReferenceFaultAt text OtherScheme (Some Scheme) 0
  behind_scheme : (kind : PackageKind) {body : List ℕ} {fault : outcome.PackageFault} {missing : Option Part} {place : ℕ}
      → text ≡ scheme_of kind ++ body → IsFaultAt body fault missing place
      → IsReferenceFaultAt text (BadText fault) missing (length (scheme_of kind) + place)
  -- at the last `@`
  at_version : (before version : List ℕ) {current suggested : List ℕ} → text ≡ before ++ (at_sign ∷ version)
      → list_all (is_not at_sign) version ≡ true
      → IsReferenceFaultAt text (VersionInPath current suggested) None (length before)

-- the errors of the range behind the scheme
pub record AreBehindScheme (kind : PackageKind) (text : List ℕ) (errors : PackageErrors) : Type 0 where
  pub body : List ℕ
  pub text_is : text ≡ scheme_of kind ++ body
  pub are : AreOfRange Specifier (length (scheme_of kind)) body errors

-- what is wrong with the text of a reference, by its outcome: the errors of its range, or where it has another fault
pub data AreReferenceErrors (text : List ℕ) (errors : PackageErrors) : Type 0 where
  valid : {read : Reference} → IsRegistryOutcome text (Ok read) → AreBehindScheme read.kind text errors
      → AreReferenceErrors text errors
  bad_version : (kind : PackageKind) {version : List ℕ} → IsRegistryOutcome text (Err (BadText (BadVersion version)))
      → AreBehindScheme kind text errors → AreReferenceErrors text errors
  other_fault : (kind : PackageKind) {fault : ReferenceFault} (error : PackageReqReferenceParseError)
      → IsRegistryOf text kind → IsReferenceOutcome kind text (Err fault) → ReportsReference kind text fault error
      → IsPartError (IsReferenceFaultAt text fault) (reference_failure (unboxed error)) errors
      → AreReferenceErrors text errors

-- the text is that of these errors as JSON
abbrev pub IsReferenceErrorsText : List ℕ → List ℕ → Type 0
IsReferenceErrorsText text json = (errors : PackageErrors) × AreReferenceErrors text errors
    × (json ≡ compact_text (package_errors_json (length text) errors))
