-- The package that a text parses to, its parts, and what is wrong with an invalid text.
use Rattle.std.specs.Prelude.{◌≡◌, ◌==◌, ◌+◌, ℕ, List, [], ◌∷◌, Option, None, Some, Result, Ok, Err, codes, drop, length, if◌then◌else◌, take_while}
use Rattle.serde_json.specs.Data.{Data, member, no_members, object, string}
use Rattle.serde_json.specs.Written.{compact_text}
use Rattle.semver_base.specs.Characters.{at_sign, slash}
use Rattle.semver_req.specs.Parsers.{Failure}
use Rattle.semver_req.specs.Requirement.{inner_text}
use Rattle.semver_req.specs.declared.common.values.Flavour.{Flavour}
use Rattle.deno_semver.specs.Cuts.{is_not}
use Rattle.semver_req.specs.Alternatives.{AreInvalidBehind}
use Rattle.semver_req.specs.declared.error_places.pieces.InvalidPiece.{InvalidPiece}
use Rattle.deno_semver.specs.PackagePlaces.{IsRequirementAt, LacksRequirement}
use Rattle.deno_semver.specs.PackageOutcome as outcome
use Rattle.deno_semver.specs.PackageOutcome.{BadVersion, IsPackageOutcome, PackageFault, Reports}
use Rattle.deno_semver.specs.declared.package.errors.PackageReqPartsParseError.{PackageReqPartsParseError}
use Rattle.deno_semver.specs.declared.package.errors.PackageReqPartsParseError.TheVariants as parts
use Rattle.deno_semver.specs.declared.package.values.PackageReq.{PackageReq}
use Rattle.answers.specs.Asking.{Fault, Given, Is}
use Rattle.answers.specs.Object.{text_or_null}
use Rattle.answers.specs.Reading.{Parsed, ReadBy}
use Rattle.answers.specs.declared.asking.Kind.TheVariants as kind
use Rattle.package_answers.specs.Errors.{IsFaultAt, IsPartError, package_errors_json}
use Rattle.package_answers.specs.declared.errors.PackageErrors.{PackageErrors}
use Rattle.package_answers.specs.declared.errors.PackageErrors.TheVariants as errors

-- ---- a name and its scope

-- for a name that begins with `@`, the part between that and the first `/`
abbrev pub scope_part : List ℕ → Option (List ℕ)
scope_part [] = None
scope_part (first ∷ more) = if first == at_sign then Some (take_while (is_not slash) more) else None

-- what follows the scope and its `/`; without a scope, the whole name
abbrev pub last_part : List ℕ → List ℕ
last_part [] = []
last_part (first ∷ more) =
    if first == at_sign then drop (length (take_while (is_not slash) more) + 1) more else first ∷ more

-- ---- the parts of a package

-- the name without its scope, the range's canonical form and the text it was parsed from, and the scope
abbrev pub package_json : PackageReq → Data
package_json req =
    object (member (codes "name") (string (last_part req.name))
    (member (codes "normal") (string (inner_text req.version_req.inner))
    (member (codes "requirement") (string req.version_req.raw_text)
    (member (codes "scope") (text_or_null (scope_part req.name)) no_members))))

-- ---- failures

-- what is wrong: with the range what its grammar reports, else one of three messages; none for out of memory
abbrev pub parts_failure : PackageReqPartsParseError → Failure
parts_failure (parts.SpecifierVersionReq error) = error.source
parts_failure (parts.NpmVersionReq error) = error.source
parts_failure (parts.NormalizedVersionReq error) = error.source
parts_failure parts.NoPackageName = Some (codes "Did not contain a package name.", None)
parts_failure parts.InvalidPackageName = Some (codes "Did not contain a valid package name.", None)
parts_failure parts.MissingAtSymbol =
    Some (codes "Packages in the format <scope>/<name> must start with an '@' symbol.", None)
parts_failure parts.Memory = None

-- the failure is that of an error that reports the fault
abbrev pub ShowsPackageFault : Flavour → PackageFault → Failure → Type 0
ShowsPackageFault f fault failure = (e : PackageReqPartsParseError) × Reports f fault e × (failure ≡ parts_failure e)

-- ---- the question

-- the package that a text parses to, with a grammar for its range
abbrev pub IsPackage : Flavour → List ℕ → Result PackageReq Fault → Type 0
IsPackage f text = Parsed kind.Package 0 (ReadBy (IsPackageOutcome f text) (ShowsPackageFault f))

-- its parts
abbrev pub PackageParts : Flavour → List ℕ → Result (List ℕ) Fault → Type 0
PackageParts f text = Given (IsPackage f text) (λ req. Is (compact_text (package_json req)))

-- ---- places of errors

-- the invalid alternatives of the range in the text of a package, which stands behind so many bytes; none if it has no range
pub data AreRangeErrors (f : Flavour) (before : ℕ) (text : List ℕ) : List InvalidPiece → Type 0 where
  of_range : {start : ℕ} {range : List ℕ} {errors : List InvalidPiece} → IsRequirementAt text start range
      → AreInvalidBehind f (before + start) range errors → AreRangeErrors f before text errors
  no_range : LacksRequirement text → AreRangeErrors f before text []

-- they are these
abbrev pub AreOfRange : Flavour → ℕ → List ℕ → PackageErrors → Type 0
AreOfRange f before text (errors.Range pieces) = AreRangeErrors f before text pieces.items
AreOfRange f before text (errors.Part e) = ⊥

-- what is wrong with the text of a package, by its outcome: the errors of its range, or where it has another fault
pub data ArePackageErrors (f : Flavour) (text : List ℕ) (errors : PackageErrors) : Type 0 where
  valid : {req : PackageReq} → IsPackageOutcome f text (Ok req) → AreOfRange f 0 text errors → ArePackageErrors f text errors
  bad_version : {version : List ℕ} → IsPackageOutcome f text (Err (BadVersion version)) → AreOfRange f 0 text errors
      → ArePackageErrors f text errors
  other_fault : {fault : outcome.PackageFault} (error : PackageReqPartsParseError) → IsPackageOutcome f text (Err fault)
      → Reports f fault error → IsPartError (IsFaultAt text fault) (parts_failure error) errors
      → ArePackageErrors f text errors

-- the text is that of these errors as JSON
abbrev pub IsPackageErrorsText : Flavour → List ℕ → List ℕ → Type 0
IsPackageErrorsText f text json = (errors : PackageErrors) × ArePackageErrors f text errors
    × (json ≡ compact_text (package_errors_json (length text) errors))
