-- What the text of a package parses to, and why it is rejected. Sources: npm's package specifiers; which fault comes first is
-- the crate `deno_semver`'s choice.
use Rattle.std.specs.Prelude.{◌≡◌, ◌<◌, ◌∷◌, ◌⊎◌, [], ℕ, List, length, Option, Some, None, Result, Ok, Err, MatchResult, IsErrAnd, codes, if◌then◌else◌}
use Rattle.semver_base.specs.Characters.{slash}
use Rattle.semver_base.specs.declared.failure.ParserError.{ParserError}
use Rattle.semver_req.specs.Outcome.{IsOutcome, Rejected}
use Rattle.semver_req.specs.Parsers.{Failure, IsReadFrom}
use Rattle.semver_req.specs.Requirement.{Requirement, wildcard}
use Rattle.semver_req.specs.TextRejection.{IsTextRejection}
use Rattle.semver_req.specs.declared.common.values.Flavour.{Flavour}
use Rattle.semver_req.specs.declared.common.values.Flavour.TheVariants.{Npm, Normal, Specifier}
use Rattle.deno_semver.specs.PackageText.{IsPackageText, IsScopeAlone, LacksPart, PackageParts, lacks_at, scoped_name, without_slash}
use Rattle.deno_semver.specs.Parsed.{IsParsed}
use Rattle.deno_semver.specs.declared.package.errors.PackageReqPartsParseError.{PackageReqPartsParseError}
use Rattle.deno_semver.specs.declared.package.errors.PackageReqPartsParseError.TheVariants as parts
use Rattle.deno_semver.specs.declared.package.errors.PackageReqParseError.{PackageReqParseError}
use Rattle.deno_semver.specs.declared.package.values.PackageReq.{PackageReq}

-- the version's text parses to the version requirement; without a text, any version matches
abbrev pub IsVersionReq : Flavour → Option (List ℕ) → Requirement → Type 0
IsVersionReq f None req = req ≡ wildcard
IsVersionReq f (Some text) req = IsReadFrom f text req

-- why a text is rejected
pub data PackageFault : Type 0 where
  NoName : PackageFault
  BadName : PackageFault
  -- the version's text is invalid
  BadVersion : List ℕ → PackageFault
  -- a path follows the package requirement
  HasPath : List ℕ → PackageFault
  NoAt : PackageFault

-- the first fault of a text: the part that is missing, then its version, then its path
pub data IsFirstPackageFault (f : Flavour) (text : List ℕ) : PackageFault → Type 0 where
  no_name : LacksPart (without_slash text) → IsFirstPackageFault f text NoName
  bad_name : IsScopeAlone (without_slash text) → IsFirstPackageFault f text BadName
  bad_version : {cut : PackageParts} {version : List ℕ} → IsPackageText text cut → cut.version ≡ Some version
      → IsOutcome f version Rejected
      → IsFirstPackageFault f text (BadVersion version)
  has_path : {cut : PackageParts} (req : Requirement) → IsPackageText text cut → IsVersionReq f cut.version req
      → 0 < length cut.path
      → IsFirstPackageFault f text (HasPath cut.path)

-- the package requirement that a text parses to: its parts, without a path
pub record IsReadReq (f : Flavour) (text : List ℕ) (req : PackageReq) : Type 0 where
  pub cut : PackageParts
  pub is_cut : IsPackageText text cut
  pub name : req.name ≡ scoped_name cut.scope cut.name
  pub version_req : IsVersionReq f cut.version req.version_req
  pub no_path : length cut.path ≡ 0

-- what a text parses to; whatever the fault, a text that contains a `/` and doesn't begin with `@` lacks an `@`
pub data IsPackageOutcome (f : Flavour) (text : List ℕ) : Result PackageReq PackageFault → Type 0 where
  is_package : {req : PackageReq} → IsReadReq f text req → IsPackageOutcome f text (Ok req)
  is_fault : {fault : PackageFault} → IsFirstPackageFault f text fault
      → IsPackageOutcome f text (Err (if lacks_at text then NoAt else fault))

-- ---- results

-- a parser's error with this failure
abbrev pub failed : {parser : ℕ} → Failure → ParserError parser
failed failure = record { source = failure }

-- the error of that grammar
abbrev pub rejected_by : Flavour → Failure → PackageReqPartsParseError
rejected_by Specifier failure = parts.SpecifierVersionReq (failed failure)
rejected_by Npm failure = parts.NpmVersionReq (failed failure)
rejected_by Normal failure = parts.NormalizedVersionReq (failed failure)

-- what the error shows of a path: the text from its `/` on
abbrev pub path_failure : List ℕ → Failure
path_failure path = Some (codes "Unexpected character '/'", Some (slash ∷ path))

-- the error reports the fault
abbrev pub Reports : Flavour → PackageFault → PackageReqPartsParseError → Type 0
Reports f NoName e = e ≡ parts.NoPackageName
Reports f BadName e = e ≡ parts.InvalidPackageName
Reports f (BadVersion version) e =
    (failure : Failure) × (failure ≡ None → ⊥) × IsTextRejection f version failure × (e ≡ rejected_by f failure)
Reports f (HasPath path) e = e ≡ parts.SpecifierVersionReq (failed (path_failure path))
Reports f NoAt e = e ≡ parts.MissingAtSymbol

-- out of memory has no text
pub record IsOutOfMemory (e : PackageReqParseError) : Type 0 where
  pub source : e.source ≡ parts.Memory
  pub text : e.text ≡ []

-- the error reports the fault and the whole text
pub record ReportsFault (f : Flavour) (fault : PackageFault) (text : List ℕ) (e : PackageReqParseError) : Type 0 where
  pub source : Reports f fault e.source
  pub text_is : e.text ≡ text

-- the error is out of memory, or reports the fault that is the text's outcome
abbrev pub IsPackageRejection : Flavour → List ℕ → PackageReqParseError → Type 0
IsPackageRejection f text e =
    IsOutOfMemory e ⊎ ((fault : PackageFault) × IsPackageOutcome f text (Err fault) × ReportsFault f fault text e)

-- the result for a text with this outcome, or out of memory
abbrev pub IsPackageAnswer : Flavour → List ℕ → Result PackageReq PackageFault → Result PackageReq PackageReqParseError
    → Type 0
IsPackageAnswer f text (Ok req) result = MatchResult result (λ answer. answer ≡ req) IsOutOfMemory
IsPackageAnswer f text (Err fault) result = IsErrAnd result (λ e. IsOutOfMemory e ⊎ ReportsFault f fault text e)

-- what the parser of packages returns
abbrev pub IsParsedPackage : Flavour → List ℕ → Result PackageReq PackageReqParseError → Type 0
IsParsedPackage f text = IsParsed (IsPackageOutcome f text) (IsPackageRejection f text) (IsPackageAnswer f text)
