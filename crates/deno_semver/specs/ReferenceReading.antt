-- The results of the steps of parsing references.
use Rattle.std.specs.Prelude.{◌≡◌, ◌++◌, ◌⊎◌, ℕ, List, Option, Result, MatchOption, MatchResult}
use Rattle.std.specs.Borrow.{Bor}
use Rattle.semver_req.specs.declared.common.values.Flavour.{Flavour}
use Rattle.semver_req.specs.declared.common.values.Flavour.TheVariants.{Specifier}
use Rattle.deno_semver.specs.Kind.{scheme_of}
use Rattle.deno_semver.specs.PackageOutcome.{PackageFault, IsFirstPackageFault, IsVersionReq, Reports}
use Rattle.deno_semver.specs.PackageText.{IsPackageText, IsPathPart, PackageParts, scoped_name}
use Rattle.deno_semver.specs.ReferenceOutcome.{Invalid, InvalidPathWithVersion, IsOfReference, IsReadReference, Memory, unboxed}
use Rattle.deno_semver.specs.ReferenceText.{LacksScheme, reference_text, text_with_version}
use Rattle.deno_semver.specs.declared.package.errors.PackageReqPartsParseError.{PackageReqPartsParseError}
use Rattle.deno_semver.specs.declared.package.errors.PackageReqPartsParseError.TheVariants as parts
use Rattle.deno_semver.specs.declared.package.values.PackageKind.{PackageKind}
use Rattle.deno_semver.specs.declared.package.reference.PackageReqReference.{PackageReqReference}
use Rattle.deno_semver.specs.declared.package.errors.PackageReqReferenceParseError.{PackageReqReferenceParseError}
use Rattle.deno_semver.specs.declared.package.values.PackageReq.{PackageReq}

-- what follows the scheme, or none if the text doesn't begin with it
abbrev pub IsAfterScheme : PackageKind → List ℕ → Option (Bor (List ℕ)) → Type 0
IsAfterScheme kind text r = MatchOption r (LacksScheme kind text) (λ body. text ≡ scheme_of kind ++ body.now)

-- the package requirement at the start of a text, and the path after it, with its `/`
pub record IsReadWithPath (f : Flavour) (text : List ℕ) (req : PackageReq) (tail path : List ℕ) : Type 0 where
  pub cut : PackageParts
  pub is_cut : IsPackageText text cut
  pub name : req.name ≡ scoped_name cut.scope cut.name
  pub version_req : IsVersionReq f cut.version req.version_req
  pub path_is : path ≡ cut.path
  pub tail_is : IsPathPart tail cut.path

-- the error reports the first fault of a text that may have a path, or is out of memory
abbrev pub IsFrontError : Flavour → List ℕ → PackageReqPartsParseError → Type 0
IsFrontError f text e =
    (e ≡ parts.Memory) ⊎ ((fault : PackageFault) × IsFirstPackageFault f text fault × IsOfReference fault × Reports f fault e)

abbrev pub IsReferenceRead : List ℕ → Result PackageReqReference PackageReqPartsParseError → Type 0
IsReferenceRead body result = MatchResult result (IsReadReference body) (IsFrontError Specifier body)

-- the error shows the whole text and what is wrong in it, or is out of memory
abbrev pub IsReportedInvalid : List ℕ → PackageReqPartsParseError → PackageReqReferenceParseError → Type 0
IsReportedInvalid text source e =
    (unboxed e ≡ Memory)
    ⊎ ((source ≡ parts.Memory → ⊥) × (unboxed e ≡ Invalid (record { specifier = text; source = source })))

-- the error shows the reference as written and as suggested, or is out of memory
abbrev pub IsReportedVersion : PackageKind → PackageReqReference → List ℕ → List ℕ → PackageReqReferenceParseError → Type 0
IsReportedVersion kind reference before version e = (unboxed e ≡ Memory)
    ⊎ (unboxed e ≡ InvalidPathWithVersion
    (record {
      kind = kind;
      current = reference_text reference;
      suggested = text_with_version reference.req version before;
    }))
