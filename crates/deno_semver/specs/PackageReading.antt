-- The results of the steps of parsing packages.
use Rattle.std.specs.Prelude.{◌≡◌, ◌⊎◌, ℕ, List, Option, Some, None, Result, MatchResult, codes, if◌then◌else◌}
use Rattle.semver_req.specs.Outcome.{IsOutcome, Rejected}
use Rattle.semver_req.specs.declared.common.values.Flavour.{Flavour}
use Rattle.deno_semver.specs.PackageOutcome.{BadVersion, PackageFault, IsFirstPackageFault, IsReadReq, Reports, failed}
use Rattle.deno_semver.specs.PackageText.{lacks_at}
use Rattle.deno_semver.specs.declared.package.errors.PackageReqParseError.{PackageReqParseError}
use Rattle.deno_semver.specs.declared.package.errors.PackageReqPartsParseError.{PackageReqPartsParseError}
use Rattle.deno_semver.specs.declared.package.errors.PackageReqPartsParseError.TheVariants as parts
use Rattle.deno_semver.specs.declared.package.values.PackageReq.{PackageReq}

-- the version's text is invalid, and the error says why
pub record IsBadVersion (f : Flavour) (version : List ℕ) (e : PackageReqPartsParseError) : Type 0 where
  pub rejected : IsOutcome f version Rejected
  pub reports : Reports f (BadVersion version) e

abbrev pub IsVersionReqRejection : Flavour → List ℕ → PackageReqPartsParseError → Type 0
IsVersionReqRejection f version e = (e ≡ parts.Memory) ⊎ IsBadVersion f version e

-- the same; without a version's text, only out of memory
abbrev pub IsPartsRejection : Flavour → Option (List ℕ) → PackageReqPartsParseError → Type 0
IsPartsRejection f None e = e ≡ parts.Memory
IsPartsRejection f (Some version) e = IsVersionReqRejection f version e

-- the error shows the path with its leading `/`, or is out of memory
abbrev pub IsPathError : List ℕ → PackageReqPartsParseError → Type 0
IsPathError tail e =
    (e ≡ parts.Memory)
    ⊎ (e ≡ parts.SpecifierVersionReq (failed (Some (codes "Unexpected character '/'", Some tail))))

-- the error reports the first fault of the text, or is out of memory
abbrev pub IsFaultError : Flavour → List ℕ → PackageReqPartsParseError → Type 0
IsFaultError f text e = (e ≡ parts.Memory) ⊎ ((fault : PackageFault) × IsFirstPackageFault f text fault × Reports f fault e)

abbrev pub IsReadPackage : Flavour → List ℕ → Result PackageReq PackageReqPartsParseError → Type 0
IsReadPackage f text result = MatchResult result (IsReadReq f text) (IsFaultError f text)

-- the source that is reported: a missing `@` goes before any other
abbrev pub reported_source : List ℕ → PackageReqPartsParseError → PackageReqPartsParseError
reported_source text source = if lacks_at text then parts.MissingAtSymbol else source

-- the error shows the whole text and the reported source
pub record ReportsSource (text : List ℕ) (source : PackageReqPartsParseError) (e : PackageReqParseError) : Type 0 where
  pub no_memory : source ≡ parts.Memory → ⊥
  pub source_is : e.source ≡ reported_source text source
  pub text_is : e.text ≡ text
