-- The steps of parsing packages.
use Rattle.std.specs.Prelude.{◌≡◌, ◌⊎◌, ℕ, List, Option}
use Rattle.deno_semver.specs.PackageText.{IsPackageText, IsPathPart, IsScopeAlone, LacksPart, scoped_name, without_slash}
use Rattle.deno_semver.specs.declared.package.errors.PackageReqPartsParseError.{PackageReqPartsParseError}
use Rattle.deno_semver.specs.declared.package.errors.PackageReqPartsParseError.TheVariants.{NoPackageName, InvalidPackageName}

-- the parts of a text, its name preceded by the scope and `/`, and the path with its `/`
pub record IsCut (text name : List ℕ) (version : Option (List ℕ)) (tail path : List ℕ) : Type 0 where
  pub scope : Option (List ℕ)
  pub last : List ℕ
  pub parts : IsPackageText text (record { scope = scope; name = last; version = version; path = path })
  pub name_is : name ≡ scoped_name scope last
  pub path_is : IsPathPart tail path
  pub tail_is : parts.tail ≡ tail

-- the part that is missing
abbrev pub IsUncut : List ℕ → PackageReqPartsParseError → Type 0
IsUncut text e =
    ((e ≡ NoPackageName) × LacksPart (without_slash text))
    ⊎ ((e ≡ InvalidPackageName) × IsScopeAlone (without_slash text))
