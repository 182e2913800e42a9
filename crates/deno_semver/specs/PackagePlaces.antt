-- Where the version requirement of a package stands in its text.
use Rattle.std.specs.Prelude.{◌≡◌, ◌++◌, ℕ, List, length, None, Some}
use Rattle.deno_semver.specs.PackageText.{IsPackageText, PackageParts}

-- the text of the version requirement, and how many bytes stand before it; the path follows
pub record IsRequirementAt (text : List ℕ) (start : ℕ) (requirement : List ℕ) : Type 0 where
  pub parts : PackageParts
  pub is_cut : IsPackageText text parts
  pub version_is : parts.version ≡ Some requirement
  pub before : List ℕ
  pub text_is : text ≡ before ++ (requirement ++ is_cut.tail)
  pub start_is : start ≡ length before

-- the text has no parts, or none of them is a version requirement
abbrev pub LacksRequirement : List ℕ → Type 0
LacksRequirement text = (parts : PackageParts) → IsPackageText text parts → parts.version ≡ None

-- a text has one version requirement, at one place
abbrev pub RequirementsStandAtOnePlace : Type 0
RequirementsStandAtOnePlace = (text : List ℕ) (start other : ℕ) (requirement also : List ℕ) → IsRequirementAt text start requirement
    → IsRequirementAt text other also → (start ≡ other) × (requirement ≡ also)
