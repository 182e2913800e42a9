-- The result for the text of a package and the text of a version.
use Rattle.std.specs.Prelude.{◌≡◌, ◌⊎◌, ℕ, List, Some, None, Result, Ok, Err, IfErr, IfOk, IsErr, MatchResult, length}
use Rattle.std.specs.Str.{trim}
use Rattle.semver_base.specs.Comparators.{Comparator}
use Rattle.semver_base.specs.Meaning.{tree_means}
use Rattle.semver_base.specs.VersionGrammar.{IsVersionOutcome, IsVersionRejection}
use Rattle.semver_base.specs.declared.failure.Rejection.{Rejection}
use Rattle.semver_base.specs.declared.version.Version.{Version}
use Rattle.semver_req.specs.Outcome.{IsOutcome, Ranges, tree_ranges}
use Rattle.semver_req.specs.declared.common.values.Flavour.{Flavour}
use Rattle.deno_semver.specs.PackageOutcome.{PackageFault, IsPackageOutcome, IsPackageRejection, IsOutOfMemory}
use Rattle.deno_semver.specs.PackageText.{IsPackageText, PackageParts}
use Rattle.deno_semver.specs.declared.package.values.PackageReq.{PackageReq}
use Rattle.callers.specs.Allowance.{allowance_of, yes_or_no}
use Rattle.callers.specs.declared.packages.Unanswered.{Unanswered}
use Rattle.callers.specs.declared.packages.Unanswered.TheVariants as why
use Rattle.callers.specs.declared.requirements.Allowance.{Allowance}

-- out of memory
abbrev pub IsMemoryFault : Unanswered → Type 0
IsMemoryFault (why.Package error) = IsOutOfMemory error
IsMemoryFault (why.Version error) = error.source ≡ None

-- why there is no result: the package's parse error, or the version's if the package is valid, or out of memory
abbrev pub IsWhyUnanswered : Flavour → List ℕ → List ℕ → Unanswered → Type 0
IsWhyUnanswered f text version (why.Package error) = IsPackageRejection f text error
IsWhyUnanswered f text version (why.Version error) =
    IsVersionRejection (trim version) error.source × (req : PackageReq) × IsPackageOutcome f text (Ok req)

-- the package's text or the version's is invalid
abbrev pub IsNoPackageOrVersion : Flavour → List ℕ → List ℕ → Type 0
IsNoPackageOrVersion f text version =
    ((fault : PackageFault) × IsPackageOutcome f text (Err fault))
    ⊎ ((fault : Rejection) × IsVersionOutcome (trim version) (Err fault))

-- what the text of a package says of a version
pub record AllowsPackage (f : Flavour) (text version : List ℕ) (result : Result Allowance Unanswered) : Type 0 where
  -- a result is that of the requirement and the version that the texts parse to
  pub reported : IfOk result (λ allowance. (req : PackageReq) × (v : Version) × IsPackageOutcome f text (Ok req)
      × IsVersionOutcome (trim version) (Ok v) × (allowance ≡ allowance_of req.version_req.inner v))
  -- it is that for every requirement and version that they parse to, or out of memory
  pub answer : (req : PackageReq) (v : Version) → IsPackageOutcome f text (Ok req)
      → IsVersionOutcome (trim version) (Ok v)
      → MatchResult result (λ allowance. allowance ≡ allowance_of req.version_req.inner v) IsMemoryFault
  -- for every tree of the requirement's part it is yes exactly if the tree means the version, or out of memory
  pub tree : (cut : PackageParts) (part : List ℕ) (tree : List (List Comparator)) (v : Version) → IsPackageText text cut
      → cut.version ≡ Some part → length cut.path ≡ 0 → IsOutcome f part (Ranges tree)
      → IsVersionOutcome (trim version) (Ok v)
      → MatchResult result (λ allowance. allowance ≡ yes_or_no (tree_means (tree_ranges tree) v)) IsMemoryFault
  -- there is no result exactly if either is invalid, out of memory aside; the error says why
  pub rejected : IsNoPackageOrVersion f text version → IsErr result
  pub rejection : IfErr result (IsWhyUnanswered f text version)
