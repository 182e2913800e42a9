-- The result for the text of a reference and the text of a version.
use Rattle.std.specs.Prelude.{◌≡◌, ◌⊎◌, ℕ, List, Some, None, Result, Ok, Err, IfErr, IfOk, IsErrAnd, MatchResult, codes, true}
use Rattle.std.specs.List.{list_all}
use Rattle.std.specs.Str.{trim}
use Rattle.semver_base.specs.Characters.{at_sign}
use Rattle.semver_base.specs.Comparators.{Comparator}
use Rattle.semver_base.specs.Meaning.{tree_means}
use Rattle.semver_base.specs.VersionGrammar.{IsVersionOutcome, IsVersionRejection, version_failure}
use Rattle.semver_base.specs.declared.failure.Rejection.{Rejection}
use Rattle.semver_base.specs.declared.version.Version.{Version}
use Rattle.semver_req.specs.Outcome.{IsOutcome, Ranges, Tag, tree_ranges}
use Rattle.semver_req.specs.declared.common.values.Flavour.TheVariants.{Specifier}
use Rattle.deno_semver.specs.Cuts.{is_not}
use Rattle.deno_semver.specs.PackageText.{IsPackageText, PackageParts}
use Rattle.deno_semver.specs.ReferenceOutcome.{IsReferenceOutcome, IsReferenceRejection, Memory, ReferenceFault, ReportsReference, unboxed}
use Rattle.deno_semver.specs.ReferenceText.{with_scheme}
use Rattle.deno_semver.specs.declared.package.values.PackageKind.{PackageKind}
use Rattle.deno_semver.specs.declared.package.reference.PackageReqReference.{PackageReqReference}
use Rattle.callers.specs.Allowance.{allowance_of, yes_or_no}
use Rattle.callers.specs.declared.packages.UnansweredReference.{UnansweredReference}
use Rattle.callers.specs.declared.packages.UnansweredReference.TheVariants as why
use Rattle.callers.specs.declared.requirements.Allowance.{Allowance}
use Rattle.callers.specs.declared.requirements.Allowance.TheVariants as allowance_is

-- out of memory
abbrev pub IsReferenceOutOfMemory : UnansweredReference → Type 0
IsReferenceOutOfMemory (why.Reference error) = unboxed error ≡ Memory
IsReferenceOutOfMemory (why.Version error) = error.source ≡ None

-- why there is no result: the reference's parse error, or the version's if the reference is valid, or out of memory
abbrev pub IsWhy : PackageKind → List ℕ → List ℕ → UnansweredReference → Type 0
IsWhy kind text version (why.Reference error) = IsReferenceRejection kind text error
IsWhy kind text version (why.Version error) =
    IsVersionRejection (trim version) error.source × (reference : PackageReqReference)
    × IsReferenceOutcome kind text (Ok reference)

-- the error reports the fault of the reference's text
abbrev pub ReportsOfReference : PackageKind → List ℕ → ReferenceFault → UnansweredReference → Type 0
ReportsOfReference kind text fault (why.Reference error) = ReportsReference kind text fault error
ReportsOfReference kind text fault (why.Version error) = ⊥

-- the error reports the fault of the version's text
abbrev pub ReportsOfVersion : List ℕ → Rejection → UnansweredReference → Type 0
ReportsOfVersion version fault (why.Reference error) = ⊥
ReportsOfVersion version fault (why.Version error) = error.source ≡ version_failure fault version

-- the requirement's part of a reference's text; if that is `*`, the path has no `@`
pub record IsPartOf (kind : PackageKind) (text part : List ℕ) : Type 0 where
  pub body : List ℕ
  pub cut : PackageParts
  pub scheme : text ≡ with_scheme kind body
  pub is_cut : IsPackageText body cut
  pub is_part : cut.version ≡ Some part
  pub no_version_in_path : part ≡ codes "*" → list_all (is_not at_sign) cut.path ≡ true

-- what the text of a reference says of a version
pub record AllowsReference (kind : PackageKind) (text version : List ℕ) (result : Result Allowance UnansweredReference)
    : Type 0 where
  -- a result is that of the reference and the version that the texts parse to
  pub reported : IfOk result (λ allowance. (reference : PackageReqReference) × (v : Version)
      × IsReferenceOutcome kind text (Ok reference) × IsVersionOutcome (trim version) (Ok v)
      × (allowance ≡ allowance_of reference.req.version_req.inner v))
  -- it is that for every reference and version that they parse to, or out of memory
  pub answer : (reference : PackageReqReference) (v : Version) → IsReferenceOutcome kind text (Ok reference)
      → IsVersionOutcome (trim version) (Ok v)
      → MatchResult result (λ allowance. allowance ≡ allowance_of reference.req.version_req.inner v) IsReferenceOutOfMemory
  -- for every tree of the requirement's part it is yes exactly if the tree means the version, or out of memory
  pub tree : (part : List ℕ) (tree : List (List Comparator)) (v : Version) → IsPartOf kind text part
      → IsOutcome Specifier part (Ranges tree) → IsVersionOutcome (trim version) (Ok v)
      → MatchResult result (λ allowance. allowance ≡ yes_or_no (tree_means (tree_ranges tree) v)) IsReferenceOutOfMemory
  -- a tag is returned as one, or out of memory
  pub tag : (part name : List ℕ) (v : Version) → IsPartOf kind text part → IsOutcome Specifier part (Tag name)
      → IsVersionOutcome (trim version) (Ok v)
      → MatchResult result (λ allowance. allowance ≡ allowance_is.Tag) IsReferenceOutOfMemory
  -- the error reports the fault of an invalid reference, or of an invalid version with a valid reference, or is out of memory
  pub no_reference : (fault : ReferenceFault) → IsReferenceOutcome kind text (Err fault)
      → IsErrAnd result (λ e. IsReferenceOutOfMemory e ⊎ ReportsOfReference kind text fault e)
  pub no_version : (reference : PackageReqReference) (fault : Rejection) → IsReferenceOutcome kind text (Ok reference)
      → IsVersionOutcome (trim version) (Err fault)
      → IsErrAnd result (λ e. IsReferenceOutOfMemory e ⊎ ReportsOfVersion (trim version) fault e)
  -- the error reports nothing else
  pub rejection : IfErr result (IsWhy kind text version)
