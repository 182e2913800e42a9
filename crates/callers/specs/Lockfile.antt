-- What a lockfile keeps of a package requirement.
use Rattle.std.specs.Prelude.{◌≡◌, ℕ, List, true, All, Result, Ok, MatchResult, IsUtf8}
use Rattle.std.specs.List.{list_all}
use Rattle.semver_req.specs.Rereading.{keeps_meaning}
use Rattle.semver_req.specs.declared.common.values.Flavour.TheVariants.{Npm}
use Rattle.semver_req.specs.declared.range_set_or_tag.RangeSetOrTag.{RangeSetOrTag}
use Rattle.semver_req.specs.declared.range_set_or_tag.RangeSetOrTag.TheVariants as inner
use Rattle.deno_semver.specs.PackageOutcome.{IsPackageOutcome}
use Rattle.deno_semver.specs.Stored.{IsSameWhenStored, IsStableReq}
use Rattle.deno_semver.specs.StoredList.{IsSortedFrom, OneByOne}
use Rattle.deno_semver.specs.declared.json.JsonError.{JsonError}
use Rattle.deno_semver.specs.declared.json.JsonError.TheVariants as error
use Rattle.deno_semver.specs.declared.package.values.PackageReq.{PackageReq}

-- the value is so, or out of memory
abbrev pub Locks : {T : Type 0} → (T → Type 0) → Result T JsonError → Type 0
Locks Says result = MatchResult result Says (λ e. e ≡ error.Memory)

-- this holds for a requirement that npm's grammar parsed from some text
abbrev pub OfNpm : PackageReq → Type 0 → Type 0
OfNpm req Says = (text : List ℕ) → IsUtf8 text → IsPackageOutcome Npm text (Ok req) → Says

-- what a stored list parses to: for each requirement one with the same name, which keeps its meaning and is stable; all in
-- ascending order
pub record IsLockedList (reqs again : List PackageReq) : Type 0 where
  pub stored : List PackageReq
  pub are_stored : OneByOne IsSameWhenStored reqs stored
  pub is_sorted : IsSortedFrom stored again
  pub stable : All IsStableReq again

-- the ranges keep their meaning; a tag always does
abbrev pub KeepsMeaning : RangeSetOrTag → Type 0
KeepsMeaning (inner.RangeSet set) = list_all keeps_meaning set.0 ≡ true
KeepsMeaning (inner.Tag tag) = Unit {0}
