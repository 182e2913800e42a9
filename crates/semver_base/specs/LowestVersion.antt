-- The lowest version that passes a test. Source: node-semver's `minVersion`, here for any test, and for several sets of
-- ranges at once.
use Rattle.std.specs.Prelude.{◌≡◌, ℕ, List, [], Bool, not, ◌&&◌, IfSome, Option, Some, None, Ok, true, false}
use Rattle.std.specs.List.{list_all}
use Rattle.std.specs.Ordering.{is_le}
use Rattle.semver_base.specs.Meaning.{set_means_with}
use Rattle.semver_base.specs.Precedence.{precedence_cmp}
use Rattle.semver_base.specs.VersionGrammar.{AllNumbersFit, IsVersionOutcome}
use Rattle.semver_base.specs.VersionText.{AreIdentifiers, ReadsBack}
use Rattle.semver_base.specs.declared.version.Version.{Version}
use Rattle.semver_base.specs.declared.range.PreRelease.{PreRelease}
use Rattle.semver_base.specs.declared.range.VersionRange.{VersionRange}
use Rattle.semver_base.specs.declared.range.VersionRangeSet.{VersionRangeSet}

-- every number fits, and every identifier of the pre-release matches the grammar
pub record IsReadable (v : Version) : Type 0 where
  pub numbers : AllNumbersFit v
  pub pre : AreIdentifiers v.pre

-- every version that a text parses to is readable
abbrev pub ReadVersionsAreReadable : Type 0
ReadVersionsAreReadable = (text : List ℕ) (v : Version) → IsVersionOutcome text (Ok v) → IsReadable v

-- the version passes the test, and no readable one that passes it is lower; or no readable one passes it
abbrev pub IsLowestPassing : (Version → Bool) → Option Version → Type 0
IsLowestPassing test (Some lowest) = (test lowest ≡ true)
    × ((v : Version) → IsReadable v → test v ≡ true → is_le (precedence_cmp lowest v) ≡ true)
IsLowestPassing test None = (v : Version) → IsReadable v → test v ≡ false

-- the version has no build
abbrev pub HasNoBuild : Version → Type 0
HasNoBuild v = v.build ≡ []

-- the lowest version as returned: it has no build, and its text parses back; or no readable version passes
pub record IsLowest (test : Version → Bool) (answer : Option Version) : Type 0 where
  pub lowest : IsLowestPassing test answer
  pub no_build : IfSome answer HasNoBuild
  pub reads_back : IfSome answer ReadsBack

-- no other version without a build whose text parses back, nor none, is the lowest of the test
abbrev pub IsOnlyLowest : (Version → Bool) → Option Version → Type 0
IsOnlyLowest test lowest =
    (other : Option Version) → IsLowestPassing test other → IfSome other HasNoBuild → IfSome other ReadsBack → other ≡ lowest

-- some readable version passes the test
abbrev pub PassesSome : (Version → Bool) → Type 0
PassesSome test = (v : Version) × IsReadable v × (test v ≡ true)

-- true says that some version passes the test, and false that no readable one does
abbrev pub DecidesSome : (Version → Bool) → Bool → Type 0
DecidesSome test true = (v : Version) × (test v ≡ true)
DecidesSome test false = (v : Version) → IsReadable v → test v ≡ false

-- ---- several sets together

-- both sets match the version
abbrev pub sets_mean_with : PreRelease → List VersionRange → List VersionRange → Version → Bool
sets_mean_with flag some others v = set_means_with flag some v && set_means_with flag others v

-- the set matches the version, and so do all the others
abbrev pub all_mean_with : PreRelease → List VersionRange → List VersionRangeSet → Version → Bool
all_mean_with flag own others v = set_means_with flag own v
    && list_all (λ (other : VersionRangeSet). set_means_with flag other.0 v) others

-- the first set matches the version, and the other doesn't
abbrev pub set_means_alone_with : PreRelease → List VersionRange → List VersionRange → Version → Bool
set_means_alone_with flag some others v = set_means_with flag some v && not (set_means_with flag others v)
