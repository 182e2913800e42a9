-- What is true of the versions that come next.
use Rattle.std.specs.Prelude.{◌≡◌, ◌==◌, ◌&&◌, ◌||◌, ◌∷◌, ℕ, Bool, true, List, [], Result, Ok, Err}
use Rattle.std.specs.Ordering.{is_le}
use Rattle.std.specs.declared.cmp.Ordering.TheVariants.{Greater}
use Rattle.semver_base.specs.LowestVersion.{IsReadable}
use Rattle.semver_base.specs.Meaning.{is_release}
use Rattle.semver_base.specs.Precedence.{precedence_cmp}
use Rattle.semver_base.specs.VersionGrammar.{AllNumbersFit}
use Rattle.semver_base.specs.VersionText.{AreIdentifiers, ReadsBack}
use Rattle.semver_base.specs.declared.version.Version.{Version}
use Rattle.node_semver.specs.Increment.{incremented, is_counted}
use Rattle.node_semver.specs.declared.increment.Base.{Base}
use Rattle.node_semver.specs.declared.increment.Refusal.{Refusal}
use Rattle.node_semver.specs.declared.increment.Refusal.TheVariants as refusal
use Rattle.node_semver.specs.declared.release_type.ReleaseType.{ReleaseType}
use Rattle.node_semver.specs.declared.release_type.ReleaseType.TheVariants as type

-- ---- above

-- a pre-release keeps its identifiers: none are given, or it counts behind those that are
abbrev pub keeps_pre : List (List ℕ) → Version → Bool
keeps_pre [] v = true
keeps_pre (identifier ∷ others) v = is_release v || is_counted (identifier ∷ others) v.pre

abbrev pub keeps : ReleaseType → List (List ℕ) → Version → Bool
keeps type.PreRelease identifiers v = keeps_pre identifiers v
keeps type.Major identifiers v = true
keeps type.Minor identifiers v = true
keeps type.Patch identifiers v = true
keeps type.PreMajor identifiers v = true
keeps type.PreMinor identifiers v = true
keeps type.PrePatch identifiers v = true
keeps type.Release identifiers v = true

-- the next version is above the version, unless a pre-release gets other identifiers
abbrev pub IncrementsAreAbove : Type 0
IncrementsAreAbove = (kind : ReleaseType) (identifiers : List (List ℕ)) (b : Base) (v w : Version)
    → keeps kind identifiers v ≡ true → incremented kind identifiers b v ≡ Ok w → precedence_cmp w v ≡ Greater

-- ---- the lowest

-- the releases that end in `.0.0`, and in `.0`
abbrev pub is_major_release : Version → Bool
is_major_release v = is_release v && ((v.minor == 0) && (v.patch == 0))

abbrev pub is_minor_release : Version → Bool
is_minor_release v = is_release v && (v.patch == 0)

-- the version passes the test and is above the other, and none that does is lower
pub record IsLowestAbove (test : Version → Bool) (v w : Version) : Type 0 where
  pub passes : test w ≡ true
  pub above : precedence_cmp w v ≡ Greater
  pub lowest : (u : Version) → test u ≡ true → precedence_cmp u v ≡ Greater → is_le (precedence_cmp w u) ≡ true

-- the outcome is the lowest such version; or a number is too large, and none that is near and whose numbers fit is above
abbrev pub IsNextOf : (Version → Bool) → (Version → Bool) → Version → Result Version Refusal → Type 0
IsNextOf test near v (Ok w) = IsLowestAbove test v w
IsNextOf test near v (Err why) = (why ≡ refusal.NumberTooLarge)
    × ((u : Version) → AllNumbersFit u → test u ≡ true → near u ≡ true → precedence_cmp u v ≡ Greater → ⊥)

abbrev pub NextMajorsAreLowest : Type 0
NextMajorsAreLowest = (identifiers : List (List ℕ)) (b : Base) (v : Version)
    → IsNextOf is_major_release (λ u. true) v (incremented type.Major identifiers b v)

abbrev pub NextMinorsAreLowest : Type 0
NextMinorsAreLowest = (identifiers : List (List ℕ)) (b : Base) (v : Version)
    → IsNextOf is_minor_release (λ u. u.major == v.major) v (incremented type.Minor identifiers b v)

abbrev pub NextPatchesAreLowest : Type 0
NextPatchesAreLowest = (identifiers : List (List ℕ)) (b : Base) (v : Version)
    → IsNextOf is_release (λ u. (u.major == v.major) && (u.minor == v.minor)) v (incremented type.Patch identifiers b v)

-- ---- texts

-- the text of the next version parses to it
abbrev pub IncrementsReadBack : Type 0
IncrementsReadBack = (kind : ReleaseType) (identifiers : List (List ℕ)) (b : Base) (v w : Version) → IsReadable v
    → AreIdentifiers identifiers → incremented kind identifiers b v ≡ Ok w → ReadsBack w
