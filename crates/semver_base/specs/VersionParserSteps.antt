-- The private steps of the version parser: what each of its private functions returns. No public contract cites them.
use Rattle.std.specs.Prelude.{◌≡◌, ◌≤◌, ◌<◌, ◌^◌, ◌⊎◌, ℕ, List, []}
use Rattle.semver_base.specs.Grammar.{HasNone, IsLongest}
use Rattle.semver_base.specs.Lexical.{IsLooseNumber}
use Rattle.semver_base.specs.VersionGrammar.{AllNumbersFit, IsVersion}
use Rattle.semver_base.specs.declared.failure.Rejection.{Rejection}
use Rattle.semver_base.specs.declared.failure.Rejection.TheVariants.{NumberTooLarge, UnexpectedCharacter}
use Rattle.semver_base.specs.declared.version.Version.{Version}

-- the longest leading number, which fits
pub record IsFittingNumber (text : List ℕ) (n : ℕ) (rest : List ℕ) : Type 0 where
  pub number : IsLongest IsLooseNumber text n rest
  pub fits : n < 2 ^ 64

-- the longest leading number doesn't fit
pub record HasLargeNumber (text : List ℕ) : Type 0 where
  pub n : ℕ
  pub rest : List ℕ
  pub number : IsLongest IsLooseNumber text n rest
  pub large : 2 ^ 64 ≤ n

abbrev pub IsNumberRejection : List ℕ → Rejection → Type 0
IsNumberRejection text rejection =
    ((rejection ≡ NumberTooLarge) × HasLargeNumber text) ⊎ ((rejection ≡ UnexpectedCharacter) × HasNone IsLooseNumber text)

-- the longest prefix that is a version is the whole text, and its numbers fit
pub record IsReadVersion (text : List ℕ) (v : Version) : Type 0 where
  pub longest : IsLongest IsVersion text v []
  pub fits : AllNumbersFit v
