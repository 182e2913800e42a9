-- Questions about the step from one version to another. Source: node-semver's `inc` and `diff`.
use Rattle.std.specs.Prelude.{◌≡◌, ℕ, List, Option, None, Some, Result, Ok, Err}
use Rattle.semver_base.specs.VersionText.{version_text}
use Rattle.semver_base.specs.declared.version.Version.{Version}
use Rattle.semver_req.specs.Parsers.{Failure}
use Rattle.node_semver.specs.Identifiers.{IsPre, IsNoPre, invalid_message}
use Rattle.node_semver.specs.Increment.{incremented, refusal_message}
use Rattle.node_semver.specs.declared.increment.Base.{Base}
use Rattle.node_semver.specs.declared.increment.Refusal.{Refusal}
use Rattle.node_semver.specs.declared.release_type.ReleaseType.{ReleaseType}
use Rattle.answers.specs.Asking.{Fault, Given, Invalid, Is}
use Rattle.answers.specs.Reading.{IsVersionAt, Parsed}
use Rattle.answers.specs.declared.asking.Kind.TheVariants as kind
use Rattle.node_semver.specs.Difference.{difference}

-- ---- the next version

-- what the text of a pre-release's identifiers parses to
abbrev pub IsPreRead : List ℕ → Result (List (List ℕ)) Failure → Type 0
IsPreRead text (Ok identifiers) = IsPre text identifiers
IsPreRead text (Err failure) = (failure ≡ Some (invalid_message, None)) × IsNoPre text

abbrev pub IsPreText : List ℕ → Result (List (List ℕ)) Fault → Type 0
IsPreText text = Parsed kind.Step 0 (IsPreRead text)

-- the text of the version, or why there is none
abbrev pub shown : Result Version Refusal → Result (List ℕ) Fault
shown (Ok v) = Ok (version_text v)
shown (Err why) = Err (Invalid kind.Step 0 (Some (refusal_message why, None)))

-- the outcome is this one
abbrev pub Was : Result (List ℕ) Fault → Result (List ℕ) Fault → Type 0
Was known outcome = outcome ≡ known

-- the next version of this kind, as displayed
abbrev pub Increments : ReleaseType → Base → List ℕ → List ℕ → Result (List ℕ) Fault → Type 0
Increments type base version text =
    Given (IsVersionAt 0 version) (λ v. Given (IsPreText text) (λ identifiers. Was (shown (incremented type identifiers base v))))

-- ---- the step between two versions

-- its kind, or none
abbrev pub Differs : List ℕ → List ℕ → Result (Option ReleaseType) Fault → Type 0
Differs one other = Given (IsVersionAt 0 one) (λ v. Given (IsVersionAt 1 other) (λ w. Is (difference v w)))
