-- What the arguments of a question mean.
use Rattle.std.specs.Prelude.{◌≡◌, ℕ, List, None, Result, Ok, Err, map}
use Rattle.std.specs.Borrow.{Bor}
use Rattle.std.specs.Str.{trim}
use Rattle.semver_base.specs.VersionGrammar.{IsVersionOutcome, version_failure}
use Rattle.semver_base.specs.declared.version.Version.{Version}
use Rattle.semver_req.specs.Outcome.{IsOutcome, Rejected}
use Rattle.semver_req.specs.Parsers.{Failure, IsReadFrom, MeansTrees}
use Rattle.semver_req.specs.Requirement.{Requirement}
use Rattle.semver_req.specs.TextRejection.{IsTextRejection}
use Rattle.semver_req.specs.declared.common.values.Flavour.{Flavour}
use Rattle.answers.specs.Asking.{Fault, Invalid}
use Rattle.answers.specs.declared.asking.Kind.{Kind}
use Rattle.answers.specs.declared.asking.Kind.TheVariants as kind

-- the value that the argument of this kind at this place parses to, or the failure with which it is invalid, by the results of its text
pub data Parsed {X : Type 0} (kind : Kind) (place : ℕ) (Read : Result X Failure → Type 0) : Result X Fault → Type 0 where
  parsed : {x : X} → Read (Ok x) → Parsed kind place Read (Ok x)
  not_parsed : {failure : Failure} → (failure ≡ None → ⊥) → Read (Err failure)
      → Parsed kind place Read (Err (Invalid kind place failure))

-- what the text of a range parses to by a grammar: a requirement that means what the comparators of the text mean; else it is rejected,
-- for this reason
abbrev pub IsRangeRead : Flavour → List ℕ → Result Requirement Failure → Type 0
IsRangeRead f text (Ok req) = IsReadFrom f text req × MeansTrees f text req.inner
IsRangeRead f text (Err failure) = IsOutcome f text Rejected × IsTextRejection f text failure

-- what a text parses to, by its outcomes; or a failure that shows its fault
abbrev pub ReadBy : {X F : Type 0} → (Result X F → Type 0) → (F → Failure → Type 0) → Result X Failure → Type 0
ReadBy Outcome Shows (Ok x) = Outcome (Ok x)
ReadBy {F = F} Outcome Shows (Err failure) = (fault : F) × Outcome (Err fault) × Shows fault failure

-- what the text of a version parses to
abbrev pub IsVersionRead : List ℕ → Result Version Failure → Type 0
IsVersionRead text = ReadBy (IsVersionOutcome (trim text)) (λ fault failure. failure ≡ version_failure fault (trim text))

-- the range that the text at this place parses to by a grammar
abbrev pub IsRangeAt : Flavour → ℕ → List ℕ → Result Requirement Fault → Type 0
IsRangeAt f place text = Parsed kind.Range place (IsRangeRead f text)

-- the version that the text at this place parses to
abbrev pub IsVersionAt : ℕ → List ℕ → Result Version Fault → Type 0
IsVersionAt place text = Parsed kind.Version place (IsVersionRead text)

-- the texts that the references point to
abbrev pub texts_of : List (Bor (List ℕ)) → List (List ℕ)
texts_of texts = map (λ text. text.now) texts
