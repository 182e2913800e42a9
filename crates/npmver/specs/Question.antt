-- What the arguments ask, and what the program prints.
use Rattle.std.specs.Prelude.{◌≡◌, ◌⊎◌, ℕ, List, [], ◌∷◌, Result, Ok, Err, codes}
use Rattle.semver_base.specs.declared.range.PreRelease.{PreRelease}
use Rattle.semver_base.specs.declared.range.PreRelease.TheVariants.{Restricted, Admitted}
use Rattle.semver_req.specs.Parsers.{Failure}
use Rattle.semver_req.specs.declared.common.values.Flavour.{Flavour}
use Rattle.semver_req.specs.declared.common.values.Flavour.TheVariants.{Npm, Normal, Specifier}
use Rattle.answers.specs.Asking.{Fault, Invalid}
use Rattle.answers.specs.declared.questions.End.TheVariants.{Highest}
use Rattle.answers.specs.Questions.{BestMatch, Canonical, Matches, Overlaps}
use Rattle.answers.specs.declared.asking.Kind.{Kind}
use Rattle.npmver.specs.Reported.{Reported, OutOfMemory, Rejected, Text, Usage, status_of, reported_answer, reported_best, printed_for, reported_match, reported_whether}
use Rattle.npmver.specs.declared.Line.{Line}
use Rattle.npmver.specs.declared.Problem.{Problem}

-- ---- grammars

-- the grammar of a name
pub data IsParser (name : List ℕ) : Flavour → Type 0 where
  npm : name ≡ codes "npm" → IsParser name Npm
  normal : name ≡ codes "normal" → IsParser name Normal
  strict : name ≡ codes "strict" → IsParser name Specifier

abbrev pub NoParser : List ℕ → Type 0
NoParser name = (f : Flavour) → IsParser name f → ⊥

-- the line for a question's result, or that an argument is invalid
pub data Prints {X : Type 0} (line : X → Reported) (Asked : Result X Fault → Type 0) : Reported → Type 0 where
  prints : {x : X} → Asked (Ok x) → Prints line Asked (line x)
  rejects : {kind : Kind} {place : ℕ} {failure : Failure} → Asked (Err (Invalid kind place failure)) → Prints line Asked Rejected

-- what is asked by the grammar of a name; for an unknown name, the usage
pub data ByParser (name : List ℕ) (Asked : Flavour → Reported → Type 0) : Reported → Type 0 where
  by : {f : Flavour} {reported : Reported} → IsParser name f → Asked f reported → ByParser name Asked reported
  by_none : NoParser name → ByParser name Asked Usage

-- ---- the arguments

-- the command that asks whether a version matches
abbrev pub matching_command : PreRelease → List ℕ
matching_command Restricted = codes "fits"
matching_command Admitted = codes "fits-pre"

-- the forms of questions
pub data IsForm (arguments : List (List ℕ)) : Type 0 where
  form_fits : (pre_release : PreRelease) {parser requirement version : List ℕ}
      → arguments ≡ matching_command pre_release ∷ parser ∷ requirement ∷ version ∷ [] → IsForm arguments
  form_best : {parser requirement version : List ℕ} {versions : List (List ℕ)}
      → arguments ≡ codes "best" ∷ parser ∷ requirement ∷ version ∷ versions → IsForm arguments
  form_normal : {parser requirement : List ℕ} → arguments ≡ codes "normal" ∷ parser ∷ requirement ∷ [] → IsForm arguments
  form_meet : {one other : List ℕ} → arguments ≡ codes "meet" ∷ one ∷ other ∷ [] → IsForm arguments

-- what the arguments ask
pub data IsAsked (arguments : List (List ℕ)) : Reported → Type 0 where
  asks_fits : (pre_release : PreRelease) {parser requirement version : List ℕ} {reported : Reported}
      → arguments ≡ matching_command pre_release ∷ parser ∷ requirement ∷ version ∷ []
      → ByParser parser (λ f. Prints reported_match (Matches pre_release f requirement version)) reported → IsAsked arguments reported
  asks_best : {parser requirement version : List ℕ} {versions : List (List ℕ)} {reported : Reported}
      → arguments ≡ codes "best" ∷ parser ∷ requirement ∷ version ∷ versions
      → ByParser parser (λ f. Prints reported_best (BestMatch Highest Restricted f requirement (version ∷ versions))) reported → IsAsked arguments reported
  asks_normal : {parser requirement : List ℕ} {reported : Reported} → arguments ≡ codes "normal" ∷ parser ∷ requirement ∷ []
      → ByParser parser (λ f. Prints Text (Canonical f requirement)) reported → IsAsked arguments reported
  asks_meet : {one other : List ℕ} {reported : Reported} → arguments ≡ codes "meet" ∷ one ∷ other ∷ [] → Prints reported_whether (Overlaps Npm one other) reported
      → IsAsked arguments reported
  asks_nothing : (IsForm arguments → ⊥) → IsAsked arguments Usage

-- the result prints what is asked, which is nothing else, or is out of memory; the usage is printed whatever memory is left
pub record IsPrinted (Asked : Reported → Type 0) (result : Result Line Problem) : Type 0 where
  pub reports : (printed_for result ≡ OutOfMemory) ⊎ Asked (printed_for result)
  pub every : (reported : Reported) → Asked reported → (printed_for result ≡ OutOfMemory) ⊎ (printed_for result ≡ reported)
  pub usage : Asked Usage → printed_for result ≡ Usage

-- the exit status for these arguments: that of what is printed, or of out of memory, or 6 if a result can't be written
pub data IsStatus (arguments : List (List ℕ)) : ℕ → Type 0 where
  of_reported : (reported : Reported) → IsAsked arguments reported → IsStatus arguments (status_of reported)
  of_out_of_memory : IsStatus arguments (status_of OutOfMemory)
  of_unwritten : (given : Line) → IsAsked arguments (reported_answer given) → IsStatus arguments 6
