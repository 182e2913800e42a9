-- What the program prints.
use Rattle.std.specs.Prelude.{ℕ, List, Bool, true, false, Option, None, Some, Result, Ok, Err, string_bytes}
use Rattle.semver_base.specs.VersionText.{version_text}
use Rattle.answers.specs.Asking as fault
use Rattle.answers.specs.Asking.{Fault, fault_of}
use Rattle.answers.specs.declared.asking.Answer.{Answer}
use Rattle.answers.specs.declared.asking.Answer.TheVariants as answer
use Rattle.answers.specs.declared.questions.Best.{Best}
use Rattle.npmver.specs.declared.Line.{Line}
use Rattle.npmver.specs.declared.Line.TheVariants as line
use Rattle.npmver.specs.declared.Problem.{Problem}
use Rattle.npmver.specs.declared.Problem.TheVariants as problem

-- a result, that an argument is invalid, the usage line, or that memory ran out
pub data Reported : Type 0 where
  Yes : Reported
  No : Reported
  ATag : List ℕ → Reported
  Text : List ℕ → Reported
  NoMatch : Reported
  Rejected : Reported
  Usage : Reported
  OutOfMemory : Reported

abbrev pub reported_answer : Line → Reported
reported_answer line.Yes = Yes
reported_answer line.No = No
reported_answer (line.Tag tag) = ATag tag
reported_answer (line.Text text) = Text (string_bytes text)
reported_answer line.NoMatch = NoMatch

abbrev pub reported_fault : Fault → Reported
reported_fault (fault.Invalid kind place failure) = Rejected
reported_fault fault.OutOfMemory = OutOfMemory

abbrev pub reported_problem : Problem → Reported
reported_problem problem.Usage = Usage
reported_problem (problem.Unanswered why) = reported_fault (fault_of why)

-- what is printed for this result
abbrev pub printed_for : Result Line Problem → Reported
printed_for (Ok line) = reported_answer line
printed_for (Err problem) = reported_problem problem

-- ---- the lines of results

abbrev pub reported_whether : Bool → Reported
reported_whether true = Yes
reported_whether false = No

abbrev pub reported_match : Answer Bool → Reported
reported_match (answer.Value matches) = reported_whether matches
reported_match (answer.Tag tag) = ATag tag

-- the text of the version
abbrev pub reported_best : Answer (Option Best) → Reported
reported_best (answer.Value (Some best)) = Text (version_text best.version)
reported_best (answer.Value None) = NoMatch
reported_best (answer.Tag tag) = ATag tag

-- ---- statuses

abbrev pub status_of : Reported → ℕ
status_of Yes = 0
status_of No = 1
status_of (ATag tag) = 2
status_of (Text text) = 0
status_of NoMatch = 1
status_of Rejected = 3
status_of Usage = 4
status_of OutOfMemory = 5
