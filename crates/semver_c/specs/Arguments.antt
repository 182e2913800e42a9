-- The arguments of a call, in which a grammar is a number and a text is bytes, and why a call has no result.
use Rattle.std.specs.Prelude.{◌≡◌, ◌⊎◌, ◌==◌, ◌∷◌, ℕ, List, [], Option, Some, None, Result, Ok, Err, codes, if◌then◌else◌, IsUtf8}
use Rattle.std.specs.List.{slice_get}
use Rattle.semver_base.specs.declared.range.PreRelease.{PreRelease}
use Rattle.semver_base.specs.declared.range.PreRelease.TheVariants.{Restricted, Admitted}
use Rattle.semver_req.specs.declared.common.values.Flavour.{Flavour}
use Rattle.semver_req.specs.declared.common.values.Flavour.TheVariants.{Npm, Normal, Specifier}
use Rattle.node_semver.specs.declared.coerce.Direction.{Direction}
use Rattle.node_semver.specs.declared.coerce.Direction.TheVariants as direction
use Rattle.node_semver.specs.declared.coerce.Parts.{Parts}
use Rattle.node_semver.specs.declared.coerce.Parts.TheVariants.{Numbers, All}
use Rattle.node_semver.specs.declared.increment.Base.{Base}
use Rattle.node_semver.specs.declared.increment.Base.TheVariants as base
use Rattle.node_semver.specs.declared.release_type.ReleaseType.{ReleaseType}
use Rattle.node_semver.specs.declared.release_type.ReleaseType.TheVariants as type
use Rattle.answers.specs.Asking.{Fault, Invalid, IsOutcomeOf, OutOfMemory, fault_message, fault_of}
use Rattle.answers.specs.declared.asking.Problem.{Problem as Unanswered_}
use Rattle.semver_c.specs.declared.arguments.Problem.{Problem}
use Rattle.semver_c.specs.declared.arguments.Problem.TheVariants as problem

-- ---- outcomes

-- why a call has no result: the question about its texts has none, no grammar has the number, bytes aren't valid UTF-8, or
-- a handle holds no value of the kind that is asked about
pub data CallFault : Type 0 where
  Unanswered : Fault → CallFault
  NoGrammar : CallFault
  NotUtf8 : CallFault
  NoValue : CallFault

abbrev pub memory : CallFault
memory = Unanswered OutOfMemory

-- why a call has no result, from its problem
abbrev pub call_fault : Problem → CallFault
call_fault (problem.Unanswered why) = Unanswered (fault_of why)
call_fault problem.NoGrammar = NoGrammar
call_fault problem.NotUtf8 = NotUtf8
call_fault problem.NoValue = NoValue

-- the result of a question about texts as that of a call
abbrev pub asked_result : {E : Type 0} → Result E Unanswered_ → Result E Problem
asked_result (Ok e) = Ok e
asked_result (Err why) = Err (problem.Unanswered why)

-- the outcome of a result whose value means this
abbrev pub call_outcome : {E X : Type 0} → (E → X) → Result E Problem → Result X CallFault
call_outcome value (Ok e) = Ok (value e)
call_outcome value (Err p) = Err (call_fault p)

-- the result is the outcome of the question, which has no other, or out of memory
abbrev pub IsCallAnswer : {E X : Type 0} → (Result X CallFault → Type 0) → (E → X) → Result E Problem → Type 0
IsCallAnswer Asked value result = IsOutcomeOf memory Asked (call_outcome value result)

-- the outcome of an argument, which has no other
abbrev pub IsOnly : {X : Type 0} → (Result X CallFault → Type 0) → Result X CallFault → Type 0
IsOnly {X = X} Argument outcome = Argument outcome × ((other : Result X CallFault) → Argument other → outcome ≡ other)

abbrev pub IsArgument : {E X : Type 0} → (Result X CallFault → Type 0) → (E → X) → Result E Problem → Type 0
IsArgument Argument value result = IsOnly Argument (call_outcome value result)

-- the result has this outcome, or it is out of memory
abbrev pub IsCallOutcome : {E X : Type 0} → Result X CallFault → (E → X) → Result E Problem → Type 0
IsCallOutcome outcome value result = (call_outcome value result ≡ Err memory) ⊎ (call_outcome value result ≡ outcome)

-- the outcome of a question about texts as that of a call
abbrev pub called_outcome : {X : Type 0} → Result X Fault → Result X CallFault
called_outcome (Ok x) = Ok x
called_outcome (Err fault) = Err (Unanswered fault)

pub data Called {X : Type 0} (Asked : Result X Fault → Type 0) : Result X CallFault → Type 0 where
  called : {outcome : Result X Fault} → Asked outcome → Called Asked (called_outcome outcome)

-- ---- problems

-- what is said of it: of an invalid argument, what is wrong with it
abbrev pub call_message : CallFault → List ℕ
call_message (Unanswered fault) = fault_message fault
call_message NoGrammar = codes "No grammar has this number."
call_message NotUtf8 = codes "The string isn't valid UTF-8."
call_message NoValue = codes "The handle holds no value of this kind."

-- the place of the argument that is invalid, among those of its kind; without one, the other place
abbrev pub fault_place : CallFault → ℕ → ℕ
fault_place (Unanswered (Invalid kind place failure)) other = place
fault_place (Unanswered OutOfMemory) other = other
fault_place NoGrammar other = other
fault_place NotUtf8 other = other
fault_place NoValue other = other

-- the place of a result's invalid argument; without one, the other place
abbrev pub problem_place : {E : Type 0} → Result E Problem → ℕ → ℕ
problem_place (Ok e) other = other
problem_place (Err p) other = fault_place (call_fault p) other

-- ---- arguments

-- what there is, or that there is none
abbrev pub or_none : {X : Type 0} → Option X → Result X CallFault
or_none (Some x) = Ok x
or_none None = Err NoGrammar

-- what has the number in a list, counted from 0
abbrev pub IsNumbered : {X : Type 0} → List X → ℕ → Result X CallFault → Type 0
IsNumbered all number outcome = outcome ≡ or_none (slice_get all number)

-- the grammars: npm's, the normalized and the strict one
abbrev pub grammars : List Flavour
grammars = Npm ∷ Normal ∷ Specifier ∷ []

-- the kinds of releases
abbrev pub release_types : List ReleaseType
release_types = type.Major ∷ type.Minor ∷ type.Patch ∷ type.PreMajor ∷ type.PreMinor ∷ type.PrePatch ∷ type.PreRelease ∷ type.Release ∷ []

-- the numbers behind the identifiers of a first pre-release
abbrev pub bases : List Base
bases = base.Zero ∷ base.One ∷ base.Nothing ∷ []

-- the ends from which a text is searched
abbrev pub directions : List Direction
directions = direction.LeftToRight ∷ direction.RightToLeft ∷ []

-- bytes that are a text
pub data IsUtf8Text (bytes : List ℕ) : Result (List ℕ) CallFault → Type 0 where
  text : IsUtf8 bytes → IsUtf8Text bytes (Ok bytes)
  no_text : (IsUtf8 bytes → ⊥) → IsUtf8Text bytes (Err NotUtf8)

-- pre-releases are restricted by npm's rule at 0, and admitted at any other number
abbrev pub pre_release_by : ℕ → PreRelease
pre_release_by number = if number == 0 then Restricted else Admitted

-- the numbers alone are taken at 0, and all parts of a version at any other number
abbrev pub parts_by : ℕ → Parts
parts_by number = if number == 0 then Numbers else All
