-- Questions about texts, and their results.
use Rattle.std.specs.Prelude.{◌≡◌, ◌⊎◌, ◌+◌, ℕ, List, [], ◌∷◌, Some, None, Result, Ok, Err}
use Rattle.semver_base.specs.Failure.{message_of}
use Rattle.semver_req.specs.Parsers.{Failure}
use Rattle.answers.specs.declared.asking.Kind.{Kind}
use Rattle.answers.specs.declared.asking.Problem.{Problem}
use Rattle.answers.specs.declared.asking.Problem.TheVariants as problem

-- ---- outcomes

-- why a question has no result: the argument of this kind at this place is invalid, with this failure; or memory ran out
pub data Fault : Type 0 where
  Invalid : Kind → ℕ → Failure → Fault
  OutOfMemory : Fault

-- what is wrong
abbrev pub fault_of : Problem → Fault
fault_of (problem.Invalid argument) = Invalid argument.kind argument.place argument.failure
fault_of problem.OutOfMemory = OutOfMemory

-- what is said of it
abbrev pub fault_message : Fault → List ℕ
fault_message (Invalid kind place failure) = message_of failure
fault_message OutOfMemory = message_of None

-- the outcome of a result whose value means this
abbrev pub outcome_of : {E X : Type 0} → (E → X) → Result E Problem → Result X Fault
outcome_of value (Ok e) = Ok (value e)
outcome_of value (Err p) = Err (fault_of p)

-- ---- questions: each is a relation to its outcomes, the result or the fault of the first invalid argument

-- the outcome is that of the question, which has no other; or out of memory
pub record IsOutcomeOf {X P : Type 0} (memory : P) (Asked : Result X P → Type 0) (outcome : Result X P) : Type 0 where
  pub is : (outcome ≡ Err memory) ⊎ Asked outcome
  pub only : (other : Result X P) → Asked other → (outcome ≡ Err memory) ⊎ (outcome ≡ other)

abbrev pub IsAnswer : {E X : Type 0} → (Result X Fault → Type 0) → (E → X) → Result E Problem → Type 0
IsAnswer Asked value result = IsOutcomeOf OutOfMemory Asked (outcome_of value result)

-- the result is this value
abbrev pub Is : {X P : Type 0} → X → Result X P → Type 0
Is x outcome = outcome ≡ Ok x

-- with the value of an argument, what is asked of it; if the argument is invalid, that is the outcome
pub data Given {X Y P : Type 0} (Argument : Result X P → Type 0) (Asked : X → Result Y P → Type 0) :
    Result Y P → Type 0 where
  valid : {x : X} {outcome : Result Y P} → Argument (Ok x) → Asked x outcome → Given Argument Asked outcome
  invalid : {fault : P} → Argument (Err fault) → Given Argument Asked (Err fault)

-- what is made of the value of an argument; if the argument is invalid, something else
pub data OrElse {X Y : Type 0} (Argument : Result X Fault → Type 0) (made : X → Y) (other : Y) : Result Y Fault → Type 0 where
  of_value : {x : X} → Argument (Ok x) → OrElse Argument made other (Ok (made x))
  of_fault : {fault : Fault} → Argument (Err fault) → OrElse Argument made other (Ok other)

-- the values of texts, whose places count from this one on
abbrev pub Each : {X P : Type 0} → (ℕ → List ℕ → Result X P → Type 0) → ℕ → List (List ℕ) → Result (List X) P → Type 0
Each Argument place [] = Is []
Each Argument place (text ∷ texts) =
    Given (Argument place text) (λ x. Given (Each Argument (place + 1) texts) (λ xs. Is (x ∷ xs)))

-- ---- problems

-- a failure means out of memory, or that the argument is invalid
abbrev pub problem_of : Kind → ℕ → Failure → Problem
problem_of kind place None = problem.OutOfMemory
problem_of kind place (Some texts) =
    problem.Invalid (record { kind = kind; place = place; failure = Some texts })
