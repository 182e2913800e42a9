-- What every parser of a kind of text returns.
use Rattle.std.specs.Prelude.{Result, Ok, IfOk, IfErr}

-- the value is the text's outcome; an error is out of memory, or reports the fault; and whatever outcome the text has is returned, or
-- out of memory
pub record IsParsed {V E F : Type 0} (Outcome : Result V F → Type 0) (Rejected : E → Type 0)
    (Answer : Result V F → Result V E → Type 0) (result : Result V E) : Type 0 where
  pub read : IfOk result (λ v. Outcome (Ok v))
  pub rejected : IfErr result Rejected
  pub answer : (outcome : Result V F) → Outcome outcome → Answer outcome result
