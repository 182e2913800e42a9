-- What a question is answered, from what is known of its arguments.
use Rattle.std.proofs.Common.{◌≡◌, ◌∙◌, Ok, Err, Result, refl, sym, ap, subst, inl, inr, ◌⊎◌}
use Rattle.answers.specs.Asking.{Given, IsOutcomeOf, Is, invalid, valid}

abbrev pub as_value : {X P : Type 0} → X → Result X P
as_value x = Ok x

abbrev pub as_fault : {X P : Type 0} → P → Result X P
as_fault fault = Err fault

pub same_value : {X P : Type 0} (x y : X) → as_value {X = X} {P = P} x ≡ as_value y → x ≡ y
same_value x y e = cc e

pub same_fault : {X P : Type 0} (c d : P) → as_fault {X = X} {P = P} c ≡ as_fault d → c ≡ d
same_fault c d e = cc e

pub value_no_fault : {X P : Type 0} (x : X) (c : P) → as_value {X = X} {P = P} x ≡ as_fault c → ⊥
value_no_fault x c e = cc e

pub fault_no_value : {X P : Type 0} (x : X) (c : P) → as_fault {X = X} {P = P} c ≡ as_value x → ⊥
fault_no_value x c e = cc e

pub fault_as_fault : {X P : Type 0} (c d : P) → c ≡ d → as_fault {X = X} {P = P} c ≡ as_fault d
fault_as_fault c d e = ap as_fault e

-- ---- given an argument

module _ {X Y P : Type 0} (memory : P) (Argument : Result X P → Type 0) (Asked : X → Result Y P → Type 0) where
  -- the argument has a value, and there is a result for that
  pub by_value : (x : X) → IsOutcomeOf memory Argument (Ok x) → (outcome : Result Y P)
      → IsOutcomeOf memory (Asked x) outcome → IsOutcomeOf memory (Given Argument Asked) outcome
  by_value x argument outcome h = record { is = is argument.is h.is; only = λ o a. only o a }
    where
      is : (as_value x ≡ as_fault memory) ⊎ Argument (Ok x) → (outcome ≡ Err memory) ⊎ Asked x outcome
          → (outcome ≡ Err memory) ⊎ Given Argument Asked outcome
      is (inl none) k = absurd (value_no_fault x memory none)
      is (inr w) (inl none) = inl none
      is (inr w) (inr a) = inr (valid w a)

      same : (y : X) → (as_value x ≡ as_fault memory) ⊎ (as_value {P = P} x ≡ as_value y) → x ≡ y
      same y (inl none) = absurd (value_no_fault x memory none)
      same y (inr is) = same_value x y is

      never : (fault : P) → (as_value x ≡ as_fault memory) ⊎ (as_value x ≡ as_fault fault) → ⊥
      never fault (inl none) = value_no_fault x memory none
      never fault (inr is) = value_no_fault x fault is

      only : (o : Result Y P) → Given Argument Asked o → (outcome ≡ Err memory) ⊎ (outcome ≡ o)
      only o (valid {x = y} w a) = h.only o (subst (λ (z : X). Asked z o) (sym (same y (argument.only (Ok y) w))) a)
      only o (invalid {fault = fault} w) = absurd (never fault (argument.only (Err fault) w))

  -- the argument is invalid
  pub by_fault : (fault : P) → IsOutcomeOf memory Argument (Err fault)
      → IsOutcomeOf memory (Given Argument Asked) (Err fault)
  by_fault fault argument = record { is = is argument.is; only = λ o a. only o a }
    where
      is : (as_fault {X = X} fault ≡ as_fault memory) ⊎ Argument (Err fault)
          → (as_fault {X = Y} fault ≡ as_fault memory) ⊎ Given Argument Asked (Err fault)
      is (inl none) = inl (fault_as_fault fault memory (same_fault {X = X} fault memory none))
      is (inr w) = inr (invalid w)

      of_none : (x : X) → (as_fault {X = X} fault ≡ as_fault memory) ⊎ (as_fault {X = X} fault ≡ as_value x)
          → as_fault {X = Y} fault ≡ as_fault memory
      of_none x (inl none) = fault_as_fault fault memory (same_fault {X = X} fault memory none)
      of_none x (inr is) = absurd (fault_no_value x fault is)

      of_fault : (other : P) → (as_fault {X = X} fault ≡ as_fault memory) ⊎ (as_fault {X = X} fault ≡ as_fault other)
          → (as_fault {X = Y} fault ≡ as_fault memory) ⊎ (as_fault {X = Y} fault ≡ as_fault other)
      of_fault other (inl none) = inl (fault_as_fault fault memory (same_fault {X = X} fault memory none))
      of_fault other (inr is) = inr (fault_as_fault fault other (same_fault {X = X} fault other is))

      only : (o : Result Y P) → Given Argument Asked o
          → (as_fault {X = Y} fault ≡ as_fault memory) ⊎ (as_fault {X = Y} fault ≡ o)
      only o (valid {x = x} w a) = inl (of_none x (argument.only (Ok x) w))
      only o (invalid {fault = other} w) = of_fault other (argument.only (Err other) w)

-- the value that is asked for
pub answered : {X P : Type 0} (memory : P) (x y : X) → x ≡ y → IsOutcomeOf memory (Is y) (Ok x)
answered memory x y e = record { is = inr (ap as_value e); only = λ o a. inr (ap as_value e ∙ sym a) }

-- out of memory is never a wrong result
pub out_of_memory : {X P : Type 0} (memory : P) (Asked : Result X P → Type 0) → IsOutcomeOf memory Asked (Err memory)
out_of_memory memory Asked = record { is = inl refl; only = λ o a. inl refl }

-- a question with one outcome
pub one_answer : {X P : Type 0} (memory : P) (Asked : Result X P → Type 0)
    → ((o u : Result X P) → Asked o → Asked u → o ≡ u) → (outcome : Result X P) → (outcome ≡ Err memory) ⊎ Asked outcome
    → IsOutcomeOf memory Asked outcome
one_answer {X} {P} memory Asked one outcome h = record { is = h; only = λ o a. only h o a }
  where
    only : (outcome ≡ Err memory) ⊎ Asked outcome → (o : Result X P) → Asked o → (outcome ≡ Err memory) ⊎ (outcome ≡ o)
    only (inl none) o a = inl none
    only (inr b) o a = inr (one outcome o b a)
