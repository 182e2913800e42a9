-- A parser's result is what the argument means, if the text has one result.
use Rattle.std.proofs.Common.{◌≡◌, ◌∙◌, ℕ, Ok, Err, Result, Some, None, refl, ap, inl, inr, ◌⊎◌}
use Rattle.semver_req.specs.Parsers.{Failure}
use Rattle.answers.specs.Asking.{Fault, Invalid, IsAnswer, OutOfMemory, fault_of, problem_of}
use Rattle.answers.specs.AskingLaws.{as_fault, as_value}
use Rattle.answers.specs.Reading.{Parsed, ReadBy, not_parsed, parsed}
use Rattle.answers.specs.declared.asking.Kind.{Kind}

some_failure : (failure : Failure) → (failure ≡ None) ⊎ (failure ≡ None → ⊥)
some_failure None = inl refl
some_failure (Some texts) = inr (λ none. cc none)

module _ {X : Type 0} (k : Kind) (place : ℕ) (Read : Result X Failure → Type 0) where
  pub was_parsed : (x : X) → Read (Ok x) → ((y : X) → Read (Ok y) → x ≡ y)
      → ((failure : Failure) → (failure ≡ None → ⊥) → Read (Err failure) → ⊥) → IsAnswer (Parsed k place Read) (λ (y : X). y) (Ok x)
  was_parsed x h same never = record { is = inr (parsed h); only = λ o a. inr (only o a) }
    where
      only : (o : Result X Fault) → Parsed k place Read o → as_value x ≡ o
      only o (parsed {x = y} p) = ap as_value (same y p)
      only o (not_parsed {failure = failure} some p) = absurd (never failure some p)

  pub was_not_parsed : (failure : Failure) → (failure ≡ None) ⊎ Read (Err failure) → ((y : X) → Read (Ok y) → failure ≡ None)
      → ((other : Failure) → Read (Err other) → (failure ≡ None → ⊥) → (other ≡ None → ⊥) → failure ≡ other)
      → IsAnswer (Parsed k place Read) (λ (y : X). y) (Err (problem_of k place failure))
  was_not_parsed failure h none same = record { is = is failure h; only = λ o a. only o a (some_failure failure) }
    where
      given : Failure → Result X Fault
      given e = as_fault (fault_of (problem_of k place e))

      is : (e : Failure) → (e ≡ None) ⊎ Read (Err e) → (given e ≡ as_fault OutOfMemory) ⊎ Parsed k place Read (given e)
      is None r = inl refl
      is (Some texts) (inl e) = absurd (cc e)
      is (Some texts) (inr r) = inr (not_parsed (λ none. cc none) r)

      given_some : (e : Failure) → (e ≡ None → ⊥) → given e ≡ as_fault (Invalid k place e)
      given_some None some = absurd (some refl)
      given_some (Some texts) some = refl

      only : (o : Result X Fault) → Parsed k place Read o → (failure ≡ None) ⊎ (failure ≡ None → ⊥)
          → (given failure ≡ as_fault OutOfMemory) ⊎ (given failure ≡ o)
      only o (parsed {x = y} p) decided = inl (ap given (none y p))
      only o (not_parsed more p) (inl e) = inl (ap given e)
      only o (not_parsed {failure = other} more p) (inr some) =
          inr (given_some failure some ∙ ap (λ (e : Failure). as_fault (Invalid k place e)) (same other p some more))

-- the same for a text that is read by its outcomes, where M says that memory ran out, and Reported that a fault is reported
module _ {X F : Type 0} (k : Kind) (place : ℕ) (Outcome : Result X F → Type 0) (Shows : F → Failure → Type 0) where
  pub value_read : (x : X) → Outcome (Ok x) → ((y : X) → Outcome (Ok y) → x ≡ y) → ((fault : F) → Outcome (Err fault) → ⊥)
      → IsAnswer (Parsed k place (ReadBy Outcome Shows)) (λ (y : X). y) (Ok x)
  value_read x h same never = was_parsed k place (ReadBy Outcome Shows) x h same (λ failure some r. never r.0 r.1)

  module _ {M : Type 0} {Reported : F → Type 0} (failure : Failure) (none : M → failure ≡ None)
      (shows : (fault : F) → Reported fault → (failure ≡ None) ⊎ Shows fault failure)
      (one : (fault : F) (p q : Failure) → Shows fault p → Shows fault q → p ≡ q) where
    shown : (fault : F) → M ⊎ Reported fault → (failure ≡ None) ⊎ Shows fault failure
    shown fault (inl m) = inl (none m)
    shown fault (inr r) = shows fault r

    kept : (fault : F) → Outcome (Err fault) → (failure ≡ None) ⊎ Shows fault failure
        → (failure ≡ None) ⊎ ReadBy Outcome Shows (Err failure)
    kept fault o (inl e) = inl e
    kept fault o (inr s) = inr (fault, o, s)

    read : M ⊎ ((fault : F) × Outcome (Err fault) × Reported fault) → (failure ≡ None) ⊎ ReadBy Outcome Shows (Err failure)
    read (inl m) = inl (none m)
    read (inr r) = kept r.0 r.1 (shows r.0 r.2)

    same : (other : Failure) (fault : F) → Shows fault other → (failure ≡ None → ⊥) → (failure ≡ None) ⊎ Shows fault failure
        → failure ≡ other
    same other fault r some (inl e) = absurd (some e)
    same other fault r some (inr s) = one fault failure other s r

    pub fault_read : M ⊎ ((fault : F) × Outcome (Err fault) × Reported fault) → ((x : X) → Outcome (Ok x) → M)
        → ((fault : F) → Outcome (Err fault) → M ⊎ Reported fault)
        → IsAnswer (Parsed k place (ReadBy Outcome Shows)) (λ (y : X). y) (Err (problem_of k place failure))
    fault_read rejected values faults = was_not_parsed k place (ReadBy Outcome Shows) failure (read rejected) (λ x o. none (values x o))
        (λ other r some more. same other r.0 r.2 some (shown r.0 (faults r.0 r.1)))
