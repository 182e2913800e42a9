-- What is made of the value of an argument, or of none; and what is asked of the version of a text.
use Rattle.std.proofs.Common.{◌≡◌, ℕ, List, Bool, Option, Some, None, Ok, Err, Result, refl, ap, inl, inr, ◌⊎◌}
use Rattle.semver_base.specs.declared.range.PreRelease.{PreRelease}
use Rattle.semver_base.specs.declared.version.Version.{Version}
use Rattle.semver_req.specs.Parsers.{Failure}
use Rattle.semver_req.specs.Requirement.{inner_means_with, tag_of}
use Rattle.semver_req.specs.declared.range_set_or_tag.RangeSetOrTag.{RangeSetOrTag}
use Rattle.semver_req.specs.declared.range_set_or_tag.RangeSetOrTag.TheVariants as inner
use Rattle.answers.specs.AskingLaws.{by_value, as_value, as_fault, same_value, same_fault, value_no_fault, fault_no_value, answered as found}
use Rattle.answers.specs.Asking.{Each, Fault, Invalid, Is, IsOutcomeOf, OrElse, OutOfMemory, of_fault, of_value}
use Rattle.answers.specs.Filtering.{FilterOf, IsLine, LineMatch, line_answer}
use Rattle.answers.specs.Reading.{IsVersionAt}
use Rattle.answers.specs.declared.asking.Answer.TheVariants.{Value}
use Rattle.answers.specs.declared.asking.Kind.{Kind}

pub invalid_proper : (kind : Kind) (place : ℕ) (failure : Failure) → Invalid kind place failure ≡ OutOfMemory → ⊥
invalid_proper kind place failure e = cc e

abbrev answered : {X : Type 0} → X → Result X Fault
answered answer = Ok answer

module _ {X Y : Type 0} (Argument : Result X Fault → Type 0) (made : X → Y) (other : Y) where
  pub made_of_value : (x : X) → IsOutcomeOf OutOfMemory Argument (Ok x) → IsOutcomeOf OutOfMemory (OrElse Argument made other) (Ok (made x))
  made_of_value x h = record { is = inr (is h.is); only = λ o a. inr (only o a) }
    where
      is : (as_value x ≡ as_fault OutOfMemory) ⊎ Argument (Ok x) → OrElse Argument made other (Ok (made x))
      is (inl none) = absurd (value_no_fault x OutOfMemory none)
      is (inr k) = of_value k

      same : (y : X) → (as_value x ≡ as_fault OutOfMemory) ⊎ (as_value {P = Fault} x ≡ as_value y) → x ≡ y
      same y (inl none) = absurd (value_no_fault x OutOfMemory none)
      same y (inr e) = same_value {P = Fault} x y e

      never : (fault : Fault) → (as_value x ≡ as_fault OutOfMemory) ⊎ (as_value x ≡ as_fault fault) → ⊥
      never fault (inl none) = value_no_fault x OutOfMemory none
      never fault (inr e) = value_no_fault x fault e

      only : (o : Result Y Fault) → OrElse Argument made other o → answered (made x) ≡ o
      only o (of_value {x = y} k) = ap (λ (z : X). answered (made z)) (same y (h.only (Ok y) k))
      only o (of_fault {fault = fault} k) = absurd (never fault (h.only (Err fault) k))

  pub other_of_fault : (fault : Fault) → IsOutcomeOf OutOfMemory Argument (Err fault) → (fault ≡ OutOfMemory → ⊥) → IsOutcomeOf OutOfMemory (OrElse Argument made other) (Ok other)
  other_of_fault fault h proper = record { is = inr (is h.is); only = λ o a. inr (only o a) }
    where
      is : (as_fault {X = X} fault ≡ as_fault OutOfMemory) ⊎ Argument (Err fault) → OrElse Argument made other (Ok other)
      is (inl none) = absurd (proper (same_fault {X = X} fault OutOfMemory none))
      is (inr k) = of_fault k

      never : (x : X) → (as_fault {X = X} fault ≡ as_fault OutOfMemory) ⊎ (as_fault {X = X} fault ≡ as_value x) → ⊥
      never x (inl none) = proper (same_fault {X = X} fault OutOfMemory none)
      never x (inr e) = fault_no_value x fault e

      only : (o : Result Y Fault) → OrElse Argument made other o → answered other ≡ o
      only o (of_value {x = x} k) = absurd (never x (h.only (Ok x) k))
      only o (of_fault k) = refl

-- whether the version of a text matches, from its line
module _ (test : Version → Bool) (place : ℕ) (text : List ℕ) where
  pub match_of_line : (line : Option Version) → IsOutcomeOf OutOfMemory (IsLine (λ v. v) place text) (Ok line) → IsOutcomeOf OutOfMemory (LineMatch test place text) (Ok (line_answer test line))
  match_of_line line h = record { is = inr (is line h.is); only = λ o a. inr (only o a) }
    where
      is : (l : Option Version) → (as_value l ≡ as_fault OutOfMemory) ⊎ IsLine (λ v. v) place text (Ok l) → LineMatch test place text (Ok (line_answer test l))
      is l (inl none) = absurd (value_no_fault l OutOfMemory none)
      is _ (inr (of_value k)) = of_value k
      is _ (inr (of_fault k)) = of_fault k

      same : (other : Option Version) → (as_value line ≡ as_fault OutOfMemory) ⊎ (as_value {P = Fault} line ≡ as_value other) → line ≡ other
      same other (inl none) = absurd (value_no_fault line OutOfMemory none)
      same other (inr e) = same_value {P = Fault} line other e

      only : (o : Result (Option Bool) Fault) → LineMatch test place text o → answered (line_answer test line) ≡ o
      only o (of_value {x = v} k) = ap (λ (l : Option Version). answered (line_answer test l)) (same (Some v) (h.only (Ok (Some v)) (of_value k)))
      only o (of_fault k) = ap (λ (l : Option Version). answered (line_answer test l)) (same None (h.only (Ok None) (of_fault k)))

-- the matches of all lines are the answer for a range that isn't a tag
pub filter_answer : (flag : PreRelease) (read : RangeSetOrTag) (texts : List (List ℕ)) → tag_of read ≡ None → (answers : List (Option Bool))
    → IsOutcomeOf OutOfMemory (Each (LineMatch (inner_means_with flag read)) 0 texts) (Ok answers) → IsOutcomeOf OutOfMemory (FilterOf flag read texts) (Ok (Value answers))
filter_answer flag (inner.RangeSet set) texts none answers h =
    by_value OutOfMemory (Each (LineMatch (inner_means_with flag (inner.RangeSet set))) 0 texts) (λ (all : List (Option Bool)). Is (Value all)) answers h (Ok (Value answers)) (found OutOfMemory (Value answers) (Value answers) refl)
filter_answer flag (inner.Tag tag) texts none answers h = absurd (cc none)
