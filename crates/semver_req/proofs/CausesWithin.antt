-- The place of each cause is within its text.
use Rattle.std.proofs.Common.{◌≤◌, ℕ, Bool, List, length, Option, Some, ap, arith, length-append}
use Rattle.std.specs.Str.Pattern.{HasPassingCharAt}
use Rattle.semver_req.specs.Causes.{IsBoundAt, IsCauseAt, IsFirstOutsideTag, IsFirstOverflow, bound_too_large, comparator, empty, hyphen_range, later_overflows, no_tag, this_overflows, too_large, unexpected}
use Rattle.semver_req.specs.declared.common.values.Flavour.{Flavour}
use Rattle.semver_req.specs.declared.error_places.causes.Cause.{Cause}

passing_within : (p : ℕ → Bool) (text : List ℕ) (place end : ℕ) → HasPassingCharAt p text place end → place ≤ length text
passing_within p text place end (c, passes, there) = omega (arith, there.after.0)

outside_within : (text : List ℕ) (place : ℕ) → IsFirstOutsideTag text (Some place) → place ≤ length text
outside_within text place (none, (end, there)) = passing_within _ text place end there

overflow_within : {f : Flavour} {text : List ℕ} {place : ℕ} → IsFirstOverflow f text place → place ≤ length text
overflow_within (this_overflows l y) = omega arith
overflow_within (later_overflows {text} {rest} {next} {place} l n s k) =
    let within = overflow_within k in
    omega (arith, within, ap length l.text_is, length-append l.front rest, ap length s.text_is, length-append s.front next)

bound_within : {f : Flavour} {text : List ℕ} {place : ℕ} → IsBoundAt f text place → place ≤ length text
bound_within (comparator k) = overflow_within k
bound_within (hyphen_range h) = omega arith

pub cause_within : (f : Flavour) (text : List ℕ) (outside : Option ℕ) (cause : Cause) (place : ℕ) → IsFirstOutsideTag text outside → IsCauseAt f text outside cause place → place ≤ length text
cause_within f text outside cause place first (unexpected e z x) = e.boundary.0
cause_within f text outside cause place first (no_tag e is some) = outside_within text place (rw is at first)
cause_within f text outside cause place first empty = omega arith
cause_within f text outside cause place first (too_large e) = e.boundary.0
cause_within f text outside cause place first (bound_too_large h) = bound_within h
