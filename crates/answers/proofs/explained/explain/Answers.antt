use Rattle.std.proofs.Common.{◌≡◌, Err, List, Ok, Result, inl, inr, rules, string_bytes, ℕ, ◌⊎◌}
use Rattle.std.proofs.lemmas.Result.{err_from_is_err_and}
use Rattle.answers.specs.Asking.{Fault, OutOfMemory, fault_of}
use Rattle.answers.specs.Reading.{IsRangeAt, parsed}
use Rattle.answers.specs.AskingLaws.{as_fault, same_fault}
use Rattle.semver_req.specs.Parsers.{IsReading}
use Rattle.semver_req.specs.Requirement.{Requirement, inner_text}
use Rattle.semver_req.specs.declared.common.values.Flavour.{Flavour}
use Rattle.semver_req.specs.declared.range_set_or_tag.RangeSetOrTag.TheVariants.{RangeSet}
use Rattle.answers.proofs.explained.explain.Goals as goal

invalid : {X : Type 0} (Asked : Result X Fault → Type 0) (fault : Fault) → (as_fault {X = X} fault ≡ as_fault OutOfMemory) ⊎ Asked (Err fault) → (fault ≡ OutOfMemory) ⊎ Asked (Err fault)
invalid {X} Asked fault (inl none) = inl (same_fault {X = X} fault OutOfMemory none)
invalid Asked fault (inr is) = inr is

reading_of : {f : Flavour} {text : List ℕ} {req : Requirement} → (Ok req ≡ Err OutOfMemory) ⊎ IsRangeAt f 0 text (Ok req) → IsReading f text req.inner
reading_of (inl wrong) = cc wrong
reading_of (inr (parsed p)) = p.0.reading

pub returns-in_err-range-clause-invalid : goal.returns-in_err-range-clause-invalid
returns-in_err-range-clause-invalid c =
    let p = err_from_is_err_and c.from_residual.result c.from_residual.ensures.1 in
    rw (p.1, p.2) (invalid (IsRangeAt c.args.flavour 0 c.args.text.now) (fault_of c.in_err-range.field-0.0) c.in_err-range.ensures.answer.is)

pub returns-clause-answer : goal.returns-clause-answer
returns-clause-answer c =
    let set = c.in_default.field-0 in
    let is : c.in_ok-range.range.inner ≡ RangeSet set = search rules in
    let reading : IsReading c.args.flavour c.args.text.now (RangeSet set) = rw is at (reading_of {f = c.args.flavour} {text = c.args.text.now} {req = c.in_ok-range.range} c.in_ok-range.ensures.answer.is) in
    let text : string_bytes c.in_ok-normal.normal ≡ inner_text (RangeSet set) = search rules in
    (set, reading, c.in_ok-pieces.ensures, text)
