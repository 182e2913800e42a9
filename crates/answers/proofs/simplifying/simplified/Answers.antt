use Rattle.std.proofs.Common.{◌≡◌, None, Ok, false, rules, string_bytes}
use Rattle.std.proofs.lemmas.Result.{err_from_is_err_and}
use Rattle.semver_req.specs.Requirement.{Requirement, tag_of}
use Rattle.answers.specs.Asking.{IsOutcomeOf, OrElse, OutOfMemory}
use Rattle.answers.specs.Reading.{IsRangeAt}
use Rattle.answers.specs.AskingLaws.{by_value, by_fault, out_of_memory}
use Rattle.answers.specs.Simplifying.{IsAscending, SimplifiedOf, made_text, match_same, shorter}
use Rattle.answers.specs.declared.asking.Answer.TheVariants.{Tag, Value}
use Rattle.semver_req.specs.declared.range_set_or_tag.RangeSetOrTag.TheVariants as inner
use Rattle.answers.proofs.Simplified.{never_invalid, simplified_answer}
use Rattle.answers.proofs.simplifying.simplified.Goals as goal
use Rattle.answers.proofs.simplifying.simplified.Goals.{else-is_same-via-then-is_same+else-len-range_text, else-is_same-via-else-is_same}

pub returns-in_err-range : goal.returns-in_err-range
returns-in_err-range c =
    let p = err_from_is_err_and c.from_residual.result c.from_residual.ensures.1 in
    rw (p.1, p.2) (by_fault _ _ _ _ c.in_err-range.ensures.answer)

pub returns-in_err-versions : goal.returns-in_err-versions
returns-in_err-versions c =
    let p = err_from_is_err_and c.from_residual-in_err-versions.result c.from_residual-in_err-versions.ensures.1 in
    rw (p.1, p.2) (by_value _ _ _ _ c.in_ok-range.ensures.answer _ (by_fault _ _ _ _ c.in_err-versions.ensures))

pub returns-in-Tag : goal.returns-in-Tag
returns-in-Tag c =
    let tag : IsOutcomeOf OutOfMemory (SimplifiedOf c.args.pre_release c.args.flavour c.args.range_text.now c.in_ok-range.range.inner c.in_ok-versions.versions.items) (Ok (Tag c.in_ok-from_str-in-Tag.field-0)) = search rules in
    by_value _ _ _ _ c.in_ok-range.ensures.answer _ (by_value _ _ _ _ c.in_ok-versions.ensures _ tag)

pub returns-in_err-is_same : goal.returns-in_err-is_same
returns-in_err-is_same c =
    let p = err_from_is_err_and c.from_residual-in_err-is_same.result c.from_residual-in_err-is_same.ensures.1 in
    let none = never_invalid _ _ _ _ c.in_err-is_same.ensures in
    rw (p.1, p.2, none) (out_of_memory OutOfMemory _)

pub returns-then-len-range_text : goal.returns-then-len-range_text
returns-then-len-range_text c =
    let flag = c.args.pre_release in
    let f = c.args.flavour in
    let read = c.in_ok-range.range.inner in
    let items = c.in_ok-versions.versions.items in
    let sorted = c.sort.new.self.items in
    let made = made_text flag read sorted in
    let ascending : IsAscending items sorted = record { same = c.in_ok-sort.ensures.permutation; ascends = search rules } in
    let none : tag_of read ≡ None = search rules in
    let is_made : string_bytes c.in_ok-made.made ≡ made = search rules in
    let text : c.as_str-2.result.now ≡ made = search rules in
    let same : IsOutcomeOf OutOfMemory (OrElse (IsRangeAt f 0 made) (λ (req : Requirement). match_same flag read sorted req.inner) false) (Ok c.in_ok-is_same.is_same) = rw (text, c.as_slice-sorted.ensures.value) at c.in_ok-is_same.ensures in
    let shorter : string_bytes c.in_ok-made.made ≡ shorter c.in_ok-is_same.is_same made c.args.range_text.now = search rules in
    by_value _ _ _ _ c.in_ok-range.ensures.answer _ (by_value _ _ _ _ c.in_ok-versions.ensures _ (simplified_answer flag f c.args.range_text.now items sorted c.in_ok-is_same.is_same c.ascending_arrangements_tie.ensures read none ascending same _ shorter))

pub returns : goal.returns
returns c =
    let flag = c.args.pre_release in
    let f = c.args.flavour in
    let read = c.in_ok-range.range.inner in
    let items = c.in_ok-versions.versions.items in
    let sorted = c.sort.new.self.items in
    let made = made_text flag read sorted in
    let ascending : IsAscending items sorted = record { same = c.in_ok-sort.ensures.permutation; ascends = search rules } in
    let none : tag_of read ≡ None = search rules in
    let text : c.as_str-2.result.now ≡ made = search rules in
    let same : IsOutcomeOf OutOfMemory (OrElse (IsRangeAt f 0 made) (λ (req : Requirement). match_same flag read sorted req.inner) false) (Ok c.in_ok-is_same.is_same) = rw (text, c.as_slice-sorted.ensures.value) at c.in_ok-is_same.ensures in
    let shorter : string_bytes c.in_ok-from_str.field-0 ≡ shorter c.in_ok-is_same.is_same made c.args.range_text.now = elim c.else-is_same.branch [
      | else-is_same-via-then-is_same+else-len-range_text w ↦ search rules
      | else-is_same-via-else-is_same w ↦ search rules
    ] in
    by_value _ _ _ _ c.in_ok-range.ensures.answer _ (by_value _ _ _ _ c.in_ok-versions.ensures _ (simplified_answer flag f c.args.range_text.now items sorted c.in_ok-is_same.is_same c.ascending_arrangements_tie.ensures read none ascending same _ shorter))
