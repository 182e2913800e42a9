use Rattle.std.proofs.Common.{◌≡◌, Ok, rules}
use Rattle.std.proofs.lemmas.Result.{err_from_is_err_and}
use Rattle.answers.specs.Asking.{IsAnswer}
use Rattle.answers.specs.Questions.{LiesOutsideOf}
use Rattle.answers.specs.declared.asking.Answer.TheVariants.{Tag, Value}
use Rattle.answers.specs.AskingLaws.{by_value, by_fault}
use Rattle.answers.proofs.Whether.{whether_answer}
use Rattle.answers.proofs.WritableArguments.{set_writable, version_writable}
use Rattle.semver_req.specs.declared.range_set_or_tag.RangeSetOrTag.TheVariants as inner
use Rattle.answers.proofs.questions.lies_outside.Goals as goal

pub returns-in_err-range : goal.returns-in_err-range
returns-in_err-range c =
    let p = err_from_is_err_and c.from_residual.result c.from_residual.ensures.1 in
    rw (p.1, p.2) (by_fault _ _ _ _ c.in_err-range.ensures.answer)

pub returns-in_err-version : goal.returns-in_err-version
returns-in_err-version c =
    let p = err_from_is_err_and c.from_residual-in_err-version.result c.from_residual-in_err-version.ensures.1 in
    rw (p.1, p.2) (by_value _ _ _ _ c.in_ok-range.ensures.answer _ (by_fault _ _ _ _ c.in_err-version.ensures))

pub returns-in-Tag : goal.returns-in-Tag
returns-in-Tag c =
    let tag : IsAnswer (LiesOutsideOf c.args.side c.args.pre_release c.in_ok-range.range.inner c.in_ok-version.version) (λ answer. answer) (Ok (Tag c.in_ok-from_str-in-Tag.field-0)) = search rules in
    by_value _ _ _ _ c.in_ok-range.ensures.answer _ (by_value _ _ _ _ c.in_ok-version.ensures _ tag)

pub returns : goal.returns
returns c =
    let read : c.in_ok-range.range.inner ≡ inner.RangeSet c.in-RangeSet.set = search rules in
    let written = set_writable c.read_ranges_are_writable.ensures c.in_ok-range.range.inner c.in-RangeSet.set read c.in_ok-range.ensures.read in
    let exact = c.in_ok-lies.ensures.exact written (version_writable c.args.version_text.now c.in_ok-version.version c.in_ok-version.ensures) in
    let lies : IsAnswer (LiesOutsideOf c.args.side c.args.pre_release c.in_ok-range.range.inner c.in_ok-version.version) (λ answer. answer) (Ok (Value c.in_ok-lies.lies)) = rw read (whether_answer _ c.in_ok-lies.lies exact) in
    by_value _ _ _ _ c.in_ok-range.ensures.answer _ (by_value _ _ _ _ c.in_ok-version.ensures _ lies)
