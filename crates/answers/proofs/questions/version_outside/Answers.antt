use Rattle.std.proofs.Common.{rules, Ok}
use Rattle.std.proofs.lemmas.Result.{err_from_is_err_and}
use Rattle.answers.specs.Asking.{IsAnswer}
use Rattle.answers.specs.Questions.{OutsideOf}
use Rattle.answers.specs.declared.asking.Answer.TheVariants.{Tag, Value}
use Rattle.answers.specs.AskingLaws.{by_value, by_fault}
use Rattle.answers.proofs.questions.version_outside.Goals as goal

pub returns-in_err-one : goal.returns-in_err-one
returns-in_err-one c =
    let p = err_from_is_err_and c.from_residual.result c.from_residual.ensures.1 in
    rw (p.1, p.2) (by_fault _ _ _ _ c.in_err-one.ensures.answer)

pub returns-in_err-other : goal.returns-in_err-other
returns-in_err-other c =
    let p = err_from_is_err_and c.from_residual-in_err-other.result c.from_residual-in_err-other.ensures.1 in
    rw (p.1, p.2) (by_value _ _ _ _ c.in_ok-one.ensures.answer _ (by_fault _ _ _ _ c.in_err-other.ensures.answer))

pub returns-in-Some : goal.returns-in-Some
returns-in-Some c =
    let tag : IsAnswer (OutsideOf c.args.pre_release c.in_ok-one.one c.in_ok-other.other) (λ answer. answer) (Ok (Tag c.in_ok-from_str.field-0)) = search rules in
    by_value _ _ _ _ c.in_ok-one.ensures.answer _ (by_value _ _ _ _ c.in_ok-other.ensures.answer _ tag)

pub returns : goal.returns
returns c =
    let value : IsAnswer (OutsideOf c.args.pre_release c.in_ok-one.one c.in_ok-other.other) (λ answer. answer) (Ok (Value c.in_ok-lowest.lowest)) = search rules in
    by_value _ _ _ _ c.in_ok-one.ensures.answer _ (by_value _ _ _ _ c.in_ok-other.ensures.answer _ value)
