use Rattle.std.proofs.lemmas.Result.{err_from_is_err_and}
use Rattle.answers.specs.AskingLaws.{by_value, by_fault, answered}
use Rattle.answers.proofs.steps.difference.Goals as goal

pub returns-in_err-one : goal.returns-in_err-one
returns-in_err-one c =
    let p = err_from_is_err_and c.from_residual.result c.from_residual.ensures.1 in
    rw (p.1, p.2) (by_fault _ _ _ _ c.in_err-one.ensures)

pub returns-in_err-other : goal.returns-in_err-other
returns-in_err-other c =
    let p = err_from_is_err_and c.from_residual-in_err-other.result c.from_residual-in_err-other.ensures.1 in
    rw (p.1, p.2) (by_value _ _ _ _ c.in_ok-one.ensures _ (by_fault _ _ _ _ c.in_err-other.ensures))

pub returns : goal.returns
returns c = by_value _ _ _ _ c.in_ok-one.ensures _ (by_value _ _ _ _ c.in_ok-other.ensures _ (answered _ _ _ c.difference.ensures))
