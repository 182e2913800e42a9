use Rattle.std.proofs.lemmas.Result.{err_from_is_err_and}
use Rattle.answers.specs.AskingLaws.{by_value, by_fault, answered}
use Rattle.answers.proofs.questions.sort_key.Goals as goal

pub returns-in_err-version : goal.returns-in_err-version
returns-in_err-version c =
    let p = err_from_is_err_and c.from_residual.result c.from_residual.ensures.1 in
    rw (p.1, p.2) (by_fault _ _ _ _ c.in_err-version.ensures)

pub returns : goal.returns
returns c = by_value _ _ _ _ c.in_ok-version.ensures _ (answered _ _ _ c.in_ok-sort_key.ensures)
