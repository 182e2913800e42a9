use Rattle.std.proofs.lemmas.Result.{err_from_is_err_and}
use Rattle.answers.specs.AskingLaws.{by_value, by_fault, answered}
use Rattle.answers.proofs.questions.canonical.Goals as goal

pub returns-in_err-range : goal.returns-in_err-range
returns-in_err-range c =
    let p = err_from_is_err_and c.from_residual.result c.from_residual.ensures.1 in
    rw (p.1, p.2) (by_fault _ _ _ _ c.in_err-range.ensures.answer)

pub returns : goal.returns
returns c = by_value _ _ _ _ c.in_ok-range.ensures.answer _ (answered _ _ _ c.in_ok-to_string_normalized.ensures.text)
