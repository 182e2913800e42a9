use Rattle.std.proofs.Common.{rules}
use Rattle.std.proofs.lemmas.Result.{err_from_is_err_and}
use Rattle.package_answers.specs.References.{reference_json}
use Rattle.answers.specs.AskingLaws.{by_value, by_fault, answered}
use Rattle.package_answers.proofs.references.reference_parts.Goals as goal

pub returns-in_err-read : goal.returns-in_err-read
returns-in_err-read c =
    let p = err_from_is_err_and c.from_residual.result c.from_residual.ensures.1 in
    rw (p.1, p.2) (by_fault _ _ _ _ c.in_err-read.ensures)

pub returns : goal.returns
returns c = by_value _ _ _ _ c.in_ok-read.ensures _ (answered _ _ _ (c.in_ok-json_text.ensures (reference_json c.in_ok-read.read) (search rules) c.reference_json.ensures))
