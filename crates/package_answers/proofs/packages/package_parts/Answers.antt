use Rattle.std.proofs.Common.{rules}
use Rattle.std.proofs.lemmas.Result.{err_from_is_err_and}
use Rattle.package_answers.specs.Packages.{package_json}
use Rattle.answers.specs.AskingLaws.{by_value, by_fault, answered}
use Rattle.package_answers.proofs.packages.package_parts.Goals as goal

pub returns-in_err-req : goal.returns-in_err-req
returns-in_err-req c =
    let p = err_from_is_err_and c.from_residual.result c.from_residual.ensures.1 in
    rw (p.1, p.2) (by_fault _ _ _ _ c.in_err-req.ensures)

pub returns : goal.returns
returns c = by_value _ _ _ _ c.in_ok-req.ensures _ (answered _ _ _ (c.in_ok-json_text.ensures (package_json c.in_ok-req.req) (search rules) c.package_json.ensures))
