use Rattle.std.proofs.Common.{◌≡◌, IfOk, rules}
use Rattle.std.proofs.lemmas.Result.{err_from_is_err_and}
use Rattle.serde_json.specs.View.{view}
use Rattle.answers.specs.Parts.{texts_json, version_json}
use Rattle.answers.specs.AskingLaws.{by_value, by_fault, answered}
use Rattle.answers.proofs.JsonTexts.{version_no_float}
use Rattle.answers.proofs.parts.version_parts.Goals as goal

pub returns-in_err-version : goal.returns-in_err-version
returns-in_err-version c =
    let p = err_from_is_err_and c.from_residual.result c.from_residual.ensures.1 in
    rw (p.1, p.2) (by_fault _ _ _ _ c.in_err-version.ensures)

pub returns : goal.returns
returns c =
    let version = c.in_ok-version.version in
    let build : IfOk c.texts_json.result (λ json. view json ≡ texts_json version.build) = search rules in
    let pre : IfOk c.texts_json-2.result (λ json. view json ≡ texts_json version.pre) = search rules in
    let json = c.into_json-json.ensures _ (c.put-5.ensures _ _ (c.put-4.ensures _ _ (c.put-3.ensures _ _ (c.put-2.ensures _ _ (c.put.ensures _ _ c.new.ensures build) c.number_json.ensures) c.number_json-2.ensures) c.number_json-3.ensures) pre) in
    by_value _ _ _ _ c.in_ok-version.ensures _ (answered _ _ _ (c.in_ok-json_text.ensures (version_json version) (version_no_float version) json))
