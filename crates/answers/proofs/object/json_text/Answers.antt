use Rattle.std.proofs.Common.{ap, ◌∙◌}
use Rattle.std.proofs.lemmas.Result.{IfOk-weaker}
use Rattle.serde_json.specs.Written.{compact_text, has_float}
use Rattle.answers.proofs.object.json_text.Goals as goal

pub returns-in-Ok : goal.returns-in-Ok
returns-in-Ok c = λ d no_float e.
    let is = rw c.in-Ok.is at e in
    IfOk-weaker c.to_string.result _ _ (λ text k. k (ap has_float is ∙ no_float) ∙ ap compact_text is) c.to_string.ensures.text
