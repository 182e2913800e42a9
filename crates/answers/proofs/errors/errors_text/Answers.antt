use Rattle.std.proofs.Common.{◌≡◌, ◌∙◌, ap, map, take_all}
use Rattle.serde_json.specs.Data.{array}
use Rattle.serde_json.specs.View.{items_of, view}
use Rattle.serde_json.proofs.Views.{view-Array}
use Rattle.answers.specs.Errors.{error_json, errors_json}
use Rattle.answers.proofs.JsonTexts.{errors_no_float}
use Rattle.answers.proofs.errors.errors_text.Goals as goal

pub returns : goal.returns
returns c =
    let l = c.loop-error in
    let errors = c.args.errors.now in
    let all : map view l.items.items ≡ map error_json errors = rw (take_all l.error-index errors c.loop-error-test.false) at l.invariant in
    c.json_text.ensures (errors_json errors) (errors_no_float errors) (view-Array l.items ∙ ap (λ items. array (items_of items)) all)
