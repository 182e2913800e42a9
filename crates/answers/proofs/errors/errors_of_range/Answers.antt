use Rattle.std.proofs.Common.{◌∙◌, ap, sym}
use Rattle.std.proofs.lemmas.Result.{IfOk-weaker}
use Rattle.serde_json.specs.Written.{compact_text}
use Rattle.answers.specs.ErrorLaws.{same_errors_json}
use Rattle.answers.proofs.errors.errors_of_range.Goals as goal

pub returns-clause-is : goal.returns-clause-is
returns-clause-is c =
    let errors = c.in_ok-errors.errors.items in
    IfOk-weaker c.errors_text.result _ _ (λ text is. (errors, c.in_ok-errors.ensures, is)) (rw c.as_slice.ensures.value at c.errors_text.ensures)

pub returns-clause-only : goal.returns-clause-only
returns-clause-only c other h =
    let errors = c.in_ok-errors.errors.items in
    let same = c.texts_have_one_list_of_errors.ensures c.args.flavour 0 c.args.range_text.now errors h.0 c.in_ok-errors.ensures h.1 in
    IfOk-weaker c.errors_text.result _ _ (λ text is. is ∙ (ap compact_text (same_errors_json errors h.0 same) ∙ sym h.2)) (rw c.as_slice.ensures.value at c.errors_text.ensures)
