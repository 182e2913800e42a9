use Rattle.std.proofs.Common.{◌∙◌, ap, sym}
use Rattle.std.proofs.lemmas.Result.{IfOk-weaker}
use Rattle.serde_json.specs.Written.{compact_text}
use Rattle.package_answers.proofs.OneErrors.{reference_errors_one}
use Rattle.package_answers.proofs.references.reference_errors_text.Goals as goal

pub returns-clause-is : goal.returns-clause-is
returns-clause-is c = IfOk-weaker c.errors_text.result _ _ (λ text is. (c.in_ok-errors.errors, c.in_ok-errors.ensures, is)) c.errors_text.ensures

pub returns-clause-only : goal.returns-clause-only
returns-clause-only c other h =
    let same = reference_errors_one c.requirements_stand_at_one_place.ensures c.texts_have_one_list_of_errors.ensures c.texts_are_rejected_for_one_reason.ensures c.references_have_one_outcome.ensures c.args.text.now c.in_ok-errors.errors h.0 c.in_ok-errors.ensures h.1 in
    IfOk-weaker c.errors_text.result _ _ (λ text is. is ∙ (ap compact_text same ∙ sym h.2)) c.errors_text.ensures
