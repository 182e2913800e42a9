use Rattle.std.proofs.Common.{◌≡◌, ◌⊎◌, Err, List, Result, inr, refl, string_bytes, ℕ}
use Rattle.std.proofs.lemmas.Result.{err_from_is_err_and}
use Rattle.answers.proofs.ErrorJson.{not_explained}
use Rattle.answers.proofs.JsonTexts.{explained_no_float}
use Rattle.answers.proofs.OneExplanation.{one_explanation}
use Rattle.answers.specs.Asking.{Fault, IsOutcomeOf, OutOfMemory, fault_of}
use Rattle.answers.specs.AskingLaws.{one_answer}
use Rattle.answers.specs.ExplainedJson.{Explains, explained, ranges_explained}
use Rattle.answers.specs.declared.asking.Answer.{Answer}
use Rattle.answers.specs.declared.explained.Explanation.TheVariants as explanation
use Rattle.answers.proofs.explained_json.explain_as_json.Goals as goal
use Rattle.answers.proofs.explained_json.explain_as_json.Goals.{After-tests_have_one_lowest_version}

-- the text has no other explanation
only : (c : After-tests_have_one_lowest_version) (outcome : Result (Answer (List ℕ)) Fault) → (outcome ≡ Err OutOfMemory) ⊎ Explains c.args.pre_release c.args.flavour c.args.text.now outcome
    → IsOutcomeOf OutOfMemory (Explains c.args.pre_release c.args.flavour c.args.text.now) outcome
only c = one_answer OutOfMemory (Explains c.args.pre_release c.args.flavour c.args.text.now)
    (one_explanation c.texts_have_one_outcome.ensures c.args.flavour c.args.text.now c.args.pre_release c.tests_have_one_lowest_version.ensures c.texts_have_one_list_of_alternatives.ensures c.alternatives_have_one_list_of_comparators.ensures c.texts_are_rejected_for_one_reason.ensures)

pub returns-in_err-tag : goal.returns-in_err-tag
returns-in_err-tag c =
    let p = err_from_is_err_and c.from_residual.result c.from_residual.ensures.1 in
    rw (p.1, p.2) (only (goal.at.returns-in_err-tag c).After-tests_have_one_lowest_version _ (not_explained c.args.pre_release c.args.flavour c.args.text.now (fault_of c.in_err-tag.field-0.0) _ refl c.in_err-tag.ensures.invalid))

pub returns-in-Tag : goal.returns-in-Tag
returns-in-Tag c = only (goal.at.returns-in-Tag c).After-tests_have_one_lowest_version _ (inr (explained (explanation.Tag c.in-Tag.tag) (rw c.in-Tag.is at c.in_ok-tag.ensures.answer)))

pub returns-in_ok-json_text-in-Ranges : goal.returns-in_ok-json_text-in-Ranges
returns-in_ok-json_text-in-Ranges c =
    let is = rw c.in-Ranges.is at c.in_ok-tag.ensures.answer in
    let r = c.in-Ranges in
    let normal = string_bytes r.normal in
    let json = rw (c.as_slice.ensures.value, c.as_str.ensures.value) at c.ranges_explained-json.ensures in
    let text = c.in_ok-json_text-in-Ranges.ensures (ranges_explained c.args.pre_release r.pieces.items normal) (explained_no_float c.args.pre_release r.pieces.items normal) json in
    only (goal.at.returns-in_ok-json_text-in-Ranges c).After-tests_have_one_lowest_version _ (inr (rw text (explained (explanation.Ranges r.pieces r.normal) is)))
