use Rattle.std.proofs.Common.{List, ℕ, ap, ◌∙◌}
use Rattle.serde_json.specs.View.{view}
use Rattle.semver_req.specs.declared.range_set_or_tag.RangeSetOrTag.{RangeSetOrTag}
use Rattle.deno_semver.specs.Json.{IsJsonOfVersionReq}
use Rattle.deno_semver.proofs.JsonReading.{exit_answer, exit_rejected}
use Rattle.deno_semver.proofs.json.object.VersionReqJsonForm.from_json.Goals as goal

pub returns-in_err-raw_text-clause-rejected : goal.returns-in_err-raw_text-clause-rejected
returns-in_err-raw_text-clause-rejected c = exit_rejected IsJsonOfVersionReq (view c.args.value.now) c.from_residual.result _ c.from_residual.ensures.1 (λ x h. c.in_err-raw_text.ensures.answer x.raw_text x.inner h.raw_text h.inner)

pub returns-in_err-raw_text-clause-answer : goal.returns-in_err-raw_text-clause-answer
returns-in_err-raw_text-clause-answer c x h = exit_answer x c.from_residual.result _ c.from_residual.ensures.1 (c.in_err-raw_text.ensures.answer x.raw_text x.inner h.raw_text h.inner)

pub returns-clause-answer : goal.returns-clause-answer
returns-clause-answer c x h = c.from_raw_text_and_inner.ensures ∙ ap (λ (both : List ℕ × RangeSetOrTag). record { raw_text = both.0; inner = both.1 }) (c.in_ok-raw_text.ensures.answer x.raw_text x.inner h.raw_text h.inner)
