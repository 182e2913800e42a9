use Rattle.std.proofs.Common.{ap}
use Rattle.serde_json.specs.View.{view}
use Rattle.semver_base.specs.declared.range.RangeBound.{RangeBound}
use Rattle.deno_semver.specs.Json.{IsJsonOfRange}
use Rattle.deno_semver.proofs.JsonReading.{exit_answer, exit_rejected}
use Rattle.deno_semver.proofs.json.object.VersionRangeJsonForm.from_json.Goals as goal

pub returns-in_err-start-clause-rejected : goal.returns-in_err-start-clause-rejected
returns-in_err-start-clause-rejected c = exit_rejected IsJsonOfRange (view c.args.value.now) c.from_residual.result _ c.from_residual.ensures.1 (λ x h. c.in_err-start.ensures.answer x.start x.end h.start h.end)

pub returns-in_err-start-clause-answer : goal.returns-in_err-start-clause-answer
returns-in_err-start-clause-answer c x h = exit_answer x c.from_residual.result _ c.from_residual.ensures.1 (c.in_err-start.ensures.answer x.start x.end h.start h.end)

pub returns-clause-answer : goal.returns-clause-answer
returns-clause-answer c x h = ap (λ (both : RangeBound × RangeBound). record { start = both.0; end = both.1 }) (c.in_ok-start.ensures.answer x.start x.end h.start h.end)
