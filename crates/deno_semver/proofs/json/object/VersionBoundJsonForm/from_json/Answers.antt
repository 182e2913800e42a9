use Rattle.std.proofs.Common.{ap, ◌∙◌}
use Rattle.serde_json.specs.View.{view}
use Rattle.semver_base.specs.declared.range.VersionBoundKind.{VersionBoundKind}
use Rattle.semver_base.specs.declared.version.Version.{Version}
use Rattle.deno_semver.specs.Json.{IsJsonOfBound}
use Rattle.deno_semver.proofs.JsonReading.{exit_answer, exit_rejected}
use Rattle.deno_semver.proofs.json.object.VersionBoundJsonForm.from_json.Goals as goal

pub returns-in_err-kind-clause-rejected : goal.returns-in_err-kind-clause-rejected
returns-in_err-kind-clause-rejected c = exit_rejected IsJsonOfBound (view c.args.value.now) c.from_residual.result _ c.from_residual.ensures.1 (λ x h. c.in_err-kind.ensures.answer x.kind x.version h.kind h.version)

pub returns-in_err-kind-clause-answer : goal.returns-in_err-kind-clause-answer
returns-in_err-kind-clause-answer c x h = exit_answer x c.from_residual.result _ c.from_residual.ensures.1 (c.in_err-kind.ensures.answer x.kind x.version h.kind h.version)

pub returns-clause-answer : goal.returns-clause-answer
returns-clause-answer c x h = c.new.ensures ∙ ap (λ (both : VersionBoundKind × Version). record { kind = both.0; version = both.1 }) (c.in_ok-kind.ensures.answer x.kind x.version h.kind h.version)
