use Rattle.std.proofs.Common.{rules}
use Rattle.semver_c.proofs.Asking.{asked_for, one_place, only_found, within, without}
use Rattle.semver_c.proofs.questions.version_error_of.Goals as goal

pub returns-in_err-text : goal.returns-in_err-text
returns-in_err-text c = without _ _ (λ x. x) c.from_residual.result _ c.in_err-text.ensures c.from_residual.ensures.1

pub returns : goal.returns
returns c =
    within _ _ (λ x. x) c.map_err.result _ c.in_ok-text.ensures (asked_for _ (λ x. x) c.map_err.result _ c.version_error.result (only_found _ (λ x. x) c.version_error.result c.version_error.ensures (one_place c.in_ok-text.text.now c.version_error.result c.version_error.ensures)) c.map_err.ensures.cases (λ e p made. search rules))
