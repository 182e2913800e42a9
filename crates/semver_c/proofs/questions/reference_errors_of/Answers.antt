use Rattle.std.proofs.Common.{rules, string_bytes}
use Rattle.semver_c.proofs.Asking.{asked_for, only_found, within, without}
use Rattle.semver_c.proofs.questions.reference_errors_of.Goals as goal

pub returns-in_err-text : goal.returns-in_err-text
returns-in_err-text c = without _ _ string_bytes c.from_residual.result _ c.in_err-text.ensures c.from_residual.ensures.1

pub returns : goal.returns
returns c =
    within _ _ string_bytes c.map_err.result _ c.in_ok-text.ensures
    (asked_for _ string_bytes c.map_err.result _ c.reference_errors_text.result (only_found _ string_bytes c.reference_errors_text.result c.reference_errors_text.ensures.is c.reference_errors_text.ensures.only) c.map_err.ensures.cases (λ e p made. search rules))
