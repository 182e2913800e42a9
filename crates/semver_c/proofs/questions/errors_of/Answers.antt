use Rattle.std.proofs.Common.{rules, string_bytes}
use Rattle.semver_c.proofs.Asking.{asked_for, only_found, within, without}
use Rattle.semver_c.proofs.questions.errors_of.Goals as goal

pub returns-in_err-given : goal.returns-in_err-given
returns-in_err-given c = without _ _ string_bytes c.from_residual.result _ c.in_err-given.ensures c.from_residual.ensures.1

pub returns : goal.returns
returns c =
    within _ _ string_bytes c.map_err.result _ c.in_ok-given.ensures
    (asked_for _ string_bytes c.map_err.result _ c.errors_of_range.result (only_found _ string_bytes c.errors_of_range.result c.errors_of_range.ensures.is c.errors_of_range.ensures.only) c.map_err.ensures.cases (λ e p made. search rules))
