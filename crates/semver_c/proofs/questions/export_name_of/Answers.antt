use Rattle.std.proofs.Common.{rules}
use Rattle.std.specs.Cow.{cow_str_bytes}
use Rattle.semver_c.proofs.Asking.{answered_for, asked_for, within, without}
use Rattle.semver_c.proofs.questions.export_name_of.Goals as goal

pub returns-in_err-text : goal.returns-in_err-text
returns-in_err-text c = without _ _ cow_str_bytes c.from_residual.result _ c.in_err-text.ensures c.from_residual.ensures.1

pub returns : goal.returns
returns c =
    within _ _ cow_str_bytes c.map_err.result _ c.in_ok-text.ensures
    (asked_for _ cow_str_bytes c.map_err.result _ c.normalized_export_name.result (answered_for _ cow_str_bytes c.normalized_export_name.result c.normalized_export_name.ensures.value) c.map_err.ensures.cases (λ e p made. search rules))
