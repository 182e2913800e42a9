use Rattle.std.proofs.Common.{refl, rules}
use Rattle.answers.specs.Filtering.{list_answer}
use Rattle.semver_c.proofs.Asking.{asked, by_memory, within, without}
use Rattle.semver_c.proofs.questions.filter.Goals as goal

pub returns-in_err-given : goal.returns-in_err-given
returns-in_err-given c = without _ _ (λ answer. list_answer (λ list. list.items) answer) c.from_residual.result _ c.in_err-given.ensures c.from_residual.ensures.1

pub returns-in_err-lines : goal.returns-in_err-lines
returns-in_err-lines c =
    within _ _ (λ answer. list_answer (λ list. list.items) answer) c.from_residual-in_err-lines.result _ c.in_ok-given.ensures (by_memory _ (λ answer. list_answer (λ list. list.items) answer) c.from_residual-in_err-lines.result _ c.from_residual-in_err-lines.ensures.1 refl)

pub returns : goal.returns
returns c =
    within _ _ (λ answer. list_answer (λ list. list.items) answer) c.map_err.result _ c.in_ok-given.ensures (asked _ (λ answer. list_answer (λ list. list.items) answer) c.map_err.result _ c.filter.result (rw (c.as_slice.ensures.value, c.in_ok-lines.ensures, c.pre_release-pre_release.ensures) at c.filter.ensures) c.map_err.ensures.cases (λ e p made. search rules))
