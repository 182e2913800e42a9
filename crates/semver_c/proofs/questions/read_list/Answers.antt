use Rattle.std.proofs.Common.{refl, rules}
use Rattle.semver_c.proofs.Asking.{asked, by_memory, within, without}
use Rattle.semver_c.proofs.questions.read_list.Goals as goal

pub returns-in_err-text : goal.returns-in_err-text
returns-in_err-text c = without _ _ (λ list. list.items) c.from_residual.result _ c.in_err-text.ensures c.from_residual.ensures.1

pub returns-in_err-lines : goal.returns-in_err-lines
returns-in_err-lines c =
    within _ _ (λ list. list.items) c.from_residual-in_err-lines.result _ c.in_ok-text.ensures (by_memory _ (λ list. list.items) c.from_residual-in_err-lines.result _ c.from_residual-in_err-lines.ensures.1 refl)

pub returns : goal.returns
returns c =
    within _ _ (λ list. list.items) c.map_err.result _ c.in_ok-text.ensures (asked _ (λ list. list.items) c.map_err.result _ c.version_lines.result (rw (c.as_slice.ensures.value, c.in_ok-lines.ensures) at c.version_lines.ensures.answer) c.map_err.ensures.cases (λ e p made. search rules))
