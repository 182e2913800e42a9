use Rattle.std.proofs.Common.{refl, rules, string_bytes}
use Rattle.answers.specs.Filtering.{list_answer}
use Rattle.semver_c.proofs.Asking.{asked, by_memory, within, without}
use Rattle.semver_c.proofs.questions.simplified_of.Goals as goal

pub returns-in_err-given : goal.returns-in_err-given
returns-in_err-given c = without _ _ (λ answer. list_answer string_bytes answer) c.from_residual.result _ c.in_err-given.ensures c.from_residual.ensures.1

pub returns-in_err-lines : goal.returns-in_err-lines
returns-in_err-lines c =
    let r = c.from_residual-in_err-lines in
    within _ _ (λ answer. list_answer string_bytes answer) r.result _ c.in_ok-given.ensures (by_memory _ (λ answer. list_answer string_bytes answer) r.result _ r.ensures.1 refl)

pub returns : goal.returns
returns c =
    let r = c.map_err in
    let asked_of = rw (c.as_slice.ensures.value, c.in_ok-lines.ensures, c.pre_release-pre_release.ensures) at c.simplified.ensures in
    within _ _ (λ answer. list_answer string_bytes answer) r.result _ c.in_ok-given.ensures (asked _ (λ answer. list_answer string_bytes answer) r.result _ c.simplified.result asked_of r.ensures.cases (λ e p made. search rules))
