use Rattle.std.proofs.Common.{rules}
use Rattle.semver_c.proofs.Asking.{asked, within, without}
use Rattle.semver_c.proofs.questions.difference_of.Goals as goal

pub returns-in_err-one : goal.returns-in_err-one
returns-in_err-one c = without _ _ (λ x. x) c.from_residual.result _ c.in_err-one.ensures c.from_residual.ensures.1

pub returns-in_err-other : goal.returns-in_err-other
returns-in_err-other c =
    within _ _ (λ x. x) c.from_residual-in_err-other.result _ c.in_ok-one.ensures (without _ _ (λ x. x) c.from_residual-in_err-other.result _ c.in_err-other.ensures c.from_residual-in_err-other.ensures.1)

pub returns : goal.returns
returns c =
    within _ _ (λ x. x) c.map_err.result _ c.in_ok-one.ensures (within _ _ (λ x. x) c.map_err.result _ c.in_ok-other.ensures (asked _ (λ x. x) c.map_err.result _ c.difference.result c.difference.ensures c.map_err.ensures.cases (λ e p made. search rules)))
