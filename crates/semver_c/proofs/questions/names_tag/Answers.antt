use Rattle.std.proofs.Common.{Ok, refl}
use Rattle.answers.specs.AskingLaws as given
use Rattle.semver_c.proofs.Asking.{by_answer, by_problem, within, without}
use Rattle.semver_c.proofs.questions.names_tag.Goals as goal

pub returns-in_err-given : goal.returns-in_err-given
returns-in_err-given c = without _ _ (λ x. x) c.from_residual.result _ c.in_err-given.ensures c.from_residual.ensures.1

pub returns-in_err-range : goal.returns-in_err-range
returns-in_err-range c =
    within _ _ (λ x. x) c.from_residual-in_err-range.result _ c.in_ok-given.ensures
    (by_problem _ (λ x. x) c.from_residual-in_err-range.result c.in_err-range.field-0.0 (given.by_fault _ _ _ _ c.in_err-range.ensures.answer) _ c.from_residual-in_err-range.ensures.1 refl)

pub returns : goal.returns
returns c =
    within _ _ (λ x. x) (Ok c.is_tag.result) _ c.in_ok-given.ensures
    (by_answer _ (λ x. x) (Ok c.is_tag.result) (Ok c.is_tag.result) (given.by_value _ _ _ _ c.in_ok-range.ensures.answer _ (given.answered _ _ _ c.is_tag.ensures)) refl)
