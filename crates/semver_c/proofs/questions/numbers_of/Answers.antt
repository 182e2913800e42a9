use Rattle.std.proofs.Common.{Ok, refl, rules, ◌≡◌}
use Rattle.answers.specs.AskingLaws as given
use Rattle.semver_c.specs.Questions.{version_numbers}
use Rattle.semver_c.specs.declared.questions.Numbers.{Numbers}
use Rattle.semver_c.proofs.Asking.{by_answer, by_problem, within, without}
use Rattle.semver_c.proofs.questions.numbers_of.Goals as goal

pub returns-in_err-text : goal.returns-in_err-text
returns-in_err-text c = without _ _ (λ (numbers : Numbers). numbers) c.from_residual.result _ c.in_err-text.ensures c.from_residual.ensures.1

pub returns-in_err-version : goal.returns-in_err-version
returns-in_err-version c =
    within _ _ (λ (numbers : Numbers). numbers) c.from_residual-in_err-version.result _ c.in_ok-text.ensures
    (by_problem _ (λ (numbers : Numbers). numbers) c.from_residual-in_err-version.result c.in_err-version.field-0.0 (given.by_fault _ _ _ _ c.in_err-version.ensures) _ c.from_residual-in_err-version.ensures.1 refl)

pub returns : goal.returns
returns c =
    let version = c.in_ok-version.version in
    let numbers : Numbers = record { major = version.major; minor = version.minor; patch = version.patch; is_unqualified = c.if-is_empty.result } in
    let are : numbers ≡ version_numbers version = search rules in
    within _ _ (λ (numbers : Numbers). numbers) (Ok numbers) _ c.in_ok-text.ensures
    (by_answer _ (λ (numbers : Numbers). numbers) (Ok numbers) (Ok numbers) (given.by_value _ _ _ _ c.in_ok-version.ensures _ (given.answered _ _ _ are)) refl)
