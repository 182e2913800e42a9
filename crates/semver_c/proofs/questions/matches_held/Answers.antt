use Rattle.std.proofs.Common.{Ok, ap, refl, ◌∙◌}
use Rattle.answers.specs.AskingLaws as given
use Rattle.answers.specs.Questions.{match_of}
use Rattle.semver_c.specs.Codes.{match_code}
use Rattle.semver_c.proofs.Asking.{by_answer, by_problem, within, without}
use Rattle.semver_c.proofs.questions.matches_held.Goals as goal

pub returns-in_err-text : goal.returns-in_err-text
returns-in_err-text c = rw c.in-Some.is (without _ _ (λ code. code) c.from_residual.result _ c.in_err-text.ensures c.from_residual.ensures.1)

pub returns-in_err-version : goal.returns-in_err-version
returns-in_err-version c =
    rw c.in-Some.is (within _ _ (λ code. code) c.from_residual-in_err-version.result _ c.in_ok-text.ensures
    (by_problem _ (λ code. code) c.from_residual-in_err-version.result c.in_err-version.field-0.0 (given.by_fault _ _ _ _ c.in_err-version.ensures) _ c.from_residual-in_err-version.ensures.1 refl))

pub returns : goal.returns
returns c =
    let code = c.match_code.ensures ∙ ap (λ flag. match_code (match_of flag c.in-Some.range.now.inner c.in_ok-version.version)) c.pre_release.ensures in
    rw c.in-Some.is (within _ _ (λ code. code) (Ok c.match_code.result) _ c.in_ok-text.ensures
    (by_answer _ (λ code. code) (Ok c.match_code.result) (Ok c.match_code.result) (given.by_value _ _ _ _ c.in_ok-version.ensures _ (given.answered _ _ _ code)) refl))
