use Rattle.std.proofs.Common.{Ok, refl}
use Rattle.semver_c.specs.declared.questions.ReadVersion.{ReadVersion}
use Rattle.semver_c.proofs.Asking.{by_answer, by_memory, by_problem, within, without}
use Rattle.semver_c.proofs.questions.read_version.Goals as goal

pub returns-in_err-text-clause-answer : goal.returns-in_err-text-clause-answer
returns-in_err-text-clause-answer c = without _ _ (λ (read : ReadVersion). read.version) c.from_residual.result _ c.in_err-text.ensures c.from_residual.ensures.1

pub returns-in_err-version-clause-answer : goal.returns-in_err-version-clause-answer
returns-in_err-version-clause-answer c =
    within _ _ (λ (read : ReadVersion). read.version) c.from_residual-in_err-version.result _ c.in_ok-text.ensures
    (by_problem _ (λ (read : ReadVersion). read.version) c.from_residual-in_err-version.result c.in_err-version.field-0.0 c.in_err-version.ensures _ c.from_residual-in_err-version.ensures.1 refl)

pub returns-in_err-displayed-clause-answer : goal.returns-in_err-displayed-clause-answer
returns-in_err-displayed-clause-answer c =
    within _ _ (λ (read : ReadVersion). read.version) c.from_residual-in_err-displayed.result _ c.in_ok-text.ensures
    (by_memory _ (λ (read : ReadVersion). read.version) c.from_residual-in_err-displayed.result _ c.from_residual-in_err-displayed.ensures.1 refl)

pub returns-clause-answer : goal.returns-clause-answer
returns-clause-answer c =
    let read : ReadVersion = record { version = c.in_ok-version.version; displayed = c.in_ok-displayed.displayed } in
    within _ _ (λ (read : ReadVersion). read.version) (Ok read) _ c.in_ok-text.ensures (by_answer _ (λ (read : ReadVersion). read.version) (Ok read) (Ok c.in_ok-version.version) c.in_ok-version.ensures refl)
