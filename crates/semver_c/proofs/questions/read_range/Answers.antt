use Rattle.std.proofs.Common.{Ok, refl}
use Rattle.semver_c.specs.declared.questions.ReadRange.{ReadRange}
use Rattle.semver_c.proofs.Asking.{by_answer, by_memory, by_problem, within, without}
use Rattle.semver_c.proofs.questions.read_range.Goals as goal

pub returns-in_err-given-clause-answer : goal.returns-in_err-given-clause-answer
returns-in_err-given-clause-answer c = without _ _ (λ (read : ReadRange). read.range) c.from_residual.result _ c.in_err-given.ensures c.from_residual.ensures.1

pub returns-in_err-range-clause-answer : goal.returns-in_err-range-clause-answer
returns-in_err-range-clause-answer c =
    within _ _ (λ (read : ReadRange). read.range) c.from_residual-in_err-range.result _ c.in_ok-given.ensures
    (by_problem _ (λ (read : ReadRange). read.range) c.from_residual-in_err-range.result c.in_err-range.field-0.0 c.in_err-range.ensures.answer _ c.from_residual-in_err-range.ensures.1 refl)

pub returns-in_err-canonical-clause-answer : goal.returns-in_err-canonical-clause-answer
returns-in_err-canonical-clause-answer c =
    within _ _ (λ (read : ReadRange). read.range) c.from_residual-in_err-canonical.result _ c.in_ok-given.ensures
    (by_memory _ (λ (read : ReadRange). read.range) c.from_residual-in_err-canonical.result _ c.from_residual-in_err-canonical.ensures.1 refl)

pub returns-clause-answer : goal.returns-clause-answer
returns-clause-answer c =
    let read : ReadRange = record { range = c.in_ok-range.range; canonical = c.in_ok-canonical.canonical } in
    within _ _ (λ (read : ReadRange). read.range) (Ok read) _ c.in_ok-given.ensures (by_answer _ (λ (read : ReadRange). read.range) (Ok read) (Ok c.in_ok-range.range) c.in_ok-range.ensures.answer refl)
