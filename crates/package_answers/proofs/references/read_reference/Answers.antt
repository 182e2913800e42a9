use Rattle.std.proofs.Common.{◌≡◌, ℕ, List, Ok, Err, None, Result, ap}
use Rattle.deno_semver.specs.ReferenceOutcome.{IsReferenceOutcome, Memory, ReferenceFault, ReportsReference, unboxed}
use Rattle.deno_semver.specs.declared.package.values.PackageKind.{PackageKind}
use Rattle.deno_semver.specs.declared.package.reference.PackageReqReference.{PackageReqReference}
use Rattle.answers.specs.declared.asking.Kind.TheVariants as kinds
use Rattle.answers.specs.ReadingLaws.{fault_read, value_read}
use Rattle.package_answers.specs.References.{IsRegistryOutcome, ShowsReferenceFault, reference_failure}
use Rattle.package_answers.specs.declared.references.Reference.{Reference}
use Rattle.package_answers.proofs.Outcomes.{by_this, in_registry, none_shown, same_of_registry}
use Rattle.package_answers.proofs.Reasons.{reference_reason, shown_as}
use Rattle.package_answers.proofs.references.read_reference.Goals as goal

abbrev outcome_of : List ℕ → PackageKind → Result PackageReqReference ReferenceFault → Type 0
outcome_of text kind o = IsReferenceOutcome kind text o

abbrev made : PackageKind → PackageReqReference → Reference
made kind reference = record { kind = kind; reference = reference }

pub returns-in-Ok : goal.returns-in-Ok
returns-in-Ok c =
    let text = c.args.text.now in
    let kind = c.registry_of-kind.result in
    let registry = c.registry_of-kind.ensures in
    value_read kinds.Reference 0 (IsRegistryOutcome text) (ShowsReferenceFault text) (made kind c.in-Ok.reference) (registry, c.in-Ok.ensures.read)
    (λ (read : Reference) o. same_of_registry (outcome_of text) text kind registry made c.in-Ok.reference read.kind read.reference o.0 o.1 (λ (r : PackageReqReference) k. c.in-Ok.ensures.answer (Ok r) k))
    (λ (fault : ReferenceFault) o. c.in-Ok.ensures.answer (Err fault) (by_this (outcome_of text) text kind registry o.0 (Err fault) o.1 o.2))

pub returns-in-Err : goal.returns-in-Err
returns-in-Err c =
    let text = c.args.text.now in
    let kind = c.registry_of-kind.result in
    let registry = c.registry_of-kind.ensures in
    let failure = c.reference_failure-failure.result in
    let none : unboxed c.in-Err.error ≡ Memory → failure ≡ None = λ m. none_shown failure (reference_failure (unboxed c.in-Err.error)) c.reference_failure-failure.ensures (ap reference_failure m) in
    let e = c.in-Err.error in
    rw c.of.ensures (fault_read kinds.Reference 0 (IsRegistryOutcome text) (ShowsReferenceFault text) failure none
    (λ (fault : ReferenceFault) (r : ReportsReference kind text fault e). shown_as failure (reference_failure (unboxed e)) c.reference_failure-failure.ensures (λ is. (kind, e, registry, r, is)))
    (reference_reason c.texts_are_rejected_for_one_reason.ensures text) (in_registry (outcome_of text) text kind registry c.in-Err.ensures.rejected)
    (λ (read : Reference) o. c.in-Err.ensures.answer (Ok read.reference) (by_this (outcome_of text) text kind registry read.kind (Ok read.reference) o.0 o.1))
    (λ (fault : ReferenceFault) o. c.in-Err.ensures.answer (Err fault) (by_this (outcome_of text) text kind registry o.0 (Err fault) o.1 o.2)))
