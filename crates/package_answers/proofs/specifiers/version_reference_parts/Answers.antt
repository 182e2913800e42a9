use Rattle.std.proofs.Common.{◌≡◌, ℕ, List, Ok, Err, None, Result, rules}
use Rattle.semver_base.specs.declared.failure.Rejection.{Rejection}
use Rattle.deno_semver.specs.NameAndVersion.{IsNvMemory, ReportsNvFault}
use Rattle.deno_semver.specs.NvReference.{IsNvReferenceOutcome, nv_error}
use Rattle.deno_semver.specs.declared.package.values.PackageKind.{PackageKind}
use Rattle.deno_semver.specs.declared.package.nv_reference.PackageNvReference.{PackageNvReference}
use Rattle.answers.specs.declared.asking.Kind.TheVariants as kinds
use Rattle.answers.specs.ReadingLaws.{fault_read, value_read}
use Rattle.package_answers.specs.declared.specifiers.VersionReference.{VersionReference}
use Rattle.package_answers.proofs.Reasons.{rejection_reason, shown_message}
use Rattle.package_answers.specs.Names.{ShowsRejection}
use Rattle.package_answers.proofs.Outcomes.{by_this, in_registry, no_message, same_of_registry}
use Rattle.answers.specs.AskingLaws.{by_value, by_fault, answered}
use Rattle.package_answers.specs.Specifiers.{IsPinnedOutcome, version_reference_json}
use Rattle.package_answers.proofs.specifiers.version_reference_parts.Goals as goal

abbrev outcome_of : List ℕ → PackageKind → Result PackageNvReference Rejection → Type 0
outcome_of text kind o = IsNvReferenceOutcome kind text o

abbrev made : PackageKind → PackageNvReference → VersionReference
made kind reference = record { kind = kind; reference = reference }

pub returns-in-Err : goal.returns-in-Err
returns-in-Err c =
    let text = c.args.text.now in
    let kind = c.registry_of-kind.result in
    let registry = c.registry_of-kind.ensures in
    let failure = c.message_failure-failure.result in
    let message = rw c.as_str.ensures.value at c.message_failure-failure.ensures in
    let none : IsNvMemory (nv_error c.in-Err.error) → failure ≡ None = λ m. no_message c.in-Err.error.message failure message m.message in
    rw c.of.ensures (by_fault _ _ _ _ (fault_read kinds.Reference 0 (IsPinnedOutcome text) ShowsRejection failure none
    (λ (fault : Rejection) (r : ReportsNvFault fault text (nv_error c.in-Err.error)). shown_message c.in-Err.error.message fault failure message r.message) rejection_reason
    (in_registry (outcome_of text) text kind registry c.in-Err.ensures.rejected)
    (λ (read : VersionReference) o. c.in-Err.ensures.answer (Ok read.reference) (by_this (outcome_of text) text kind registry read.kind (Ok read.reference) o.0 o.1))
    (λ (fault : Rejection) o. c.in-Err.ensures.answer (Err fault) (by_this (outcome_of text) text kind registry o.0 (Err fault) o.1 o.2))))

pub returns : goal.returns
returns c =
    let text = c.args.text.now in
    let kind = c.registry_of-kind.result in
    let registry = c.registry_of-kind.ensures in
    let read = made kind c.in-Ok.reference in
    let parsed = value_read kinds.Reference 0 (IsPinnedOutcome text) ShowsRejection read (registry, c.in-Ok.ensures.read)
    (λ (read : VersionReference) o. same_of_registry (outcome_of text) text kind registry made c.in-Ok.reference read.kind read.reference o.0 o.1 (λ (r : PackageNvReference) k. c.in-Ok.ensures.answer (Ok r) k))
    (λ (fault : Rejection) o. c.in-Ok.ensures.answer (Err fault) (by_this (outcome_of text) text kind registry o.0 (Err fault) o.1 o.2)) in
    let json = rw (c.path-2.ensures, c.registry_name.ensures, c.path.ensures) at (c.into_json-json.ensures _ (c.put_text-2.ensures _ (c.put-2.ensures _ _ (c.put_text.ensures _ (c.put.ensures _ _ c.new.ensures c.export_json.ensures)) c.nv_json.ensures))) in
    by_value _ _ _ _ parsed _ (answered _ _ _ (c.in_ok-json_text.ensures (version_reference_json read) (search rules) json))
