use Rattle.std.proofs.Common.{◌≡◌, Ok, Err, None, rules}
use Rattle.semver_base.specs.declared.failure.Rejection.{Rejection}
use Rattle.deno_semver.specs.NameAndVersion.{IsNvMemory, IsNvOutcome, ReportsNvFault}
use Rattle.deno_semver.specs.declared.package.values.PackageNv.{PackageNv}
use Rattle.answers.specs.declared.asking.Kind.TheVariants as kinds
use Rattle.answers.specs.ReadingLaws.{fault_read, value_read}
use Rattle.package_answers.proofs.Outcomes.{no_message}
use Rattle.package_answers.proofs.Reasons.{rejection_reason, shown_message}
use Rattle.package_answers.specs.Names.{ShowsRejection, nv_json}
use Rattle.answers.specs.AskingLaws.{by_value, by_fault, answered}
use Rattle.package_answers.proofs.names.name_with_version_parts.Goals as goal

pub returns-in-Err : goal.returns-in-Err
returns-in-Err c =
    let text = c.args.text.now in
    let e = c.in-Err.error in
    let failure = c.message_failure-failure.result in
    let message = rw c.as_str.ensures.value at c.message_failure-failure.ensures in
    let none : IsNvMemory e → failure ≡ None = λ m. no_message e.message failure message m.message in
    rw c.of.ensures (by_fault _ _ _ _ (fault_read kinds.Package 0 (IsNvOutcome text) ShowsRejection failure none
    (λ (fault : Rejection) (r : ReportsNvFault fault text e). shown_message e.message fault failure message r.message) rejection_reason c.in-Err.ensures.parsed.rejected
    (λ (n : PackageNv) o. c.in-Err.ensures.parsed.answer (Ok n) o) (λ (fault : Rejection) o. c.in-Err.ensures.parsed.answer (Err fault) o)))

pub returns : goal.returns
returns c =
    let parsed = value_read kinds.Package 0 (IsNvOutcome c.args.text.now) ShowsRejection c.in-Ok.nv c.in-Ok.ensures.parsed.read (λ (n : PackageNv) o. c.in-Ok.ensures.parsed.answer (Ok n) o) (λ (fault : Rejection) o. c.in-Ok.ensures.parsed.answer (Err fault) o) in
    by_value _ _ _ _ parsed _ (answered _ _ _ (c.in_ok-json_text.ensures (nv_json c.in-Ok.nv) (search rules) c.nv_json.ensures))
