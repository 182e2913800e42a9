use Rattle.std.proofs.Common.{◌≡◌, ◌⊎◌, Result, Ok, Err, None, ap, rules}
use Rattle.deno_semver.specs.DependencyOutcome.{DependencyFault, IsDependencyAnswer, IsDependencyOutcome, IsDependencyRejection, ReportsDependency}
use Rattle.deno_semver.specs.declared.jsr.dependency.JsrDepPackageReq.{JsrDepPackageReq}
use Rattle.deno_semver.specs.declared.jsr.dependency.JsrDepPackageReqParseError.TheVariants as error
use Rattle.answers.specs.declared.asking.Kind.TheVariants as kinds
use Rattle.answers.specs.ReadingLaws.{fault_read, value_read}
use Rattle.package_answers.proofs.Outcomes.{none_shown}
use Rattle.package_answers.proofs.Reasons.{dependency_reason, shown_as}
use Rattle.answers.specs.AskingLaws.{by_value, by_fault, answered}
use Rattle.package_answers.specs.Specifiers.{ShowsDependencyFault, dependency_failure, dependency_json}
use Rattle.package_answers.proofs.specifiers.dependency_parts.Goals as goal

pub returns-in-Err : goal.returns-in-Err
returns-in-Err c =
    let failure = c.match-error.failure in
    let is : (failure ≡ None) ⊎ (failure ≡ dependency_failure c.in-Err.error) = search rules in
    let none : c.in-Err.error ≡ error.Memory → failure ≡ None = λ m. none_shown failure (dependency_failure c.in-Err.error) is (ap dependency_failure m) in
    let rejected : IsDependencyRejection c.args.flavour c.args.text.now c.in-Err.error = search rules in
    let answer : (outcome : Result JsrDepPackageReq DependencyFault) → IsDependencyOutcome c.args.flavour c.args.text.now outcome → IsDependencyAnswer c.args.flavour c.args.text.now outcome (Err c.in-Err.error) = search rules in
    let f = c.args.flavour in
    let text = c.args.text.now in
    let e = c.in-Err.error in
    rw c.of.ensures (by_fault _ _ _ _ (fault_read kinds.Reference 0 (IsDependencyOutcome f text) (ShowsDependencyFault f text) failure none
    (λ (fault : DependencyFault) (r : ReportsDependency f text fault e). shown_as failure (dependency_failure e) is (λ same. (e, r, same)))
    (dependency_reason c.texts_are_rejected_for_one_reason.ensures f text) rejected (λ (d : JsrDepPackageReq) o. answer (Ok d) o) (λ (fault : DependencyFault) o. answer (Err fault) o)))

pub returns : goal.returns
returns c =
    let read : IsDependencyOutcome c.args.flavour c.args.text.now (Ok c.in-Ok.dependency) = search rules in
    let answer : (outcome : Result JsrDepPackageReq DependencyFault) → IsDependencyOutcome c.args.flavour c.args.text.now outcome → IsDependencyAnswer c.args.flavour c.args.text.now outcome (Ok c.in-Ok.dependency) = search rules in
    let parsed = value_read kinds.Reference 0 (IsDependencyOutcome c.args.flavour c.args.text.now) (ShowsDependencyFault c.args.flavour c.args.text.now) c.in-Ok.dependency read (λ (d : JsrDepPackageReq) o. answer (Ok d) o) (λ (fault : DependencyFault) o. answer (Err fault) o) in
    let json = rw (c.as_str.ensures.value, c.in_ok-normal.ensures, c.registry_name.ensures) at (c.into_json-json.ensures _ (c.put.ensures _ _ (c.put_text-2.ensures _ (c.put_text.ensures _ c.new.ensures)) c.package_json.ensures)) in
    by_value _ _ _ _ parsed _ (answered _ _ _ (c.in_ok-json_text.ensures (dependency_json c.in-Ok.dependency) (search rules) json))
