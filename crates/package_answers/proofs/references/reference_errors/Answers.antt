use Rattle.std.proofs.Common.{◌≡◌, ◌∙◌, ◌++◌, ℕ, List, Err, MatchOption, ap, arith}
use Rattle.std.proofs.lemmas.Result.{IfOk-weaker}
use Rattle.semver_req.specs.declared.common.values.Flavour.TheVariants.{Specifier}
use Rattle.deno_semver.specs.Kind.{scheme_of}
use Rattle.deno_semver.specs.PackageOutcome.{BadVersion}
use Rattle.deno_semver.specs.ReferenceOutcome.{BadText, IsReferenceOutcome, ReferenceFault, ReportsReference, unboxed}
use Rattle.deno_semver.specs.declared.package.values.PackageKind.{PackageKind}
use Rattle.deno_semver.specs.CutLaws.{none_passes}
use Rattle.package_answers.specs.References as at
use Rattle.package_answers.specs.References.{IsReferenceFaultAt}
use Rattle.package_answers.proofs.PackagePlaces.{at_last, both}
use Rattle.package_answers.proofs.ReferencePlaces.{behind, body_is, has_bad_text, has_version, lacks_scheme, no_memory, no_version, read, reported}
use Rattle.package_answers.proofs.references.reference_errors.Goals as goal
use Rattle.package_answers.proofs.references.reference_errors.Goals.{in-NotExpectedScheme, in-Invalid+in-Some, in-Invalid+in-None, in-InvalidPathWithVersion+in-Some-rsplit_once, in-InvalidPathWithVersion+in-None-rsplit_once, in-Memory}

pub returns-in-Ok : goal.returns-in-Ok
returns-in-Ok c =
    let text = c.args.text.now in
    let kind = c.registry_of-kind.result in
    let body = c.unwrap_or-body.result.now in
    let is : (b : List ℕ) → text ≡ scheme_of kind ++ b → body ≡ b = rw c.unwrap_or-body.ensures (body_is kind text c.after_scheme.result _ c.after_scheme.ensures) in
    IfOk-weaker c.range_errors.result _ _ (λ errors h. read kind text body is c.registry_of-kind.ensures c.in-Ok._reference errors c.in-Ok.ensures.read h) c.range_errors.ensures

pub returns-after-error : goal.returns-after-error
returns-after-error c =
    let text = c.args.text.now in
    let kind = c.registry_of-kind.result in
    let body = c.unwrap_or-body.result.now in
    let e = c.in-Err.error in
    let is : (b : List ℕ) → text ≡ scheme_of kind ++ b → body ≡ b = rw c.unwrap_or-body.ensures (body_is kind text c.after_scheme.result _ c.after_scheme.ensures) in
    let place : (k : PackageKind) (fault : ReferenceFault) → IsReferenceOutcome k text (Err fault) → ReportsReference k text fault e → ((b : List ℕ) → text ≡ scheme_of k ++ b → body ≡ b)
    → MatchOption c.match-error.place ((version : List ℕ) × (fault ≡ BadText (BadVersion version))) (λ at. IsReferenceFaultAt text fault at.1 at.0) = λ k fault o h b. elim c.match-error.branch [
      | in-NotExpectedScheme w ↦ rw (w.place-is, lacks_scheme k text e fault w.in-NotExpectedScheme.field-0 h (ap unboxed w.in-NotExpectedScheme.is)) at.no_scheme
      | in-Invalid+in-Some w ↦
          let bad = has_bad_text k text e fault w.in-Invalid.error.value h (ap unboxed w.in-Invalid.is) in
          rw w.place-is (behind k text body b fault bad.1 o (w.in-Some.ensures.place Specifier bad.0 (rw w.deref.ensures bad.2)))
      | in-Invalid+in-None w ↦
          let bad = has_bad_text k text e fault w.in-Invalid.error.value h (ap unboxed w.in-Invalid.is) in
          let version = w.in-None.ensures.place Specifier bad.0 (rw w.deref.ensures bad.2) in
          rw w.place-is (version.0, bad.1 ∙ ap BadText version.1)
      | in-InvalidPathWithVersion+in-Some-rsplit_once w ↦
          let parts = at_last text w.in-Some-rsplit_once.path.now w.in-Some-rsplit_once._version.now w.in-Some-rsplit_once.ensures.cases in
          let is = has_version k text e fault w.in-InvalidPathWithVersion.field-0.value h (ap unboxed w.in-InvalidPathWithVersion.is) in
          rw (w.place-is, is.2) (at.at_version w.in-Some-rsplit_once.path.now w.in-Some-rsplit_once._version.now parts.0 parts.1)
      | in-InvalidPathWithVersion+in-None-rsplit_once w ↦
          let is = has_version k text e fault w.in-InvalidPathWithVersion.field-0.value h (ap unboxed w.in-InvalidPathWithVersion.is) in
          absurd (no_version (rw is.2 at o) (none_passes 64 text (omega arith) w.in-None-rsplit_once.ensures.cases))
      | in-Memory w ↦ absurd (no_memory k text e fault h (ap unboxed w.in-Memory.is))
    ] in
    both c.errors_at.result _ _ _ c.errors_at.ensures.reported c.errors_at.ensures.errors
    (λ errors some are. reported kind text body is c.registry_of-kind.ensures e c.reference_failure-failure.result c.in-Err.ensures.rejected c.reference_failure-failure.ensures some c.match-error.place errors place are)
