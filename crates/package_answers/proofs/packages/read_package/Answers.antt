use Rattle.std.proofs.Common.{◌≡◌, Ok, Err, None, ap}
use Rattle.deno_semver.specs.PackageOutcome.{PackageFault, IsOutOfMemory, IsPackageOutcome, ReportsFault}
use Rattle.deno_semver.specs.declared.package.values.PackageReq.{PackageReq}
use Rattle.answers.specs.declared.asking.Kind.TheVariants as kinds
use Rattle.answers.specs.ReadingLaws.{fault_read, value_read}
use Rattle.package_answers.specs.Packages.{ShowsPackageFault, parts_failure}
use Rattle.package_answers.proofs.Outcomes.{none_shown}
use Rattle.package_answers.proofs.Reasons.{package_reason, shown_as}
use Rattle.package_answers.proofs.packages.read_package.Goals as goal

pub returns-in-Ok : goal.returns-in-Ok
returns-in-Ok c =
    value_read kinds.Package 0 (IsPackageOutcome c.args.flavour c.args.text.now) (ShowsPackageFault c.args.flavour) c.in-Ok.req c.in-Ok.ensures.read (λ (r : PackageReq) o. c.in-Ok.ensures.answer (Ok r) o)
    (λ (fault : PackageFault) o. c.in-Ok.ensures.answer (Err fault) o)

pub returns-in-Err : goal.returns-in-Err
returns-in-Err c =
    let f = c.args.flavour in
    let text = c.args.text.now in
    let e = c.in-Err.error in
    let failure = c.parts_failure-failure.result in
    let none : IsOutOfMemory e → failure ≡ None = λ m. none_shown failure (parts_failure e.source) c.parts_failure-failure.ensures (ap parts_failure m.source) in
    rw c.of.ensures (fault_read kinds.Package 0 (IsPackageOutcome f text) (ShowsPackageFault f) failure none
    (λ (fault : PackageFault) (r : ReportsFault f fault text e). shown_as failure (parts_failure e.source) c.parts_failure-failure.ensures (λ is. (e.source, r.source, is)))
    (package_reason c.texts_are_rejected_for_one_reason.ensures f) c.in-Err.ensures.rejected (λ (r : PackageReq) o. c.in-Err.ensures.answer (Ok r) o) (λ (fault : PackageFault) o. c.in-Err.ensures.answer (Err fault) o))
