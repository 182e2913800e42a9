use Rattle.std.proofs.lemmas.Result.{IfOk-weaker}
use Rattle.package_answers.specs.Packages.{valid}
use Rattle.package_answers.proofs.PackagePlaces.{both, reported}
use Rattle.package_answers.proofs.packages.package_errors.Goals as goal

pub returns-in-Ok : goal.returns-in-Ok
returns-in-Ok c = IfOk-weaker c.range_errors.result _ _ (λ errors h. valid c.in-Ok.ensures.read h) c.range_errors.ensures

pub returns-in-Err : goal.returns-in-Err
returns-in-Err c =
    both c.errors_at.result _ _ _ c.errors_at.ensures.reported c.errors_at.ensures.errors
    (λ errors some are. reported c.in-Err.ensures.rejected c.parts_failure-failure.ensures some c.fault_place-place.result errors c.fault_place-place.ensures.place are)
