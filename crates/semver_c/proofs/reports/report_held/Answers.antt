use Rattle.std.proofs.Common.{SFits, rules, w32}
use Rattle.std.proofs.lemmas.Int.{to_z-of_z}
use Rattle.semver_c.specs.Held.{out_of_memory}
use Rattle.semver_c.proofs.reports.report_held.Goals as goal

pub returns-in-Err : goal.returns-in-Err
returns-in-Err c =
    let fits : SFits w32 c.report_problem.result = search rules in
    rw (to_z-of_z w32 c.report_problem.result fits) (out_of_memory _ (search rules) c.report_problem.ensures.message (search rules))
