use Rattle.std.proofs.Common.{SFits, rules, w32}
use Rattle.std.proofs.lemmas.Int.{to_z-of_z}
use Rattle.semver_c.proofs.Replies.{replied}
use Rattle.semver_c.proofs.semver_filter.Goals as goal

pub returns-clause-answer : goal.returns-clause-answer
returns-clause-answer c =
    let fits : SFits w32 c.report_filter.result = search rules in
    rw (to_z-of_z w32 c.report_filter.result fits) (replied _ _ c.filter-answer.result c.filter-answer.ensures _ _ c.args.answers.now c.report_filter.new.out c.report_filter.new.needed c.report_filter.result c.report_filter.ensures.reported)
