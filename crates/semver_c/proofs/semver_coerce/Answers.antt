use Rattle.std.proofs.Common.{SFits, rules, w32}
use Rattle.std.proofs.lemmas.Int.{to_z-of_z}
use Rattle.semver_c.proofs.Replies.{replied}
use Rattle.semver_c.proofs.semver_coerce.Goals as goal

pub returns : goal.returns
returns c =
    let fits : SFits w32 c.report_lowest.result = search rules in
    rw (to_z-of_z w32 c.report_lowest.result fits) (replied _ _ c.coerced_of-answer.result c.coerced_of-answer.ensures _ _ c.args.out.now c.report_lowest.new.out c.report_lowest.new.needed c.report_lowest.result c.report_lowest.ensures)
