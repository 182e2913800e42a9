use Rattle.std.proofs.Common.{SFits, rules, w32}
use Rattle.std.proofs.lemmas.Int.{to_z-of_z}
use Rattle.semver_c.proofs.Replies.{replied}
use Rattle.semver_c.proofs.semver_increment.Goals as goal

pub returns : goal.returns
returns c =
    let fits : SFits w32 c.report_text.result = search rules in
    rw (to_z-of_z w32 c.report_text.result fits) (replied _ _ c.increment_of-next.result c.increment_of-next.ensures _ _ c.args.out.now c.report_text.new.out c.report_text.new.needed c.report_text.result c.report_text.ensures)
