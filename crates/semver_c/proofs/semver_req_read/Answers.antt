use Rattle.std.proofs.Common.{SFits, rules, w32, ◌∙◌}
use Rattle.std.proofs.lemmas.Int.{to_z-of_z}
use Rattle.semver_req.specs.Requirement.{inner_text}
use Rattle.semver_c.proofs.Replies.{placed_text, replied}
use Rattle.semver_c.proofs.semver_req_read.Goals as goal

pub returns-in-Ok-clause-text : goal.returns-in-Ok-clause-text
returns-in-Ok-clause-text c =
    let fits : SFits w32 c.report_held.result = search rules in
    let placed = placed_text c.report_held.ensures (λ req. inner_text req.inner) c.in-Ok.read.range (c.as_str.ensures.value ∙ c.in-Ok.ensures.canonical) in
    rw (to_z-of_z w32 c.report_held.result fits) (replied _ _ c.read_range.result c.read_range.ensures.answer _ _ c.args.out.now c.report_held.new.out c.report_held.new.needed c.report_held.result (rw c.in-Ok.is placed))
