use Rattle.std.proofs.Common.{SFits, rules, w32}
use Rattle.std.proofs.lemmas.Int.{to_z-of_z}
use Rattle.semver_c.proofs.Replies.{memory_code, placed_reply, replied, unplaced}
use Rattle.semver_c.proofs.semver_simplify.Goals as goal

pub returns-clause-answer : goal.returns-clause-answer
returns-clause-answer c =
    let r = c.report_text_or_tag in
    let fits : SFits w32 r.result = search rules in
    rw (to_z-of_z w32 r.result fits) (replied _ _ c.simplified_of-answer.result c.simplified_of-answer.ensures _ _ c.args.out.now r.new.out r.new.needed r.result r.ensures)

pub returns-clause-place : goal.returns-clause-place
returns-clause-place c =
    let answer = c.simplified_of-answer in
    let r = c.report_text_or_tag in
    let fits : SFits w32 r.result = search rules in
    rw (to_z-of_z w32 r.result fits) (placed_reply _ _ answer.result answer.ensures _ c.args.place.now c.put_place.new.place r.result (memory_code _ _ answer.result answer.ensures _ _ c.args.out.now r.new.out r.new.needed r.result r.ensures)
    (unplaced _ answer.result c.args.place.now c.put_place.new.place c.put_place.ensures))
