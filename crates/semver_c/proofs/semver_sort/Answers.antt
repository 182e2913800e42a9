use Rattle.std.proofs.Common.{SFits, rules, w32}
use Rattle.std.proofs.lemmas.Int.{to_z-of_z}
use Rattle.semver_c.proofs.Replies.{memory_code, placed_reply, replied, unplaced}
use Rattle.semver_c.proofs.semver_sort.Goals as goal

pub returns-clause-answer : goal.returns-clause-answer
returns-clause-answer c =
    let fits : SFits w32 c.report_places.result = search rules in
    rw (to_z-of_z w32 c.report_places.result fits) (replied _ _ c.sorted_lines-answer.result c.sorted_lines-answer.ensures _ _ c.args.places.now c.report_places.new.out c.report_places.new.needed c.report_places.result c.report_places.ensures.reported)

pub returns-clause-place : goal.returns-clause-place
returns-clause-place c =
    let fits : SFits w32 c.report_places.result = search rules in
    rw (to_z-of_z w32 c.report_places.result fits) (placed_reply _ _ c.sorted_lines-answer.result c.sorted_lines-answer.ensures _ c.args.place.now c.put_place.new.place c.report_places.result (memory_code _ _ c.sorted_lines-answer.result c.sorted_lines-answer.ensures _ _ c.args.places.now c.report_places.new.out c.report_places.new.needed c.report_places.result c.report_places.ensures.reported)
    (unplaced _ c.sorted_lines-answer.result c.args.place.now c.put_place.new.place c.put_place.ensures))
