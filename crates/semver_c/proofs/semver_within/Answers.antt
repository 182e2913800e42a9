use Rattle.std.proofs.Common.{SFits, rules, w32}
use Rattle.std.proofs.lemmas.Int.{to_z-of_z}
use Rattle.semver_c.specs.Given.{texts_given}
use Rattle.semver_c.proofs.Asking.{asked_of}
use Rattle.semver_c.proofs.Replies.{memory_code, placed_reply, replied, unplaced}
use Rattle.semver_c.proofs.semver_within.Goals as goal

pub returns-clause-answer : goal.returns-clause-answer
returns-clause-answer c =
    let fits : SFits w32 c.report_lowest.result = search rules in
    let answers = asked_of _ _ texts_given (λ x. x) _ c.with_texts.result c.ask-answer.result c.with_texts.ensures c.ask-answer.ensures (λ t found post. search rules) in
    rw (to_z-of_z w32 c.report_lowest.result fits) (replied _ _ c.ask-answer.result answers _ _ c.args.out.now c.report_lowest.new.out c.report_lowest.new.needed c.report_lowest.result c.report_lowest.ensures)

pub returns-clause-place : goal.returns-clause-place
returns-clause-place c =
    let fits : SFits w32 c.report_lowest.result = search rules in
    let answers = asked_of _ _ texts_given (λ x. x) _ c.with_texts.result c.ask-answer.result c.with_texts.ensures c.ask-answer.ensures (λ t found post. search rules) in
    rw (to_z-of_z w32 c.report_lowest.result fits) (placed_reply _ _ c.ask-answer.result answers _ c.args.place.now c.put_place.new.place c.report_lowest.result (memory_code _ _ c.ask-answer.result answers _ _ c.args.out.now c.report_lowest.new.out c.report_lowest.new.needed c.report_lowest.result c.report_lowest.ensures)
    (unplaced _ c.ask-answer.result c.args.place.now c.put_place.new.place c.put_place.ensures))
