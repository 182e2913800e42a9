use Rattle.std.proofs.Common.{SFits, ap, rules, w32, ◌≡◌, ◌∙◌}
use Rattle.std.proofs.lemmas.Int.{to_z-of_z}
use Rattle.semver_c.specs.Codes.{match_code, code_of, number_of}
use Rattle.semver_c.specs.Arguments.{call_outcome}
use Rattle.semver_c.specs.Given.{texts_given}
use Rattle.semver_c.proofs.Asking.{asked_of}
use Rattle.semver_c.proofs.Replies.{coded_reply, placed_reply, unplaced}
use Rattle.semver_c.proofs.semver_equivalent.Goals as goal

pub returns-clause-code : goal.returns-clause-code
returns-clause-code c =
    let is : number_of c.match-answer.code ≡ code_of match_code (call_outcome (λ x. x) c.ask-answer.result) = search rules in
    let fits : SFits w32 c.number.result = search rules in
    let answers = asked_of _ _ texts_given (λ x. x) _ c.with_texts.result c.ask-answer.result c.with_texts.ensures c.ask-answer.ensures (λ t found post. search rules) in
    rw (to_z-of_z w32 c.number.result fits) (coded_reply _ _ c.ask-answer.result answers _ c.number.result (c.number.ensures ∙ is))

pub returns-clause-place : goal.returns-clause-place
returns-clause-place c =
    let is : number_of c.match-answer.code ≡ code_of match_code (call_outcome (λ x. x) c.ask-answer.result) = search rules in
    let fits : SFits w32 c.number.result = search rules in
    let answers = asked_of _ _ texts_given (λ x. x) _ c.with_texts.result c.ask-answer.result c.with_texts.ensures c.ask-answer.ensures (λ t found post. search rules) in
    rw (to_z-of_z w32 c.number.result fits) (placed_reply _ _ c.ask-answer.result answers _ c.args.place.now c.put_place.new.place c.number.result (λ none. c.number.ensures ∙ is ∙ ap (code_of match_code) none)
    (unplaced _ c.ask-answer.result c.args.place.now c.put_place.new.place c.put_place.ensures))
