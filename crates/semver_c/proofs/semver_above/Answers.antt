use Rattle.std.proofs.Common.{SFits, rules, w32}
use Rattle.std.proofs.lemmas.Int.{to_z-of_z}
use Rattle.semver_c.specs.Given.{texts_given}
use Rattle.semver_c.proofs.Asking.{asked_of}
use Rattle.semver_c.proofs.Replies.{replied}
use Rattle.semver_c.proofs.semver_above.Goals as goal

pub returns : goal.returns
returns c =
    let fits : SFits w32 c.report_match.result = search rules in
    let answers = asked_of _ _ texts_given (λ x. x) _ c.with_texts.result c.ask-answer.result c.with_texts.ensures c.ask-answer.ensures (λ t found post. search rules) in
    rw (to_z-of_z w32 c.report_match.result fits) (replied _ _ c.ask-answer.result answers _ _ c.args.out.now c.report_match.new.out c.report_match.new.needed c.report_match.result c.report_match.ensures)
