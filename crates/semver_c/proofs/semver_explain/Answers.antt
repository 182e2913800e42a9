use Rattle.std.proofs.Common.{SFits, rules, string_bytes, w32}
use Rattle.std.proofs.lemmas.Int.{to_z-of_z}
use Rattle.answers.specs.Filtering.{list_answer}
use Rattle.semver_c.specs.Given.{text_given}
use Rattle.semver_c.proofs.Asking.{asked_of}
use Rattle.semver_c.proofs.Replies.{replied}
use Rattle.semver_c.proofs.semver_explain.Goals as goal

pub returns : goal.returns
returns c =
    let fits : SFits w32 c.report_text_or_tag.result = search rules in
    let answers = asked_of _ _ text_given (λ answer. list_answer string_bytes answer) _ c.with_text.result c.ask-answer.result c.with_text.ensures c.ask-answer.ensures (λ t found post. search rules) in
    rw (to_z-of_z w32 c.report_text_or_tag.result fits) (replied _ _ c.ask-answer.result answers _ _ c.args.out.now c.report_text_or_tag.new.out c.report_text_or_tag.new.needed c.report_text_or_tag.result c.report_text_or_tag.ensures)
