use Rattle.std.proofs.Common.{SFits, rules, string_bytes, w32}
use Rattle.std.proofs.lemmas.Int.{to_z-of_z}
use Rattle.semver_c.proofs.Asking.{asked_of}
use Rattle.semver_c.proofs.Replies.{replied}
use Rattle.semver_c.proofs.semver_key.Goals as goal

pub returns : goal.returns
returns c =
    let fits : SFits w32 c.report_text.result = search rules in
    let answers = asked_of _ _ (λ text. text.now) string_bytes _ c.text_of.result c.ask-answer.result c.text_of.ensures c.ask-answer.ensures (λ t found post. search rules) in
    rw (to_z-of_z w32 c.report_text.result fits) (replied _ _ c.ask-answer.result answers _ _ c.args.out.now c.report_text.new.out c.report_text.new.needed c.report_text.result c.report_text.ensures)
