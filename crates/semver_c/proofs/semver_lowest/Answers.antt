use Rattle.std.proofs.Common.{SFits, ap, rules, w32, ◌∙◌}
use Rattle.std.proofs.lemmas.Int.{to_z-of_z}
use Rattle.semver_c.specs.Codes.{best_code, code_of}
use Rattle.semver_c.proofs.Replies.{coded_reply, placed_reply}
use Rattle.semver_c.proofs.semver_lowest.Goals as goal

pub returns-clause-code : goal.returns-clause-code
returns-clause-code c =
    let fits : SFits w32 c.report_best.result = search rules in
    rw (to_z-of_z w32 c.report_best.result fits) (coded_reply _ _ c.best_line-answer.result c.best_line-answer.ensures _ c.report_best.result c.report_best.ensures.code)

pub returns-clause-place : goal.returns-clause-place
returns-clause-place c =
    let fits : SFits w32 c.report_best.result = search rules in
    rw (to_z-of_z w32 c.report_best.result fits) (placed_reply _ _ c.best_line-answer.result c.best_line-answer.ensures _ c.args.place.now c.report_best.new.place c.report_best.result (λ none. c.report_best.ensures.code ∙ ap (code_of best_code) none) c.report_best.ensures.place)
