use Rattle.std.proofs.Common.{SFits, rules, w32}
use Rattle.std.proofs.lemmas.Int.{to_z-of_z}
use Rattle.semver_c.proofs.Replies.{coded_reply}
use Rattle.semver_c.proofs.semver_req_fits.Goals as goal

pub returns-in-Ok-clause-code : goal.returns-in-Ok-clause-code
returns-in-Ok-clause-code c =
    let fits : SFits w32 c.number.result = search rules in
    rw (to_z-of_z w32 c.number.result fits) (coded_reply _ _ c.matches_held.result (rw c.range.ensures.range at c.matches_held.ensures) _ c.number.result (search rules))

pub returns-in-Err-clause-code : goal.returns-in-Err-clause-code
returns-in-Err-clause-code c =
    let fits : SFits w32 c.number-in-Err.result = search rules in
    rw (to_z-of_z w32 c.number-in-Err.result fits) (coded_reply _ _ c.matches_held.result (rw c.range.ensures.range at c.matches_held.ensures) _ c.number-in-Err.result (search rules))
