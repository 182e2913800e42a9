use Rattle.std.proofs.Common.{SFits, rules, w32}
use Rattle.std.proofs.lemmas.Int.{to_z-of_z}
use Rattle.semver_c.proofs.Replies.{replied}
use Rattle.semver_c.proofs.semver_version_numbers.Goals as goal

pub returns-in-Ok-clause-answer : goal.returns-in-Ok-clause-answer
returns-in-Ok-clause-answer c =
    let fits : SFits w32 c.number.result = search rules in
    rw (to_z-of_z w32 c.number.result fits) (replied _ _ c.numbers_of.result c.numbers_of.ensures _ _ c.args.numbers.now c.put_items.new.out c.put_items.new.needed c.number.result (search rules))

pub returns-in-Err-clause-answer : goal.returns-in-Err-clause-answer
returns-in-Err-clause-answer c =
    let fits : SFits w32 c.number-in-Err.result = search rules in
    rw (to_z-of_z w32 c.number-in-Err.result fits) (replied _ _ c.numbers_of.result c.numbers_of.ensures _ _ c.args.numbers.now c.put_items-in-Err.new.out c.put_items-in-Err.new.needed c.number-in-Err.result (search rules))
