use Rattle.std.proofs.Common.{refl}
use Rattle.semver_base.proofs.Numbers.{strict_other}
use Rattle.semver_base.specs.TokenLaws.{strict_zero}
use Rattle.semver_base.proofs.lexical.number.Goals as goal

pub returns-in-Some : goal.returns-in-Some
returns-in-Some c = rw c.in-Strict.is (record { value = 0; longest = strict_zero c.args.text.now c.in-Some.rest.now c.in-Some.ensures; seen = refl })

pub returns-in-None : goal.returns-in-None
returns-in-None c = rw c.in-Strict.is (strict_other c.args.text.now c.loose_number-in-None.result c.in-None.ensures c.loose_number-in-None.ensures)
