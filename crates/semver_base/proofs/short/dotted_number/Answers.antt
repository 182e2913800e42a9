use Rattle.semver_base.proofs.ShortTexts.{no_number_behind}
use Rattle.semver_base.proofs.short.dotted_number.Goals as goal

pub returns-in-46-clause-none : goal.returns-in-46-clause-none
returns-in-46-clause-none c = no_number_behind c.args.bytes.now c.number.result c.number.ensures.none
