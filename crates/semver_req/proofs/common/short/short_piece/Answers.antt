use Rattle.semver_req.proofs.ShortComparators.{comparator_piece}
use Rattle.semver_req.proofs.common.short.short_piece.Goals as goal

pub returns-in-Some : goal.returns-in-Some
returns-in-Some c = λ cuts. comparator_piece c.args.flavour cuts c.in-Some.ensures
