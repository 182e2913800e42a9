use Rattle.semver_req.proofs.Operators.{non_primitive_none, non_primitive_some}
use Rattle.semver_req.proofs.common.comparator.non_primitive_front.Goals as goal

pub returns-in-Some : goal.returns-in-Some
returns-in-Some c = non_primitive_some c.args.flavour c.split_operator-operator.result.0 c.split_operator-operator.ensures (rw c.in-Some.is at c.in_ok-partial.ensures)

pub returns-in-None : goal.returns-in-None
returns-in-None c = non_primitive_none c.args.flavour c.split_operator-operator.result.0 c.split_operator-operator.ensures (rw c.in-None.is at c.in_ok-partial.ensures)
