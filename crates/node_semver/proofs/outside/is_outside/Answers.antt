use Rattle.std.proofs.Common.{rules}
use Rattle.node_semver.proofs.outside.is_outside.Goals as goal
use Rattle.node_semver.proofs.outside.is_outside.Goals.{in-Above, in-Below}

pub returns-clause-exact : goal.returns-clause-exact
returns-clause-exact c = elim c.match-side.branch [
  | in-Above w ↦ search rules
  | in-Below w ↦ search rules
]
