use Rattle.node_semver.proofs.Above.{all_above}
use Rattle.node_semver.proofs.laws.increments_are_above.Goals as goal

pub returns : goal.returns
returns c = all_above
