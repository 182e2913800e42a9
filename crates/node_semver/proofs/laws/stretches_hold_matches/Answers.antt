use Rattle.node_semver.proofs.Stretches.{stretches_hold_matches}
use Rattle.node_semver.proofs.laws.stretches_hold_matches.Goals as goal

pub returns : goal.returns
returns c = stretches_hold_matches
