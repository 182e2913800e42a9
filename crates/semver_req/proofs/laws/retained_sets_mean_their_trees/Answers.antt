use Rattle.semver_req.proofs.Folding.{retained_means}
use Rattle.semver_req.proofs.laws.retained_sets_mean_their_trees.Goals as goal

pub returns : goal.returns
returns c = retained_means
