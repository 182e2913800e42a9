use Rattle.semver_req.proofs.Rereading.{equivalent_again}
use Rattle.semver_req.proofs.laws.normal_texts_are_equivalent.Goals as goal

pub returns : goal.returns
returns c = equivalent_again
