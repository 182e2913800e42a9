use Rattle.semver_req.proofs.Rereading.{rereadings}
use Rattle.semver_req.proofs.laws.normal_texts_keep_their_meaning.Goals as goal

pub returns : goal.returns
returns c = rereadings
