use Rattle.semver_req.proofs.OneOutcome.{one_outcome}
use Rattle.semver_req.proofs.laws.texts_have_one_outcome.Goals as goal

pub returns : goal.returns
returns c = one_outcome
