use Rattle.semver_req.proofs.OneReason.{one_reason}
use Rattle.semver_req.proofs.laws.texts_are_rejected_for_one_reason.Goals as goal

pub returns : goal.returns
returns c = one_reason
