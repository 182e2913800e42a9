use Rattle.semver_req.proofs.Wider.{pieces_wider}
use Rattle.semver_req.proofs.laws.normalized_pieces_are_npms.Goals as goal

pub returns : goal.returns
returns c = pieces_wider
