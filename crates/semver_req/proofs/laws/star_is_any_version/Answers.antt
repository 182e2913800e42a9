use Rattle.semver_req.proofs.Star.{star_any}
use Rattle.semver_req.proofs.laws.star_is_any_version.Goals as goal

pub returns : goal.returns
returns c = star_any
