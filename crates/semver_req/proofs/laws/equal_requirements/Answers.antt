use Rattle.semver_base.specs.Sameness.{reported_by}
use Rattle.semver_req.specs.Sameness.{inner_reported}
use Rattle.semver_req.proofs.laws.equal_requirements.Goals as goal

pub returns : goal.returns
returns c = reported_by _ _ c.eq.ensures (inner_reported c.args.one.now.inner c.args.other.now.inner)
