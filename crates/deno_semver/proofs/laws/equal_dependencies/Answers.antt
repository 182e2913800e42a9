use Rattle.semver_base.specs.Sameness.{reported_by}
use Rattle.deno_semver.specs.Sameness.{dependency_reported}
use Rattle.deno_semver.proofs.laws.equal_dependencies.Goals as goal

pub returns : goal.returns
returns c = reported_by _ _ c.eq.ensures (dependency_reported c.args.one.now c.args.other.now)
