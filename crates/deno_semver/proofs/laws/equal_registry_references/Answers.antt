use Rattle.semver_base.specs.Sameness.{reported_by}
use Rattle.deno_semver.specs.Sameness.{reference_reported}
use Rattle.deno_semver.proofs.laws.equal_registry_references.Goals as goal

pub returns : goal.returns
returns g c = reported_by _ _ c.eq.ensures (reference_reported c.args.one.now c.args.other.now)
