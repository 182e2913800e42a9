use Rattle.deno_semver.proofs.PackageFaults.{outcome_one}
use Rattle.deno_semver.proofs.laws.package_texts_have_one_outcome.Goals as goal

pub returns : goal.returns
returns c f text o p h k = outcome_one c.texts_have_one_outcome.ensures o p h k
