use Rattle.deno_semver.proofs.Dependencies.{dependency_one}
use Rattle.deno_semver.proofs.laws.dependencies_have_one_outcome.Goals as goal

pub returns : goal.returns
returns c f text o p h k = dependency_one c.package_texts_have_one_outcome.ensures o p h k
