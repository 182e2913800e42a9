use Rattle.deno_semver.proofs.NameAndVersion.{nv_outcome_one}
use Rattle.deno_semver.proofs.laws.names_with_versions_have_one_outcome.Goals as goal

pub returns : goal.returns
returns c text o p h k = nv_outcome_one c.version_texts_have_one_outcome.ensures o p h k
