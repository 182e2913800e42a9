use Rattle.deno_semver.proofs.NvReferences.{nv_reference_one}
use Rattle.deno_semver.proofs.laws.version_references_have_one_outcome.Goals as goal

pub returns : goal.returns
returns c kind text o p h k = nv_reference_one c.version_texts_have_one_outcome.ensures kind o p h k
