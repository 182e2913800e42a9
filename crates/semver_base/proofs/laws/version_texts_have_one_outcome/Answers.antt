use Rattle.semver_base.proofs.VersionReading.{one_outcome}
use Rattle.semver_base.proofs.laws.version_texts_have_one_outcome.Goals as goal

pub returns : goal.returns
returns c = one_outcome
