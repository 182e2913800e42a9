use Rattle.semver_base.proofs.WrittenVersions.{version_outcome}
use Rattle.semver_base.proofs.laws.version_texts_read_back.Goals as goal

pub returns : goal.returns
returns c = version_outcome
