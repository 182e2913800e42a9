use Rattle.semver_base.proofs.VersionBytes.{version_bare}
use Rattle.semver_base.proofs.laws.version_texts_are_bare.Goals as goal

pub returns : goal.returns
returns c = version_bare
