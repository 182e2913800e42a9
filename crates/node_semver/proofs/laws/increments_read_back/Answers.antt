use Rattle.node_semver.proofs.Written.{all_read_back}
use Rattle.node_semver.proofs.laws.increments_read_back.Goals as goal

pub returns : goal.returns
returns c = all_read_back c.version_texts_read_back.ensures
