use Rattle.semver_base.proofs.SortKeyBytes.{keys_short}
use Rattle.semver_base.proofs.laws.sort_keys_are_short.Goals as goal

pub returns : goal.returns
returns c = keys_short
