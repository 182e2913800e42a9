use Rattle.semver_base.proofs.SortKeys.{keys_ordered}
use Rattle.semver_base.proofs.laws.sort_keys_follow_precedence.Goals as goal

pub returns : goal.returns
returns c = keys_ordered
