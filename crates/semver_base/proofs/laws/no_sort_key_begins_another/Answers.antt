use Rattle.semver_base.proofs.SortKeys.{keys_apart}
use Rattle.semver_base.proofs.laws.no_sort_key_begins_another.Goals as goal

pub returns : goal.returns
returns c = keys_apart
