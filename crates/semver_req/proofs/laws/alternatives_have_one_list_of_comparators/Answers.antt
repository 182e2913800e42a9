use Rattle.semver_req.proofs.ComparatorLists.{one_list}
use Rattle.semver_req.proofs.laws.alternatives_have_one_list_of_comparators.Goals as goal

pub returns : goal.returns
returns c = one_list
