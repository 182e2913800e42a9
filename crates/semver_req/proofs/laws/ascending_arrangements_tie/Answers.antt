use Rattle.semver_req.proofs.ListOrder.{sorted_ties}
use Rattle.semver_req.proofs.laws.ascending_arrangements_tie.Goals as goal

pub returns : goal.returns
returns g c = λ R total. sorted_ties R total
