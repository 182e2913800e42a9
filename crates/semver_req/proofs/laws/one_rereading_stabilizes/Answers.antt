use Rattle.semver_req.proofs.Rereading.{stabilizes, stable_by_text}
use Rattle.semver_req.proofs.laws.one_rereading_stabilizes.Goals as goal

pub returns-clause-stabilizes : goal.returns-clause-stabilizes
returns-clause-stabilizes c = stabilizes

pub returns-clause-by_text : goal.returns-clause-by_text
returns-clause-by_text c = stable_by_text
