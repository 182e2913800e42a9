use Rattle.semver_req.proofs.BestMatches.{one_walk_finds}
use Rattle.semver_req.proofs.laws.one_walk_finds_the_best.Goals as goal

pub returns : goal.returns
returns g c = λ near ranks means. one_walk_finds near ranks means
