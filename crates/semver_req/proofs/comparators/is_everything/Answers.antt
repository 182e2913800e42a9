use Rattle.semver_req.specs.Pieces.{normal, npm}
use Rattle.semver_req.proofs.comparators.is_everything.Goals as goal

pub returns-in-Npm : goal.returns-in-Npm
returns-in-Npm c = (λ yes. (rw c.in-Npm.is npm, c.is_all_whitespace.ensures.0 yes), λ h. c.is_all_whitespace.ensures.1 h.1)

pub returns-in-Normal : goal.returns-in-Normal
returns-in-Normal c = (λ yes. (rw c.in-Normal.is normal, c.is_all_whitespace-in-Normal.ensures.0 yes), λ h. c.is_all_whitespace-in-Normal.ensures.1 h.1)
