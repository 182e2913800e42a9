use Rattle.node_semver.proofs.Lowest.{majors_lowest, minors_lowest, patches_lowest}
use Rattle.node_semver.proofs.laws.next_releases_are_lowest.Goals as goal

pub returns-clause-major : goal.returns-clause-major
returns-clause-major c = majors_lowest

pub returns-clause-minor : goal.returns-clause-minor
returns-clause-minor c = minors_lowest

pub returns-clause-patch : goal.returns-clause-patch
returns-clause-patch c = patches_lowest
