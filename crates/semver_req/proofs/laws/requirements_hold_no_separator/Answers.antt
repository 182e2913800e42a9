use Rattle.semver_req.proofs.WithoutSeparators.{set_separates, tag_separates}
use Rattle.semver_req.proofs.laws.requirements_hold_no_separator.Goals as goal

pub returns-clause-ranges : goal.returns-clause-ranges
returns-clause-ranges c = set_separates

pub returns-clause-tags : goal.returns-clause-tags
returns-clause-tags c = tag_separates
