use Rattle.deno_semver.proofs.JsonOnce.{range_once, set_once, version_once}
use Rattle.deno_semver.proofs.laws.json_parses_to_one_range.Goals as goal

pub returns-clause-versions : goal.returns-clause-versions
returns-clause-versions c = version_once c.version_texts_have_one_outcome.ensures

pub returns-clause-ranges : goal.returns-clause-ranges
returns-clause-ranges c = range_once c.version_texts_have_one_outcome.ensures

pub returns-clause-sets : goal.returns-clause-sets
returns-clause-sets c = set_once c.version_texts_have_one_outcome.ensures
