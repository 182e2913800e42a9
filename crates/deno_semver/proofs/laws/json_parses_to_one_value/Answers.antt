use Rattle.deno_semver.proofs.JsonOnce.{dependency_once, nv_once, package_once, reference_once, reqs_once, requirement_once}
use Rattle.deno_semver.proofs.laws.json_parses_to_one_value.Goals as goal

pub returns-clause-requirements : goal.returns-clause-requirements
returns-clause-requirements c = requirement_once c.texts_have_one_outcome.ensures

pub returns-clause-package_requirements : goal.returns-clause-package_requirements
returns-clause-package_requirements c = package_once c.package_texts_have_one_outcome.ensures

pub returns-clause-lists : goal.returns-clause-lists
returns-clause-lists c = reqs_once c.package_texts_have_one_outcome.ensures

pub returns-clause-names_with_versions : goal.returns-clause-names_with_versions
returns-clause-names_with_versions c = nv_once c.names_with_versions_have_one_outcome.ensures

pub returns-clause-references : goal.returns-clause-references
returns-clause-references c = reference_once c.version_references_have_one_outcome.ensures

pub returns-clause-dependencies : goal.returns-clause-dependencies
returns-clause-dependencies c = dependency_once c.dependencies_have_one_outcome.ensures
