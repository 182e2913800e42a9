use Rattle.std.proofs.Common.{ap, option_copied}
use Rattle.deno_semver.proofs.PackagePlaces.{no_parts, no_requirement, requirement_at}
use Rattle.deno_semver.proofs.package.cut.version_req_text.Goals as goal

pub returns-in_default-clause-none : goal.returns-in_default-clause-none
returns-in_default-clause-none c = no_parts c.in_default.field-0 c.in_default.ensures.uncut

pub returns-in_default-version-clause-none : goal.returns-in_default-version-clause-none
returns-in_default-version-clause-none c = no_requirement c.in-Ok.cut.tail.now c.in-Ok.cut.path.now c.in-Ok.ensures.cut (ap option_copied c.in_default-version.is)

pub returns-clause-requirement : goal.returns-clause-requirement
returns-clause-requirement c = requirement_at c.in-Ok.ensures.cut (ap option_copied c.in-Some.is)
