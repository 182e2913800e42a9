use Rattle.deno_semver.proofs.PackageText.{at_last, no_at}
use Rattle.deno_semver.proofs.package.cut.name_and_version.Goals as goal

pub returns-in-Some : goal.returns-in-Some
returns-in-Some c = at_last c.args.last.now c.in-Some.name.now c.in-Some.version.now c.in-Some.ensures.cases

pub returns-in-None : goal.returns-in-None
returns-in-None c = no_at c.args.last.now c.in-None.ensures.cases
