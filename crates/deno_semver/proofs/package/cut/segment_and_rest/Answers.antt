use Rattle.deno_semver.proofs.PackageText.{at_slash, no_slash}
use Rattle.deno_semver.proofs.package.cut.segment_and_rest.Goals as goal

pub split_at-requires : goal.split_at-requires
split_at-requires c = c.in-Some.ensures.cases.3

pub returns-in-Some : goal.returns-in-Some
returns-in-Some c = at_slash c.args.text.now c.split_at.result.0.now c.split_at.result.1.now c.in-Some.at c.in-Some.ensures.cases c.split_at.ensures.front c.split_at.ensures.back

pub returns-in-None : goal.returns-in-None
returns-in-None c = no_slash c.args.text.now c.in-None.ensures.cases
