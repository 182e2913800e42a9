use Rattle.std.proofs.Common.{◌∙◌}
use Rattle.semver_base.specs.declared.range.VersionBoundKind.TheVariants as kind
use Rattle.semver_base.proofs.Cuts.{start_after, start_before, start_is}
use Rattle.semver_base.proofs.range.intervals.Cut.of_start.Goals as goal

pub returns-in-Inclusive-clause-holds : goal.returns-in-Inclusive-clause-holds
returns-in-Inclusive-clause-holds c = λ v. rw c.at.ensures (start_before c.in-Version.bound.version v ∙ start_is c.args.start.now c.in-Version.bound kind.Inclusive c.in-Version.is c.in-Inclusive.is v)

pub returns-in-Exclusive-clause-holds : goal.returns-in-Exclusive-clause-holds
returns-in-Exclusive-clause-holds c = λ v. rw c.at-in-Exclusive.ensures (start_after c.in-Version.bound.version v ∙ start_is c.args.start.now c.in-Version.bound kind.Exclusive c.in-Version.is c.in-Exclusive.is v)
