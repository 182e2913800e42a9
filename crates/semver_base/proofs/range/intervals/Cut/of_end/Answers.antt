use Rattle.std.proofs.Common.{◌∙◌}
use Rattle.semver_base.specs.declared.range.VersionBoundKind.TheVariants as kind
use Rattle.semver_base.proofs.Cuts.{end_after, end_before, end_is}
use Rattle.semver_base.proofs.range.intervals.Cut.of_end.Goals as goal

pub returns-in-Inclusive-clause-holds : goal.returns-in-Inclusive-clause-holds
returns-in-Inclusive-clause-holds c = λ v. rw c.at.ensures (end_after c.in-Version.bound.version v ∙ end_is c.args.end.now c.in-Version.bound kind.Inclusive c.in-Version.is c.in-Inclusive.is v)

pub returns-in-Exclusive-clause-holds : goal.returns-in-Exclusive-clause-holds
returns-in-Exclusive-clause-holds c = λ v. rw c.at-in-Exclusive.ensures (end_before c.in-Version.bound.version v ∙ end_is c.args.end.now c.in-Version.bound kind.Exclusive c.in-Version.is c.in-Exclusive.is v)
