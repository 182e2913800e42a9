use Rattle.semver_base.proofs.Cuts.{meet_holds}
use Rattle.semver_base.proofs.range.intervals.Interval.meet.Goals as goal

pub returns-clause-holds : goal.returns-clause-holds
returns-clause-holds c = λ v. rw (c.higher.ensures, c.lower.ensures) (meet_holds c.args.self c.args.other v)
