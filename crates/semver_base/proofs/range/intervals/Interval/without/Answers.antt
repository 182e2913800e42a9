use Rattle.semver_base.proofs.Cuts.{parts_hold}
use Rattle.semver_base.proofs.range.intervals.Interval.without.Goals as goal

pub returns-clause-holds : goal.returns-clause-holds
returns-clause-holds c = λ v. rw (c.lower.ensures, c.higher.ensures) (parts_hold c.args.self c.args.other v)
