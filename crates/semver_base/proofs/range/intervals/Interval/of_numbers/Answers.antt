use Rattle.semver_base.proofs.Cuts.{numbers_hold, some_listed}
use Rattle.semver_base.proofs.range.intervals.Interval.of_numbers.Goals as goal

pub returns-in-Version-clause-holds : goal.returns-in-Version-clause-holds
returns-in-Version-clause-holds c = λ v. rw (c.higher.ensures, c.lower.ensures, c.at-floor.ensures, c.at-ceiling.ensures, c.in-Version.is) (numbers_hold c.args.self _ v (some_listed c.is_empty.result c.in-Version.bound.version.pre c.is_empty.ensures.1 c.if-not-is_empty.true))
