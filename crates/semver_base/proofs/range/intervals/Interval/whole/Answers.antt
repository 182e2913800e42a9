use Rattle.semver_base.proofs.LowestFirst.{whole_is}
use Rattle.semver_base.proofs.range.intervals.Interval.whole.Goals as goal

pub returns : goal.returns
returns c = rw (c.at.ensures, c.at-2.ensures) (whole_is c.args.zero c.requires)
