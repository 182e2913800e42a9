use Rattle.std.proofs.Common.{◌&&◌, take}
use Rattle.semver_base.specs.Intervals.{hold, is_of, AreWritableIntervals, IsFound}
use Rattle.semver_base.proofs.range.intervals.lowest.Given as goal

-- what the intervals so far hold
abbrev pub invariant-loop-interval : goal.invariant-loop-interval
invariant-loop-interval l = IsFound (λ v. is_of l.group v && hold (take l.interval-index l.intervals) v) (AreWritableIntervals l.intervals) l.found
