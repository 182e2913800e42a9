use Rattle.std.proofs.Common.{◌≡◌, true, take}
use Rattle.semver_base.specs.Intervals.{some_means}
use Rattle.semver_base.specs.Intervals.{flag_of, hold, is_of, AreWritableIntervals}
use Rattle.semver_base.specs.NormalText.{AreWritableRanges}
use Rattle.semver_base.specs.declared.version.Version.{Version}
use Rattle.semver_base.proofs.range.intervals.matched.Given as goal

-- the intervals hold what the ranges so far match
abbrev pub invariant-loop-range : goal.invariant-loop-range
invariant-loop-range l = ((v : Version) → is_of l.group v ≡ true → hold l.intervals.items v ≡ some_means (flag_of l.group) (take l.range-index l.ranges) v)
    × (AreWritableRanges l.ranges → AreWritableIntervals l.intervals.items)
