use Rattle.std.proofs.Common.{◌≡◌, drop}
use Rattle.semver_base.specs.Intervals.{gaps_after}
use Rattle.semver_base.proofs.range.intervals.push_gaps.Given as goal

-- the gaps so far, and those that the rest leaves
abbrev pub invariant-loop-interval : goal.invariant-loop-interval
invariant-loop-interval l =
    gaps_after l.whole.high l.gaps.items l.from (drop l.interval-index l.sorted) ≡ gaps_after l.whole.high l.initial.gaps.items l.initial.from l.sorted
