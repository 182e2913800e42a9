use Rattle.std.proofs.Common.{◌≡◌, true, not, take}
use Rattle.semver_base.specs.Intervals.{all_match, flag_of, hold, is_of, AreWritableIntervals, AreWritableSets}
use Rattle.semver_base.specs.NormalText.{AreWritableRanges}
use Rattle.semver_base.specs.declared.version.Version.{Version}
use Rattle.semver_base.proofs.range.lowest.left_out.Given as goal

-- what the own ranges or some set so far don't match
abbrev pub invariant-loop-set : goal.invariant-loop-set
invariant-loop-set l =
    ((v : Version) → is_of l.group v ≡ true → hold l.out.items v ≡ not (all_match (flag_of l.group) l.question.own.now v (take l.set-index l.question.others.now)))
    × (AreWritableRanges l.question.own.now → AreWritableSets l.question.others.now → AreWritableIntervals l.out.items)
