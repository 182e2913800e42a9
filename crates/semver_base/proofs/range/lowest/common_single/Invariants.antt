use Rattle.std.proofs.Common.{◌≡◌, true, take}
use Rattle.semver_base.specs.Intervals.{all_match, flag_of, is_of, is_within, AreWritableSets, IsWritableInterval}
use Rattle.semver_base.specs.NormalText.{AreWritableRanges}
use Rattle.semver_base.specs.declared.version.Version.{Version}
use Rattle.semver_base.proofs.range.lowest.common_single.Given as goal

-- what the own range and the sets so far hold
abbrev pub invariant-loop-set : goal.invariant-loop-set
invariant-loop-set l =
    ((v : Version) → is_of l.group v ≡ true → is_within l.common v ≡ all_match (flag_of l.group) l.question.own.now v (take l.set-index l.question.others.now))
    × (AreWritableRanges l.question.own.now → AreWritableSets l.question.others.now → IsWritableInterval l.common)
