use Rattle.std.proofs.Common.{◌≡◌, false, take}
use Rattle.semver_base.specs.Overlap.{some_overlap}
use Rattle.semver_base.proofs.range.VersionRangeSet.some_overlap.Given as goal

-- no range so far overlaps one of the other set
abbrev pub invariant-loop-range : goal.invariant-loop-range
invariant-loop-range l = some_overlap (take l.range-index l.self.0) l.other.0 ≡ false
