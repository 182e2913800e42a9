use Rattle.std.proofs.Common.{◌++◌, take, codes, flat_map}
use Rattle.std.specs.Fmt.{HasWritten, IsPlainFormatter}
use Rattle.semver_base.specs.NormalText.{range_text}
use Rattle.semver_base.proofs.range.display.VersionRangeSetDisplay.fmt.Given as goal

-- what is printed so far
abbrev pub invariant-loop-range : goal.invariant-loop-range
invariant-loop-range g l =
    IsPlainFormatter l.initial.f → HasWritten g.W.Write.write_str_gives l.initial.f (flat_map (λ range. codes " || " ++ range_text range) (take l.range-index l.others)) l.f
