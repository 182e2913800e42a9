use Rattle.std.proofs.Common.{◌≡◌, map, take}
use Rattle.answers.specs.Sorting.{standing, standing_lines}
use Rattle.answers.proofs.sorting.sorted_lines.Given as goal

abbrev pub invariant-loop-place : goal.invariant-loop-place
invariant-loop-place l = map standing l.all.items ≡ standing_lines 0 (take l.place l.lines)
