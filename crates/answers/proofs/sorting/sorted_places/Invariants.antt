use Rattle.std.proofs.Common.{◌≡◌, map, take}
use Rattle.answers.specs.Sorting.{standing, standing_from}
use Rattle.answers.proofs.sorting.sorted_places.Given as goal

abbrev pub invariant-loop-place : goal.invariant-loop-place
invariant-loop-place l = map standing l.all.items ≡ standing_from 0 (take l.place l.listed)
