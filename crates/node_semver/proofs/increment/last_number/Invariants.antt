use Rattle.std.proofs.Common.{◌≡◌, take}
use Rattle.node_semver.specs.Increment.{last_number}
use Rattle.node_semver.proofs.increment.last_number.Given as goal

abbrev pub invariant-loop-place : goal.invariant-loop-place
invariant-loop-place l = l.last ≡ last_number 0 (take l.place l.identifiers)
