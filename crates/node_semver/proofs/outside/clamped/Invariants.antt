use Rattle.std.proofs.Common.{◌≡◌, map, take}
use Rattle.semver_base.specs.Clamp.{clamped}
use Rattle.node_semver.proofs.outside.clamped.Given as goal

abbrev pub invariant-loop-own : goal.invariant-loop-own
invariant-loop-own l = l.inside ≡ map (λ own. clamped own l.range) (take l.own-index l.own-items)
