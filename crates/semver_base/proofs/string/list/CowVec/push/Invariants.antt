use Rattle.std.proofs.Common.{◌≡◌, take}
use Rattle.semver_base.proofs.string.list.CowVec.push.Given as goal

abbrev pub invariant-loop-it : goal.invariant-loop-it
invariant-loop-it g l = l.items.items ≡ take l.it-index l.listed
