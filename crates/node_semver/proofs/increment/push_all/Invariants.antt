use Rattle.std.proofs.Common.{◌≡◌, ◌++◌, take}
use Rattle.node_semver.proofs.increment.push_all.Given as goal

-- what is appended so far
abbrev pub invariant-loop-identifier : goal.invariant-loop-identifier
invariant-loop-identifier l = l.pre ≡ l.initial.pre ++ take l.identifier-index l.identifiers
