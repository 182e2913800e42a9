use Rattle.std.proofs.Common.{drop}
use Rattle.node_semver.proofs.Runs.{LastSoFar}
use Rattle.node_semver.proofs.coerce.last_run.Given as goal

-- the last one so far, and those to come
abbrev pub invariant-loop-place : goal.invariant-loop-place
invariant-loop-place l = LastSoFar l.parts l.text l.after_digit (drop l.place l.text) l.last
