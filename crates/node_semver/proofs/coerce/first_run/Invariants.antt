use Rattle.std.proofs.Common.{drop}
use Rattle.node_semver.proofs.Runs.{FirstSoFar}
use Rattle.node_semver.proofs.coerce.first_run.Given as goal

-- no version began so far
abbrev pub invariant-loop-place : goal.invariant-loop-place
invariant-loop-place l = FirstSoFar l.parts l.text l.after_digit (drop l.place l.text)
