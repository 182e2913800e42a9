use Rattle.std.proofs.Common.{take}
use Rattle.semver_req.specs.Resolve.{higher}
use Rattle.semver_req.specs.ResolveSteps.{IsKnown, known_of}
use Rattle.answers.specs.Outdated.{counts}
use Rattle.answers.proofs.outdated.highest.Given as goal

abbrev pub invariant-loop-place : goal.invariant-loop-place
invariant-loop-place l = IsKnown higher (counts l.pre_release l.range.inner) (take l.place l.versions) (known_of l.best)
