use Rattle.std.proofs.Common.{take}
use Rattle.semver_req.specs.Requirement.{inner_means_with}
use Rattle.semver_req.specs.ResolveSteps.{IsKnown, known_of, nearer}
use Rattle.semver_req.proofs.resolve.first_best.Given as goal

abbrev pub invariant-loop-place : goal.invariant-loop-place
invariant-loop-place l = IsKnown (nearer l.end) (λ v. inner_means_with l.pre_release l.requirement.inner v) (take l.place l.versions) (known_of l.best)
