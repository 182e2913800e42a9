use Rattle.std.proofs.Common.{take}
use Rattle.semver_req.specs.Requirement.{inner_means_with}
use Rattle.answers.specs.Filtering.{better_line, line_passes}
use Rattle.answers.proofs.BestLines.{known_line}
use Rattle.semver_req.specs.ResolveSteps.{IsKnown}
use Rattle.answers.proofs.filtering.list_best.Given as goal

abbrev pub invariant-loop-place : goal.invariant-loop-place
invariant-loop-place l = IsKnown (better_line l.end) (line_passes (λ v. inner_means_with l.pre_release l.range.inner v)) (take l.place l.lines) (known_line l.best)
