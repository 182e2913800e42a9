use Rattle.std.proofs.Common.{◌≡◌, map, take}
use Rattle.semver_base.specs.declared.version.Version.{Version}
use Rattle.semver_req.specs.Requirement.{inner_means_with}
use Rattle.answers.specs.Filtering.{line_answer}
use Rattle.answers.proofs.filtering.list_matches.Given as goal

abbrev pub invariant-loop-line : goal.invariant-loop-line
invariant-loop-line l = l.answers.items ≡ map (line_answer (λ (v : Version). inner_means_with l.pre_release l.range.inner v)) (take l.line-index l.lines)
