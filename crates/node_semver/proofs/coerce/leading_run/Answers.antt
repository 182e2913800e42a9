use Rattle.std.proofs.Common.{◌≡◌, ◌∙◌, Some, rules}
use Rattle.node_semver.specs.Coerce.{leading_release}
use Rattle.node_semver.proofs.Behind.{at_place, boundary, fits}
use Rattle.node_semver.proofs.Runs.{begins_all}
use Rattle.node_semver.proofs.coerce.leading_run.Goals as goal

pub overflow_sub-place : goal.overflow_sub-place
overflow_sub-place c =
    let leads : leading_release c.args.text.now ≡ Some (c.in-Some.version, c.in-Some.rest.now) = search rules in
    fits c.args.text.now c.in-Some.version c.in-Some.rest.now leads

pub range_from-requires : goal.range_from-requires
range_from-requires c =
    let leads : leading_release c.args.text.now ≡ Some (c.in-Some.version, c.in-Some.rest.now) = search rules in
    λ some. boundary c.args.text.now c.in-Some.version c.in-Some.rest.now leads c.utf8.text

pub returns-in_ok-qualifier-in-All : goal.returns-in_ok-qualifier-in-All
returns-in_ok-qualifier-in-All c =
    let leads : leading_release c.args.text.now ≡ Some (c.in-Some.version, c.in-Some.rest.now) = search rules in
    let middle = c.range_from.ensures.value ∙ at_place c.args.text.now c.in-Some.version c.in-Some.rest.now leads in
    rw c.in-All.is (begins_all leads (rw middle at c.in_ok-qualifier-in-All.ensures))
