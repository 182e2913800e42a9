use Rattle.std.proofs.Common.{rules, IsUtf8}
use Rattle.semver_req.proofs.Places.{longest_at, longest_reaches}
use Rattle.semver_req.proofs.common.logical_and.Goals as goal

pub returns-clause-value : goal.returns-clause-value
returns-clause-value c =
    longest_at c.args.text.now c.in_ok-rest.rest.now c.args.place c.requires.0 (rw c.range_from.ensures.value at c.in_ok-rest.ensures)

pub returns-clause-reached : goal.returns-clause-reached
returns-clause-reached c =
    let is_text : IsUtf8 c.in_ok-rest.rest.now = search rules in
    longest_reaches c.args.text.now c.in_ok-rest.rest.now c.args.place c.requires.0 (rw c.range_from.ensures.value at c.in_ok-rest.ensures) is_text
