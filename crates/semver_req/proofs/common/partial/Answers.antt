use Rattle.std.proofs.Common.{rules, IsUtf8}
use Rattle.semver_req.proofs.Places.{seen_at, seen_reaches}
use Rattle.semver_req.proofs.common.partial.Goals as goal

pub returns-in-Some-clause-value : goal.returns-in-Some-clause-value
returns-in-Some-clause-value c =
    seen_at c.args.text.now c.in-Some.rest.now c.args.place c.requires.0 (rw (c.in-Some.is, c.range_from.ensures.value) at c.in_ok-value.ensures)

pub returns-in-Some-clause-reached : goal.returns-in-Some-clause-reached
returns-in-Some-clause-reached c =
    let is_text : IsUtf8 c.in-Some.rest.now = search rules in
    seen_reaches c.args.text.now c.in-Some.rest.now c.args.place c.requires.0 (rw (c.in-Some.is, c.range_from.ensures.value) at c.in_ok-value.ensures) is_text
