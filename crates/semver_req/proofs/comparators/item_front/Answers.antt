use Rattle.std.proofs.Common.{IsUtf8, arith, rules, ◌∙◌}
use Rattle.semver_req.proofs.ComparatorLists.{item_none, item_read}
use Rattle.semver_req.proofs.Places.{longest_reaches}
use Rattle.semver_req.proofs.ViableParts.{slice_front}
use Rattle.semver_req.proofs.comparators.item_front.Goals as goal

pub range-text-requires-clause-end_boundary : goal.range-text-requires-clause-end_boundary
range-text-requires-clause-end_boundary c =
    let front = rw c.in-Some.is at c.in_ok-written.ensures in
    let is_text : IsUtf8 c.in-Some.rest.now = search rules in
    longest_reaches c.args.text.now c.in-Some.rest.now 0 (omega arith) front.longest is_text

pub returns-in_default : goal.returns-in_default
returns-in_default c = item_none c.args.flavour (rw c.in_default.is at c.in_ok-written.ensures)

pub returns : goal.returns
returns c =
    let front = rw c.in-Some.is at c.in_ok-written.ensures in
    item_read c.args.flavour front (c.in_ok-parsed.ensures front.partial front.seen) (c.range-text.ensures.value ∙ slice_front c.args.text.now _)
