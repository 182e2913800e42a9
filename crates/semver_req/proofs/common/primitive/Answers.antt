use Rattle.std.proofs.Common.{rules, IsUtf8}
use Rattle.semver_base.specs.GrammarLaws.{joined_none_first}
use Rattle.semver_req.proofs.Places.{seen_at, seen_reaches}
use Rattle.semver_req.proofs.PrimitiveKinds.{primitive_none, primitive_read}
use Rattle.semver_req.proofs.common.primitive.Goals as goal

pub returns-in_default-clause-value : goal.returns-in_default-clause-value
returns-in_default-clause-value c = joined_none_first (rw c.range_from.ensures.value at c.in_default.ensures)

pub returns-in_default-2-clause-value : goal.returns-in_default-2-clause-value
returns-in_default-2-clause-value c = primitive_none c.args.flavour (rw c.range_from.ensures.value at c.in-Some.ensures) c.after_whitespace.ensures (rw c.in_default-2.is at c.in_ok-partial.ensures)

pub returns-in-Fits-clause-value : goal.returns-in-Fits-clause-value
returns-in-Fits-clause-value c =
    seen_at c.args.text.now c.in-Some-2.rest.now c.args.place c.requires.0
    (primitive_read c.args.flavour (rw c.range_from.ensures.value at c.in-Some.ensures) c.after_whitespace.ensures (rw (c.in-Some-2.is, c.in-Fits.is) at c.in_ok-partial.ensures))

pub returns-in-Fits-clause-reached : goal.returns-in-Fits-clause-reached
returns-in-Fits-clause-reached c =
    let is_text : IsUtf8 c.in-Some-2.rest.now = search rules in
    seen_reaches c.args.text.now c.in-Some-2.rest.now c.args.place c.requires.0
    (primitive_read c.args.flavour (rw c.range_from.ensures.value at c.in-Some.ensures) c.after_whitespace.ensures (rw c.in-Some-2.is at c.in_ok-partial.ensures))
    is_text

pub returns-in-TooLarge-clause-value : goal.returns-in-TooLarge-clause-value
returns-in-TooLarge-clause-value c =
    seen_at c.args.text.now c.in-Some-2.rest.now c.args.place c.requires.0
    (primitive_read c.args.flavour (rw c.range_from.ensures.value at c.in-Some.ensures) c.after_whitespace.ensures (rw (c.in-Some-2.is, c.in-TooLarge.is) at c.in_ok-partial.ensures))

pub returns-in-TooLarge-clause-reached : goal.returns-in-TooLarge-clause-reached
returns-in-TooLarge-clause-reached c =
    let is_text : IsUtf8 c.in-Some-2.rest.now = search rules in
    seen_reaches c.args.text.now c.in-Some-2.rest.now c.args.place c.requires.0
    (primitive_read c.args.flavour (rw c.range_from.ensures.value at c.in-Some.ensures) c.after_whitespace.ensures (rw c.in-Some-2.is at c.in_ok-partial.ensures))
    is_text
