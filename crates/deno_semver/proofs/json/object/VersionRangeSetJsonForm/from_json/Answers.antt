use Rattle.std.proofs.Common.{◌≡◌, Some, map, rules}
use Rattle.serde_json.specs.Find.{as_array}
use Rattle.serde_json.specs.View.{items_of, view}
use Rattle.deno_semver.specs.Json.{IsJsonOfRange, IsJsonOfSet}
use Rattle.deno_semver.proofs.JsonReading.{exit_answer, exit_rejected, item_read, next_read, only_none}
use Rattle.deno_semver.proofs.json.object.VersionRangeSetJsonForm.from_json.Goals as goal

pub loop-item-init : goal.loop-item-init
loop-item-init c = rw c.new-ranges.ensures (tt, only_none IsJsonOfRange)

pub loop-item-preserved : goal.loop-item-preserved
loop-item-preserved c =
    let l = c.loop-item in
    next_read IsJsonOfRange view c.as_slice-items.result.now l.item-index c.item-item.result l.ranges c.push.new.self c.in_ok-from_json.field-0 c.loop-item-test.true c.item-item.is l.invariant c.in_ok-from_json.ensures.read
    c.in_ok-from_json.ensures.answer c.in_ok-push.ensures.ok

pub returns-in_err-from_json-clause-rejected : goal.returns-in_err-from_json-clause-rejected
returns-in_err-from_json-clause-rejected c =
    let json = view c.args.value.now in
    let items : Some (items_of (map view c.as_slice-items.result.now)) ≡ as_array json = search rules in
    exit_rejected IsJsonOfSet json c.from_residual.result _ c.from_residual.ensures.1
    (λ x h.
    let this = item_read IsJsonOfRange view c.as_slice-items.result.now c.loop-item.item-index c.item-item.result c.loop-item-test.true c.item-item.is json h.items x.0 items h.is_array h.ranges in
    c.in_err-from_json.ensures.answer this.0 this.1)

pub returns-in_err-from_json-clause-answer : goal.returns-in_err-from_json-clause-answer
returns-in_err-from_json-clause-answer c x h =
    let json = view c.args.value.now in
    let items : Some (items_of (map view c.as_slice-items.result.now)) ≡ as_array json = search rules in
    let this = item_read IsJsonOfRange view c.as_slice-items.result.now c.loop-item.item-index c.item-item.result c.loop-item-test.true c.item-item.is json h.items x.0 items h.is_array h.ranges in
    exit_answer x c.from_residual.result _ c.from_residual.ensures.1 (c.in_err-from_json.ensures.answer this.0 this.1)
