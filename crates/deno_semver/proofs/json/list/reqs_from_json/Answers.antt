use Rattle.std.proofs.Common.{rules, ◌≡◌, [], ◌∷◌, ◌++◌, Some, map, take_all}
use Rattle.serde_json.specs.Find.{as_array}
use Rattle.serde_json.specs.View.{items_of, view}
use Rattle.deno_semver.specs.Json.{IsStringOf, IsTextOfReq}
use Rattle.deno_semver.specs.StoredList.{AreEqualLists, IsJsonOfReqs, IsSortedFrom}
use Rattle.deno_semver.proofs.JsonReading.{array_items, exit_rejected, item_read, next_read}
use Rattle.deno_semver.proofs.StoredLists.{exit_memory, sorted_equal}
use Rattle.deno_semver.proofs.json.list.reqs_from_json.Goals as goal

pub loop-item-preserved : goal.loop-item-preserved
loop-item-preserved c =
    let l = c.loop-item in
    let pushed : c.push.new.self.items ≡ l.reqs.items ++ c.in_ok-req.req ∷ [] = search rules in
    next_read (IsStringOf IsTextOfReq) view c.as_slice-items.result.now l.item-index c.item-item.result l.reqs.items c.push.new.self.items c.in_ok-req.req c.loop-item-test.true c.item-item.is l.invariant c.in_ok-req.ensures.read c.in_ok-req.ensures.answer pushed

pub returns-in_err-req-clause-rejected : goal.returns-in_err-req-clause-rejected
returns-in_err-req-clause-rejected c =
    let json = view c.args.value.now in
    let items : Some (items_of (map view c.as_slice-items.result.now)) ≡ as_array json = search rules in
    exit_rejected IsJsonOfReqs json c.from_residual.result _ c.from_residual.ensures.1
    (λ reqs h.
    let this = item_read (IsStringOf IsTextOfReq) view c.as_slice-items.result.now c.loop-item.item-index c.item-item.result c.loop-item-test.true c.item-item.is json h.items reqs items h.is_array h.are_read in
    c.in_err-req.ensures.answer this.0 this.1)

pub returns-in_err-req-clause-answer : goal.returns-in_err-req-clause-answer
returns-in_err-req-clause-answer c reqs h =
    let json = view c.args.value.now in
    let items : Some (items_of (map view c.as_slice-items.result.now)) ≡ as_array json = search rules in
    let this = item_read (IsStringOf IsTextOfReq) view c.as_slice-items.result.now c.loop-item.item-index c.item-item.result c.loop-item-test.true c.item-item.is json h.items reqs items h.is_array h.are_read in
    exit_memory (λ read. IsSortedFrom reqs read.items) c.from_residual.result _ c.from_residual.ensures.1 (c.in_err-req.ensures.answer this.0 this.1)

pub returns-in_err-req-clause-again : goal.returns-in_err-req-clause-again
returns-in_err-req-clause-again c reqs sorted h =
    let json = view c.args.value.now in
    let items : Some (items_of (map view c.as_slice-items.result.now)) ≡ as_array json = search rules in
    let this = item_read (IsStringOf IsTextOfReq) view c.as_slice-items.result.now c.loop-item.item-index c.item-item.result c.loop-item-test.true c.item-item.is json h.parses_to.items h.again items h.parses_to.is_array h.parses_to.are_read in
    exit_memory (λ read. AreEqualLists read.items reqs) c.from_residual.result _ c.from_residual.ensures.1 (c.in_err-req.ensures.answer this.0 this.1)

pub returns-clause-again : goal.returns-clause-again
returns-clause-again c reqs h s =
    let values = c.as_slice-items.result.now in
    let items : Some (items_of (map view values)) ≡ as_array (view c.args.value.now) = search rules in
    let read = array_items (IsStringOf IsTextOfReq) view values (view c.args.value.now) s.parses_to.items s.again items s.parses_to.is_array s.parses_to.are_read in
    let same : s.again ≡ c.loop-item.reqs.items = c.loop-item.invariant.1 s.again (rw (take_all c.loop-item.item-index values c.loop-item-test.false) read) in
    let sorted : IsSortedFrom s.again c.sort.new.self.items = record { same = rw same c.in_ok-sort.ensures.permutation; ascending = search rules } in
    sorted_equal c.ascending_arrangements_tie.ensures reqs s.again c.sort.new.self.items h s.are_equal sorted
