use Rattle.std.proofs.Common.{◌≡◌, ◌∙◌, ◌++◌, ◌∷◌, [], IfOk, ap, map, refl, rules, string_bytes, sym, take}
use Rattle.std.specs.Str.{trim}
use Rattle.std.proofs.lemmas.List.{map-append, take_all, take_more}
use Rattle.serde_json.specs.Data.{array}
use Rattle.serde_json.specs.View.{items_of, view}
use Rattle.serde_json.proofs.Views.{view-Array}
use Rattle.answers.specs.Explained.{shown}
use Rattle.answers.specs.ExplainedJson.{comparator_json}
use Rattle.answers.proofs.explained_json.comparators_json.Goals as goal

pub loop-comparator-preserved : goal.loop-comparator-preserved
loop-comparator-preserved c =
    let l = c.loop-comparator in
    let comparator = c.comparator-item.result in
    let text : c.trim-text.result.now ≡ trim (string_bytes comparator.text) = search rules in
    let is : IfOk c.into_json-json.result (λ json. view json ≡ comparator_json (shown comparator)) =
    rw text at (c.into_json-json.ensures _ (c.put_text.ensures _ (c.put-in-loop-comparator.ensures _ _ (c.put.ensures _ _ c.new.ensures c.bound_json.ensures) c.bound_json-in-loop-comparator.ensures))) in
    let json : view c.in_ok-json.field-0 ≡ comparator_json (shown comparator) = rw c.in_ok-json.was at is in
    let before = take l.comparator-index c.args.comparators.now in
    let more = take_more c.args.comparators.now l.comparator-index comparator c.loop-comparator-test.true ∙ ap (λ t. before ++ t ∷ []) (sym c.comparator-item.is) in
    rw (more, map-append shown before (comparator ∷ []), map-append comparator_json (map shown before) (shown comparator ∷ []), c.in_ok-push.ensures.items, map-append view l.items.items (c.in_ok-json.field-0 ∷ []), l.invariant, json) refl

pub returns : goal.returns
returns c =
    let l = c.loop-comparator in
    let all = rw (take_all l.comparator-index c.args.comparators.now c.loop-comparator-test.false) at l.invariant in
    view-Array l.items ∙ ap (λ items. array (items_of items)) all
