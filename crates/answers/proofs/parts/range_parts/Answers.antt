use Rattle.std.proofs.Common.{◌≡◌, ◌++◌, ◌∷◌, ◌∙◌, [], ap, map, refl, rules, sym, take}
use Rattle.std.proofs.lemmas.List.{map-append, take_all, take_more}
use Rattle.serde_json.specs.View.{items_of, view}
use Rattle.serde_json.specs.Data.{array}
use Rattle.serde_json.proofs.Views.{view-Array}
use Rattle.serde_json.specs.Written.{compact_text}
use Rattle.answers.specs.Parts.{range_json, ranges_answer, ranges_json}
use Rattle.answers.specs.declared.asking.Answer.TheVariants.{Value}
use Rattle.answers.proofs.JsonTexts.{ranges_no_float}
use Rattle.std.proofs.lemmas.Result.{err_from_is_err_and}
use Rattle.answers.specs.AskingLaws.{by_value, by_fault, answered}
use Rattle.answers.proofs.parts.range_parts.Goals as goal

pub returns-in_err-range : goal.returns-in_err-range
returns-in_err-range c =
    let p = err_from_is_err_and c.from_residual.result c.from_residual.ensures.1 in
    rw (p.1, p.2) (by_fault _ _ _ _ c.in_err-range.ensures.answer)

pub returns-in-Tag : goal.returns-in-Tag
returns-in-Tag c = by_value _ _ _ _ c.in_ok-range.ensures.answer _ (answered _ _ _ (search rules))

pub loop-range-preserved : goal.loop-range-preserved
loop-range-preserved c =
    let l = c.loop-range in
    let range = c.range-item.result in
    let taken = take l.range-index c.as_slice-range-items.result.now in
    let bounds : view c.in_ok-bounds-in-RangeSet.field-0 ≡ range_json range = c.in_ok-bounds-in-RangeSet.ensures _ (c.put-in-loop-range.ensures _ _ (c.put.ensures _ _ c.new.ensures c.bound_json.ensures) c.bound_json-in-loop-range.ensures) in
    let more = take_more c.as_slice-range-items.result.now l.range-index range c.loop-range-test.true ∙ ap (λ t. taken ++ t ∷ []) (sym c.range-item.is) in
    let pushed : c.push.new.self.items ≡ l.items.items ++ c.in_ok-bounds-in-RangeSet.field-0 ∷ [] = search rules in
    rw (more, map-append range_json taken (range ∷ []), pushed, map-append view l.items.items (c.in_ok-bounds-in-RangeSet.field-0 ∷ []), l.invariant, bounds) refl

pub returns : goal.returns
returns c =
    let l = c.loop-range in
    let ranges = c.as_slice-range-items.result.now in
    let all : map view l.items.items ≡ map range_json ranges = l.invariant ∙ ap (map range_json) (take_all l.range-index ranges c.loop-range-test.false) in
    let json = view-Array l.items ∙ ap (λ items. array (items_of items)) all in
    let text = c.in_ok-json_text-in-RangeSet.ensures (ranges_json ranges) (ranges_no_float ranges) json in
    let same : ranges_answer c.in_ok-range.range.inner ≡ Value (compact_text (ranges_json ranges)) = search rules in
    by_value _ _ _ _ c.in_ok-range.ensures.answer _ (answered _ _ _ (ap Value text ∙ sym same))
