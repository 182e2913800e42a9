use Rattle.std.proofs.Common.{◌≡◌, ◌∙◌, ◌++◌, ◌∷◌, [], IfOk, ap, map, refl, rules, string_bytes, sym, take}
use Rattle.std.specs.Str.{trim}
use Rattle.std.proofs.lemmas.List.{map-append, take_all, take_more}
use Rattle.serde_json.specs.Data.{array}
use Rattle.serde_json.specs.View.{items_of, view}
use Rattle.serde_json.proofs.Views.{view-Array}
use Rattle.answers.specs.ExplainedJson.{alternative_json}
use Rattle.answers.proofs.explained_json.ranges_explained.Goals as goal
use Rattle.answers.proofs.explained_json.ranges_explained.Goals.{in-Range, in-LeftOut}

pub loop-piece-preserved : goal.loop-piece-preserved
loop-piece-preserved c =
    let l = c.loop-piece in
    let flag = c.args.pre_release in
    let piece = c.piece-item.result in
    let text : c.trim-text.result.now ≡ trim (string_bytes piece.text) = search rules in
    let is : IfOk c.match-piece.alternative (λ json. view json ≡ alternative_json flag piece) = elim c.match-piece.branch [
      | in-Range w ↦ rw (w.alternative-is, w.in-Range.is) (rw (text, w.as_slice-comparators.ensures.value) at w.matches_json-alternative.ensures)
      | in-LeftOut w ↦ rw (w.alternative-is, w.in-LeftOut.is) (rw text at (w.into_json-alternative.ensures _ (w.put_text.ensures _ (w.put.ensures _ _ w.new.ensures w.error_json.ensures))))
    ] in
    let json : view c.in_ok-alternative.field-0 ≡ alternative_json flag piece = rw c.in_ok-alternative.was at is in
    let more = take_more c.args.pieces.now l.piece-index piece c.loop-piece-test.true ∙ ap (λ t. take l.piece-index c.args.pieces.now ++ t ∷ []) (sym c.piece-item.is) in
    rw (more, map-append (alternative_json flag) (take l.piece-index c.args.pieces.now) (piece ∷ []), c.in_ok-push.ensures.items, map-append view l.items.items (c.in_ok-alternative.field-0 ∷ []), l.invariant, json) refl

pub returns : goal.returns
returns c =
    let l = c.loop-piece in
    let all : map view l.items.items ≡ map (alternative_json c.args.pre_release) c.args.pieces.now = rw (take_all l.piece-index c.args.pieces.now c.loop-piece-test.false) at l.invariant in
    c.into_json.ensures _ (c.put_text-2.ensures _ (c.put-2.ensures _ _ c.new-2.ensures (view-Array l.items ∙ ap (λ items. array (items_of items)) all)))
