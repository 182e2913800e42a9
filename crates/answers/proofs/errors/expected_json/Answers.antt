use Rattle.std.proofs.Common.{◌≡◌, ◌∙◌, ◌++◌, ◌∷◌, [], ap, map, rules, take_all}
use Rattle.std.proofs.lemmas.List.{map-append}
use Rattle.serde_json.specs.Data.{array, string}
use Rattle.serde_json.specs.View.{items_of, view}
use Rattle.serde_json.proofs.Views.{view-Array}
use Rattle.answers.specs.Errors.{expected_names}
use Rattle.answers.proofs.ErrorJson.{no_end, with_end}
use Rattle.answers.proofs.errors.expected_json.Goals as goal
use Rattle.answers.proofs.errors.expected_json.Goals.{then-expected+in_ok-text_json-2+in_ok-push-2, else-expected}

pub returns : goal.returns
returns c =
    let l = c.loop-kind in
    let e = c.in-Unexpected.expected in
    let names = map view l.names.items in
    let kinds = rw (take_all l.kind-index _ c.loop-kind-test.false, c.as_slice-kinds.ensures.value) at l.invariant in
    let all : map view c.if-expected.names.items ≡ map string (expected_names e) =
    elim c.if-expected.branch [
      | then-expected+in_ok-text_json-2+in_ok-push-2 w ↦
          let added = ap (map view) w.in_ok-push-2.ensures.items ∙ map-append view l.names.items (w.in_ok-text_json-2.field-0 ∷ []) ∙ ap (λ end. names ++ end ∷ []) w.in_ok-text_json-2.ensures in
          ap (λ names. map view names.items) w.names-is ∙ with_end e names _ kinds added (search rules)
      | else-expected w ↦ ap (λ names. map view names.items) w.names-is ∙ no_end e names kinds (search rules)
    ] in
    rw c.in-Unexpected.is (view-Array c.if-expected.names ∙ ap (λ items. array (items_of items)) all)
