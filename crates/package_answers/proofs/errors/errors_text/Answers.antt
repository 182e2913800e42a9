use Rattle.std.proofs.Common.{◌≡◌, ◌∙◌, ◌∷◌, [], Vec, Global, ap, rules}
use Rattle.serde_json.specs.Data.{Data, array}
use Rattle.serde_json.specs.View.{items_of, items_view, view}
use Rattle.serde_json.specs.declared.value.Value.{Value}
use Rattle.serde_json.specs.declared.value.Value.TheVariants.{Array}
use Rattle.serde_json.proofs.Views.{view-Array}
use Rattle.package_answers.specs.Errors.{part_errors_json}
use Rattle.package_answers.proofs.errors.errors_text.Goals as goal

one_item : (v : Vec Value Global) (json : Value) (d : Data) → v.items ≡ json ∷ [] → view json ≡ d → view (Array v) ≡ array (items_of (d ∷ []))
one_item v json d h k = view-Array v ∙ (ap (λ items. array (items_view items)) h ∙ ap (λ d. array (items_of (d ∷ []))) k)

pub returns-in_ok-vec-in-Part : goal.returns-in_ok-vec-in-Part
returns-in_ok-vec-in-Part c =
    let json = one_item c.in_ok-vec-in-Part.field-0 c.in_ok-json-in-Part.json _ c.in_ok-vec-in-Part.ensures.items
    (rw c.message.ensures at (c.in_ok-json-in-Part.ensures _ (c.put-in-Part-2.ensures _ _ (c.put_text.ensures _ (c.put-in-Part.ensures _ _ (c.put.ensures _ _ c.new.ensures c.from.ensures) c.missing_json.ensures)) c.from-in-Part.ensures))) in
    rw c.in-Part.is (c.json_text.ensures (part_errors_json c.args.end c.in-Part.error) (search rules) json)
