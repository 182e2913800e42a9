-- JSON objects under construction.
use Rattle.std.specs.Prelude.{◌≡◌, ℕ, IfOk, List, Option, None, Some}
use Rattle.serde_json.specs.Data.{Data, Members, null, string}
use Rattle.serde_json.specs.View.{members_view}
use Rattle.answers.specs.declared.object.Object.{Object}

-- these are its members, unless memory ran out
pub record Has (built : Object) (all : Members) : Type 0 where
  pub members : IfOk built.members (λ map. members_view map.entries ≡ all)

-- the JSON of a text, or null
abbrev pub text_or_null : Option (List ℕ) → Data
text_or_null None = null
text_or_null (Some text) = string text
