-- When an answer agrees with a row of the table.
use Rattle.std.specs.Prelude.{◌≡◌, ◌⊎◌, ℕ, List, [], ◌∷◌, Option, Some, None, String, codes, string_bytes}
use Rattle.std.specs.declared.alloc.Global.{Global}

-- the text of a row's field
abbrev pub item_text : Option (String Global) → Option (List ℕ)
item_text None = None
item_text (Some item) = Some (string_bytes item)

abbrev pub rejected_item : Option (List ℕ)
rejected_item = Some (codes "rejected")

abbrev pub first_item : List (Option (List ℕ)) → Option (List ℕ)
first_item [] = None
first_item (item ∷ items) = item

-- the answer is the row's, or any rejection if the row has `rejected` alone
abbrev pub IsMet : List (Option (List ℕ)) → List (Option (List ℕ)) → Type 0
IsMet expected answer = (expected ≡ answer) ⊎ ((expected ≡ rejected_item ∷ []) × (first_item answer ≡ rejected_item))
