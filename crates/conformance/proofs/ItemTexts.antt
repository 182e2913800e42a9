-- What `==` of items says about their texts.
use Rattle.std.proofs.Common.{◌≡◌, ◌≤◌, List, [], ◌∷◌, map, length, get_or, arith, Option, Some, None, String, string_bytes, refl, ap, ap₂, Decides, string_eq}
use Rattle.std.specs.Cmp.Lexicographic.{pointwise}
use Rattle.std.specs.Option.{option_eq}
use Rattle.std.specs.declared.alloc.Global.{Global}
use Rattle.semver_base.specs.Sameness.{both_reported, text_reported, reported_as}
use Rattle.conformance.specs.RowAnswer.{item_text, rejected_item}

item_equal : (x y : Option (String Global)) → Decides (option_eq string_eq x y) (item_text x ≡ item_text y)
item_equal None None = (λ _. refl, λ _. refl)
item_equal None (Some y) = (λ e. cc e, λ e. cc e)
item_equal (Some x) None = (λ e. cc e, λ e. cc e)
item_equal (Some x) (Some y) = reported_as _ (λ e. ap Some e) (λ e. cc e) (text_reported (string_bytes x) (string_bytes y))

pub items_equal : (xs ys : List (Option (String Global))) → Decides (pointwise (option_eq string_eq) xs ys) (map item_text xs ≡ map item_text ys)
items_equal [] [] = (λ _. refl, λ _. refl)
items_equal [] (y ∷ ys) = (λ e. cc e, λ e. cc e)
items_equal (x ∷ xs) [] = (λ e. cc e, λ e. cc e)
items_equal (x ∷ xs) (y ∷ ys) = reported_as _ (λ h. ap₂ (λ a b. a ∷ b) h.0 h.1) (λ e. (cc e, cc e)) (both_reported _ _ (item_equal x y) (items_equal xs ys))

-- the only item, and that there is no second one
pub first_item_of : (xs : List (Option (String Global))) (d : Option (String Global)) → map item_text xs ≡ rejected_item ∷ [] → item_text (get_or xs 0 d) ≡ rejected_item
first_item_of [] d e = cc e
first_item_of (x ∷ xs) d e = cc e

pub no_second : (xs : List (Option (String Global))) → 2 ≤ length xs → map item_text xs ≡ rejected_item ∷ [] → ⊥
no_second [] h e = cc e
no_second (x ∷ []) h e = omega (arith, h)
no_second (x ∷ y ∷ xs) h e = cc e
