use Rattle.std.proofs.Common.{◌≡◌, ◌∙◌, ◌≤◌, ◌∷◌, ℕ, zero, suc, List, [], Option, Some, None, length, ap, arith, refl, rules, sym}
use Rattle.std.proofs.lemmas.Option.{slice_get-get_or}
use Rattle.std.specs.Borrow.{Bor}
use Rattle.std.specs.List.{slice_get}
use Rattle.std.specs.Option.{option_copied}
use Rattle.std.specs.Slice.{IsItemAt}
use Rattle.semver_c.specs.Arguments.{call_outcome, or_none}
use Rattle.semver_c.proofs.arguments.numbered.Goals as goal

none_behind : {X : Type 0} (xs : List X) (i : ℕ) → length xs ≤ i → slice_get xs i ≡ None
none_behind [] i h = refl
none_behind (x ∷ xs) zero h = absurd (omega (arith, h))
none_behind (x ∷ xs) (suc i) h = none_behind xs i (omega (arith, h))

item : {X : Type 0} (xs : List X) (i : ℕ) (r : Option (Bor X)) → IsItemAt xs i r → option_copied r ≡ slice_get xs i
item xs i None h = sym (none_behind xs i h.3)
item xs i (Some x) h = ap Some h.1 ∙ sym (slice_get-get_or xs i x.now (h.3).0)

pub returns : goal.returns
returns g c =
    let is : call_outcome (λ x. x) c.ok_or.result ≡ or_none (option_copied c.get.result) = search rules in
    let numbered : call_outcome (λ x. x) c.ok_or.result ≡ or_none (slice_get c.args.all.now c.args.number) =
    is ∙ ap or_none (item c.args.all.now c.args.number c.get.result c.get.ensures.lookup) in
    (numbered, λ o a. numbered ∙ sym a)
