use Rattle.std.proofs.Common.{◌≡◌, [], length, refl, ap, arith, ◌∙◌}
use Rattle.semver_base.specs.declared.string.list.Items.{Items}
use Rattle.semver_base.specs.declared.string.list.Items.TheVariants as items
use Rattle.semver_base.specs.Texts.{items_of, IsFilledIfShared}
use Rattle.semver_base.proofs.string.list.CowVec.is_empty.Goals as goal

has_items : {T : Type 0} (all : Items T) → IsFilledIfShared all → (all ≡ items.None → ⊥) → items_of all ≡ [] → ⊥
has_items items.None filled shared none = shared refl
has_items (items.One one) filled shared none = cc none
has_items (items.Two two) filled shared none = absurd (omega (arith, filled, ap length none))
has_items (items.Many many) filled shared none = absurd (omega (arith, filled, ap length none))

pub returns-in_default : goal.returns-in_default
returns-in_default g c =
    (λ yes. absurd (cc yes), λ none. absurd (has_items c.self.inside.items c.self.invariant c.in_default.not-None (c.self.view_is ∙ none)))
