use Rattle.std.proofs.Common.{inl, inr, refl, sym, ap, ◌∙◌}
use Rattle.conformance.specs.RowAnswer.{item_text}
use Rattle.conformance.proofs.ItemTexts.{first_item_of, items_equal, no_second}
use Rattle.conformance.proofs.met.is_met.Goals as goal

pub returns-then-eq : goal.returns-then-eq
returns-then-eq c = (λ _. inl ((items_equal c.args.expected.now c.args.answer.now).0 (sym c.eq.ensures ∙ c.if-eq.true)), λ _. refl)

pub returns-else-is_rejected_item : goal.returns-else-is_rejected_item
returns-else-is_rejected_item c = (
  λ e. absurd (cc (sym e ∙ c.if-is_rejected_item.false)),
  λ met. elim met [
    | inl same ↦ absurd (cc (sym ((items_equal c.args.expected.now c.args.answer.now).1 same) ∙ (sym c.eq.ensures ∙ c.if-eq.false)))
    | inr rejected ↦ c.is_rejected_item.ensures.1 (ap item_text c.item-item.is ∙ first_item_of c.args.expected.now c.item-item.result rejected.0)
  ],
)

pub returns-in_default-3 : goal.returns-in_default-3
returns-in_default-3 c = (
  λ e. cc e,
  λ met. elim met [
    | inl same ↦ absurd (cc (sym ((items_equal c.args.expected.now c.args.answer.now).1 same) ∙ (sym c.eq.ensures ∙ c.if-eq.false)))
    | inr rejected ↦ absurd (no_second c.args.expected.now c.in_default.len_at_least rejected.0)
  ],
)
