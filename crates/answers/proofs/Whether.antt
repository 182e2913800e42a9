-- Results that say whether something is so.
use Rattle.std.proofs.Common.{◌≡◌, ◌∙◌, ◌↔◌, IsTrue, Bool, true, false, Ok, Result, ap, inr, refl, sym}
use Rattle.answers.specs.Asking.{Fault, IsAnswer}
use Rattle.answers.specs.declared.asking.Answer.{Answer}
use Rattle.answers.specs.declared.asking.Answer.TheVariants.{Value}

module _ (E : Type 0) where
  -- at most one of two booleans says whether it is so
  same_whether : (b d : Bool) → (IsTrue b ↔ E) → (IsTrue d ↔ E) → b ≡ d
  same_whether true true h k = refl
  same_whether true false h k = absurd (cc (k.1 (h.0 refl)))
  same_whether false true h k = absurd (cc (h.1 (k.0 refl)))
  same_whether false false h k = refl

  abbrev as_whether : Bool → Result (Answer Bool) Fault
  as_whether is = Ok (Value is)

  pub whether_answer : (is : Bool) → (IsTrue is ↔ E) → IsAnswer (λ outcome. (b : Bool) × (IsTrue b ↔ E) × (outcome ≡ Ok (Value b))) (λ (a : Answer Bool). a) (Ok (Value is))
  whether_answer is h = record {
    is = inr (is, h, refl);
    only = λ o a. inr (ap as_whether (same_whether is a.0 h a.1) ∙ sym a.2);
  }
