-- Leading comparators, by the operator that comes first.
use Rattle.std.proofs.Common.{◌≡◌, ℕ, true, List, [], ◌∷◌, ◌++◌, Option, Some, None, refl, sym, ap, ◌∙◌, arith, slice_index}
use Rattle.std.proofs.lemmas.Bool.Decides.{nat_tests}
use Rattle.semver_base.specs.Grammar.{Either, this, that, HasNone, IsLongest, IsSeen, ReadsAs}
use Rattle.semver_base.specs.Lexical.{IsWhitespace}
use Rattle.semver_base.specs.declared.lexical.values.Measured.{Measured}
use Rattle.semver_base.specs.declared.partial.Partial.{Partial}
use Rattle.semver_base.specs.declared.partial.PrimitiveKind.{PrimitiveKind}
use Rattle.semver_base.specs.ByteLaws.{Disjoint, none_by_byte}
use Rattle.semver_base.specs.GrammarLaws.{either_none, either_that, either_this, followed, joined_none_first, mapped, mapped_none, prefixed_none, prefixed_other, prefixed_some}
use Rattle.semver_req.specs.Comparators.{IsComparator, HasOperator, IsBare, IsPrimitiveKind}
use Rattle.semver_req.specs.Partials.{IsPartial, sized_partial}
use Rattle.semver_req.specs.Written.{IsFront, IsOperatorCut, IsNonPrimitive, ReadsComparator, with_operator}
use Rattle.semver_req.specs.declared.common.comparator.Operator.{Operator}
use Rattle.semver_req.specs.declared.common.comparator.Operator.TheVariants as operator
use Rattle.semver_req.specs.declared.common.comparator.Written.{Written}
use Rattle.semver_req.specs.declared.common.values.Flavour.{Flavour}
use Rattle.semver_req.specs.declared.common.values.Flavour.TheVariants.{Normal}
use Rattle.semver_req.proofs.GrammarFacts.{any_begins, is_partial_byte, is_primitive_kind_byte, any_some, primitive_kind_apart, primitive_kind_begins, primitive_kind_some, whitespace_apart}
use Rattle.semver_req.proofs.PrimitiveKinds.{primitive_none}

-- ---- `~`, `^` or nothing

pub first_byte : {text a b : List ℕ} {x y : ℕ} → text ≡ x ∷ a → text ≡ y ∷ b → x ≡ y
first_byte e f = ap (λ t. slice_index t 0) (sym e ∙ f)

tilde_no_partial : (x : ℕ) → x ≡ 126 → is_partial_byte x ≡ true → ⊥
tilde_no_partial x e h = grind (arith, nat_tests)

caret_no_partial : (x : ℕ) → x ≡ 94 → is_partial_byte x ≡ true → ⊥
caret_no_partial x e h = grind (arith, nat_tests)

pub after_tilde : (f : Flavour) {text rest : List ℕ} → text ≡ 126 ∷ rest → HasNone (IsPartial f) text
after_tilde f {text} e = none_by_byte (any_some f) (any_begins f) text (λ x t g k. tilde_no_partial x (cc) k)

pub after_caret : (f : Flavour) {text rest : List ℕ} → text ≡ 94 ∷ rest → HasNone (IsPartial f) text
after_caret f {text} e = none_by_byte (any_some f) (any_begins f) text (λ x t g k. caret_no_partial x (cc) k)

pub non_primitive_some : (f : Flavour) (m : Operator) {text rest end : List ℕ} {answer : Measured Partial} → IsOperatorCut text m rest → IsSeen sized_partial (IsPartial f) rest answer end
    → IsFront (IsNonPrimitive f) text (record { operator = m; partial = answer }) end
non_primitive_some f operator.Tilde e s = record {
  partial = s.value;
  longest = either_this (either_this (mapped (prefixed_some e s.longest)) (mapped_none (prefixed_other (λ r g. absurd (omega (arith, first_byte e g)))))) (mapped_none (after_tilde f e));
  seen = s.seen;
}
non_primitive_some f operator.Caret e s = record {
  partial = s.value;
  longest = either_this (either_that (mapped_none (prefixed_other (λ r g. absurd (omega (arith, first_byte e g))))) (mapped (prefixed_some e s.longest))) (mapped_none (after_caret f e));
  seen = s.seen;
}
non_primitive_some f (operator.Primitive kind) e s = absurd e
non_primitive_some f operator.Absent e s = record {
  partial = s.value;
  longest = either_that (either_none (mapped_none (prefixed_other e.1)) (mapped_none (prefixed_other e.2))) (mapped (rw e.0 at s.longest));
  seen = s.seen;
}

pub non_primitive_none : (f : Flavour) (m : Operator) {text rest : List ℕ} → IsOperatorCut text m rest → HasNone (IsPartial f) rest → HasNone (IsNonPrimitive f) text
non_primitive_none f operator.Tilde e n = either_none (either_none (mapped_none (prefixed_none e n)) (mapped_none (prefixed_other (λ r g. absurd (omega (arith, first_byte e g)))))) (mapped_none (after_tilde f e))
non_primitive_none f operator.Caret e n = either_none (either_none (mapped_none (prefixed_other (λ r g. absurd (omega (arith, first_byte e g))))) (mapped_none (prefixed_none e n))) (mapped_none (after_caret f e))
non_primitive_none f (operator.Primitive kind) e n = absurd e
non_primitive_none f operator.Absent e n = either_none (either_none (mapped_none (prefixed_other e.1)) (mapped_none (prefixed_other e.2))) (mapped_none (rw e.0 at n))

-- ---- a comparison operator, or none

-- a text of three grammars where the second matches no prefix
module _ {V : Type 0} {A B C : List ℕ → V → Type 0} where
  passed_over : (text : List ℕ) (v : V) → Either A C text v → Either A (Either B C) text v
  passed_over text v (this h) = this h
  passed_over text v (that h) = that (that h)

  longest_but : {text rest : List ℕ} {v : V} → HasNone B text → IsLongest (Either A C) text v rest → IsLongest (Either A (Either B C)) text v rest
  longest_but {text} {rest} {v} n p = record { front = p.front; text_is = p.text_is; stands = passed_over p.front v p.stands; longest = λ a b w e h. p.longest a b w e (go a b w e h) }
    where
      go : (a b : List ℕ) (w : V) → text ≡ a ++ b → Either A (Either B C) a w → Either A C a w
      go a b w e (this h) = this h
      go a b w e (that (this h)) = absurd (n.none a b w e h)
      go a b w e (that (that h)) = that h

  none_but : {text : List ℕ} → HasNone B text → HasNone (Either A C) text → HasNone (Either A (Either B C)) text
  none_but {text} n p = record { none = go }
    where
      go : (a b : List ℕ) (w : V) → text ≡ a ++ b → Either A (Either B C) a w → ⊥
      go a b w e (this h) = p.none a b w e (this h)
      go a b w e (that (this h)) = n.none a b w e h
      go a b w e (that (that h)) = p.none a b w e (that h)

pub no_primitive_kind : (r : Option (Written × List ℕ)) {text : List ℕ} → HasNone IsPrimitiveKind text → ReadsComparator (IsNonPrimitive Normal) text r → ReadsComparator (IsComparator Normal) text r
no_primitive_kind None n h = none_but (mapped_none (joined_none_first n)) h
no_primitive_kind (Some p) n h = record { partial = h.partial; longest = longest_but (mapped_none (joined_none_first n)) h.longest; seen = h.seen }

pub tilde_no_primitive_kind : (x : ℕ) → x ≡ 126 → is_primitive_kind_byte x ≡ true → ⊥
tilde_no_primitive_kind x e h = grind (arith, nat_tests)

pub caret_no_primitive_kind : (x : ℕ) → x ≡ 94 → is_primitive_kind_byte x ≡ true → ⊥
caret_no_primitive_kind x e h = grind (arith, nat_tests)

partial_no_primitive_kind : Disjoint is_partial_byte is_primitive_kind_byte
partial_no_primitive_kind x h k = grind (arith, nat_tests)

-- a text that begins with a comparison operator has no other comparator
module _ {text middle : List ℕ} {kind : PrimitiveKind} (s : IsLongest IsPrimitiveKind text kind middle) where
  pub primitive_byte : (x : ℕ) (t : List ℕ) → text ≡ x ∷ t → is_primitive_kind_byte x ≡ true
  primitive_byte x t e = go s.front s.text_is s.stands
    where
      go : (front : List ℕ) → text ≡ front ++ middle → IsPrimitiveKind front kind → is_primitive_kind_byte x ≡ true
      go [] f h = absurd (primitive_kind_some.some kind h)
      go (y ∷ more) f h = rw (first_byte e f) (primitive_kind_begins.begins y (record { more = more; value = kind; stands = h }))

  no_operator_form : HasNone (HasOperator Normal) text
  no_operator_form = either_none (mapped_none (prefixed_other (λ r e. tilde_no_primitive_kind 126 refl (primitive_byte 126 r e)))) (mapped_none (prefixed_other (λ r e. caret_no_primitive_kind 94 refl (primitive_byte 94 r e))))

  pub no_bare : (f : Flavour) → HasNone (IsBare f) text
  no_bare f = mapped_none (none_by_byte (any_some f) (any_begins f) text (λ x t e k. partial_no_primitive_kind x k (primitive_byte x t e)))

  primitive_kind_some_front : {start rest : List ℕ} {answer : Measured Partial} → IsLongest IsWhitespace middle tt start → IsSeen sized_partial (IsPartial Normal) start answer rest
      → IsFront (IsComparator Normal) text (record { operator = operator.Primitive kind; partial = answer }) rest
  primitive_kind_some_front b p = record {
    partial = p.value;
    longest = either_that no_operator_form (either_this (mapped (followed (primitive_kind_apart Normal) s (mapped (followed (whitespace_apart Normal) b p.longest)))) (no_bare Normal));
    seen = p.seen;
  }

  primitive_kind_no_front : {start : List ℕ} → IsLongest IsWhitespace middle tt start → HasNone (IsPartial Normal) start → HasNone (IsComparator Normal) text
  primitive_kind_no_front b n = either_none no_operator_form (either_none (mapped_none (primitive_none Normal s b n)) (no_bare Normal))

  -- after the whitespace behind the operator, a partial version or none
  pub primitive_kind_front_read : {start : List ℕ} (r : Option (Measured Partial × List ℕ)) → IsLongest IsWhitespace middle tt start → ReadsAs sized_partial (IsPartial Normal) start r
      → ReadsComparator (IsComparator Normal) text (with_operator (operator.Primitive kind) r)
  primitive_kind_front_read None b none = primitive_kind_no_front b none
  primitive_kind_front_read (Some p) b some = primitive_kind_some_front b some
