-- Leading comparison operators, and the partial versions after them.
use Rattle.std.proofs.Common.{◌≡◌, ℕ, List, refl, ap, ◌∙◌, inl, inr}
use Rattle.std.proofs.lemmas.Bool.{cases_Bool}
use Rattle.semver_base.specs.Grammar.{HasNone, IsLongest, IsSeen}
use Rattle.semver_base.specs.Lexical.{IsWhitespace}
use Rattle.semver_base.specs.declared.lexical.values.Measured.{Measured}
use Rattle.semver_base.specs.declared.partial.Partial.{Partial}
use Rattle.semver_base.specs.declared.partial.PrimitiveKind.{PrimitiveKind}
use Rattle.semver_base.specs.GrammarLaws.{followed, followed_none_second, mapped, mapped_none}
use Rattle.semver_req.specs.Comparators.{IsPrimitive, IsPrimitiveKind, primitive_of, sized_primitive}
use Rattle.semver_req.specs.Partials.{IsPartial, partial_fits, sized_partial}
use Rattle.semver_req.specs.declared.common.values.Flavour.{Flavour}
use Rattle.semver_req.proofs.GrammarFacts.{primitive_kind_apart, whitespace_apart}

-- ---- a comparison operator, optional whitespace and a partial version

pub primitive_read : (f : Flavour) {text middle start rest : List ℕ} {kind : PrimitiveKind} {answer : Measured Partial} → IsLongest IsPrimitiveKind text kind middle → IsLongest IsWhitespace middle tt start → IsSeen sized_partial (IsPartial f) start answer rest → IsSeen sized_primitive (IsPrimitive f) text (primitive_of kind answer) rest
primitive_read f {kind = kind} s b p = record {
  value = (kind, p.value);
  longest = followed (primitive_kind_apart f) s (mapped (followed (whitespace_apart f) b p.longest));
  seen = ap (primitive_of kind) p.seen ∙ same_size kind p.value;
}
  where
    same_size : (kind : PrimitiveKind) (p : Partial) → primitive_of kind (sized_partial p) ≡ sized_primitive (kind, p)
    same_size kind p = elim (cases_Bool (partial_fits p)) [ inl fit ↦ rw fit refl | inr over ↦ rw over refl ]

pub primitive_none : (f : Flavour) {text middle start : List ℕ} {kind : PrimitiveKind} → IsLongest IsPrimitiveKind text kind middle → IsLongest IsWhitespace middle tt start → HasNone (IsPartial f) start → HasNone (IsPrimitive f) text
primitive_none f s b n = followed_none_second (primitive_kind_apart f) s (mapped_none (followed_none_second (whitespace_apart f) b n))
