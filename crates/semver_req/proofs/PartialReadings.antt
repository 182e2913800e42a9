-- Each text of a partial version has one value.
use Rattle.std.proofs.Common.{◌≡◌, ℕ, List, [], ◌∷◌, refl, sym, ap, subst, ◌∙◌}
use Rattle.semver_base.specs.declared.partial.XRange.{XRange}
use Rattle.semver_base.specs.declared.partial.XRange.TheVariants.{Wildcard, Val}
use Rattle.semver_base.specs.ValueLaws.{Unambiguous, either_one, followed_one, joined_one, mapped_one, prefixed_one, optional_one}
use Rattle.semver_base.specs.TokenLaws.{loose_begins, loose_some, number_one, qualifier_one}
use Rattle.semver_req.specs.Partials.{IsComponent, IsPartial, IsBarePartial, IsSecond, IsThird, strictness_of}
use Rattle.semver_req.specs.declared.common.values.Flavour.{Flavour}
use Rattle.semver_req.specs.declared.common.values.Flavour.TheVariants.{Npm, Normal, Specifier}
use Rattle.semver_req.proofs.Components.{component_clash, is_loose, wildcard_no_digit}
use Rattle.semver_req.proofs.Partials.{component_dot_apart, dotted_some}
use Rattle.semver_req.proofs.GrammarFacts.{v_bare}
use Rattle.semver_req.proofs.GrammarParts.{IsDotted, at_dot}

-- ---- components

pub component_one : (f : Flavour) → Unambiguous (IsComponent f)
component_one f = record { one = go }
  where
    no_number : (text : List ℕ) (n : ℕ) → IsComponent f text Wildcard → IsComponent f text (Val n) → ⊥
    no_number [] n h k = loose_some.some n (is_loose f [] n k)
    no_number (x ∷ text) n h k =
        let byte : x ≡ h.0 = cc h.1.text_is in
        let digit = loose_begins.begins x (record { more = text; value = n; stands = is_loose f (x ∷ text) n k }) in
        wildcard_no_digit f h.0 h.1.passes (rw byte at digit)

    go : (text : List ℕ) (v w : XRange) → IsComponent f text v → IsComponent f text w → v ≡ w
    go text Wildcard Wildcard h k = refl
    go text Wildcard (Val n) h k = absurd (no_number text n h k)
    go text (Val n) Wildcard h k = absurd (no_number text n k h)
    go text (Val m) (Val n) h k = ap Val ((number_one (strictness_of f)).one text m n h k)

-- ---- partial versions

dotted_one : {V : Type 0} {A : List ℕ → V → Type 0} (f : Flavour) → Unambiguous A → Unambiguous (IsDotted f A)
dotted_one {V} {A} f u = record { one = go }
  where
    go : (text : List ℕ) (v w : V) → IsDotted f A text v → IsDotted f A text w → v ≡ w
    go text v w h k =
        let p = at_dot A f text v h in
        let q = at_dot A f text w k in
        u.one q.rest v w (subst (λ t. A t v) (cc (sym p.text_is ∙ q.text_is)) p.stands) q.stands

third_one : (f : Flavour) → Unambiguous (IsThird f)
third_one f = dotted_one f (joined_one (component_clash f) (component_one f) (qualifier_one (strictness_of f)))

second_one : (f : Flavour) → Unambiguous (IsSecond f)
second_one f = dotted_one f (followed_one (component_dot_apart _ f) (component_one f) (optional_one (dotted_some _ f) (third_one f)))

pub bare_one : (f : Flavour) → Unambiguous (IsBarePartial f)
bare_one f = mapped_one (followed_one (component_dot_apart _ f) (component_one f) (optional_one (dotted_some _ f) (second_one f)))

pub partial_one : (f : Flavour) → Unambiguous (IsPartial f)
partial_one Npm = either_one v_bare (prefixed_one 118 (bare_one Npm)) (bare_one Npm)
partial_one Normal = bare_one Normal
partial_one Specifier = bare_one Specifier
