-- Each text of a comparator has one value.
use Rattle.std.proofs.Common.{◌≡◌, ℕ, Bool, true, List, [], ◌∷◌, ◌++◌, false, not, refl, sym, ap, subst, ◌∙◌, append_assoc}
use Rattle.std.specs.List.{list_all}
use Rattle.std.proofs.lemmas.Bool.{and_from, both_ways, not_from_true}
use Rattle.semver_base.specs.Comparators.{Caret, Comparator, Tilde}
use Rattle.semver_base.specs.Grammar.{After, Either, this, that, Prefixed}
use Rattle.semver_base.specs.declared.partial.Partial.{Partial}
use Rattle.semver_base.specs.ByteLaws.{Disjoint, MadeOf, apart_by, goes_from_made, list_all-append}
use Rattle.semver_base.specs.GrammarLaws.{Apart}
use Rattle.semver_base.specs.ValueLaws.{EachByte, Unambiguous, after_one, each_made, either_one, followed_one, mapped_one, narrowed_one}
use Rattle.semver_req.specs.Comparators.{HasOperator, IsComparator, IsLed, IsNpmCaret, IsNpmTilde, IsOfPrimitive, IsBare}
use Rattle.semver_req.specs.Partials.{IsPartial, IsBarePartial}
use Rattle.semver_req.specs.declared.common.values.Flavour.{Flavour}
use Rattle.semver_req.specs.declared.common.values.Flavour.TheVariants.{Npm, Normal, Specifier}
use Rattle.semver_req.proofs.GrammarFacts.{bare_partial_under, bare_starts, equals_under, ignored_under, operators_bare, operators_others, primitive_bare, primitive_kind_apart, tilde_caret, tildes_under, v_under, whitespace_apart, whitespace_under}
use Rattle.semver_req.proofs.GrammarParts.{AtOperator, IsTildeSign, Wider, at_caret, at_operator, at_tilde, primitive_kind_one, tilde_no_caret}
use Rattle.semver_req.proofs.RuleFacts.{IsUnder, begins_first, made_without}
use Rattle.semver_req.proofs.Rules.{Rule, all_bytes, has, overlap}
use Rattle.semver_req.proofs.PartialReadings.{partial_one, bare_one}

-- ---- the partial version at the end of an npm comparator

-- any bytes but those with which a plain one begins may precede it
abbrev is_lead_byte : ℕ → Bool
is_lead_byte x = not (has (bare_starts Npm) x)

abbrev IsCore : List ℕ → Partial → Type 0
IsCore = After (EachByte is_lead_byte) (IsBarePartial Npm)

lead_no_core : Disjoint is_lead_byte (has (bare_starts Npm))
lead_no_core x h k = both_ways (not (has (bare_starts Npm) x)) (not_from_true (has (bare_starts Npm) x) k) h

lead_apart : Apart (EachByte is_lead_byte) (IsBarePartial Npm)
lead_apart = apart_by is_lead_byte (has (bare_starts Npm)) lead_no_core (goes_from_made (each_made is_lead_byte)) (begins_first (bare_partial_under Npm))

-- a text of B is leading bytes and then a plain partial version, with the value that B gives it
abbrev HasCore : (List ℕ → Partial → Type 0) → Type 0
HasCore B = Wider B IsCore

bare_core : HasCore (IsBarePartial Npm)
bare_core text p h = record { value = (tt, p); stands = record { first = []; second = text; text_is = refl; in_first = record { pass = refl }; in_second = h; seam = tt }; is = refl }

after_core : {V : Type 0} {A : List ℕ → V → Type 0} {B : List ℕ → Partial → Type 0} → MadeOf A is_lead_byte → HasCore B → HasCore (After A B)
after_core a b text p h =
    let lead = h.stands.first in
    let c = b h.stands.second h.value.1 h.stands.in_second in
    record {
      value = c.value;
      stands = record {
        first = lead ++ c.stands.first;
        second = c.stands.second;
        text_is = h.stands.text_is ∙ (ap (λ t. lead ++ t) c.stands.text_is ∙ sym (append_assoc lead c.stands.first c.stands.second));
        in_first = record { pass = list_all-append is_lead_byte lead c.stands.first (a.made lead h.value.0 h.stands.in_first) c.stands.in_first.pass };
        in_second = c.stands.in_second;
        seam = tt;
      };
      is = h.is ∙ c.is;
    }

prefixed_core : {B : List ℕ → Partial → Type 0} (m : ℕ) → is_lead_byte m ≡ true → HasCore B → HasCore (Prefixed m B)
prefixed_core m lead b [] p h = absurd h
prefixed_core m lead b (x ∷ text) p h =
    let c = b text p h.1 in
    record {
      value = c.value;
      stands = record {
        first = x ∷ c.stands.first;
        second = c.stands.second;
        text_is = ap (λ t. x ∷ t) c.stands.text_is;
        in_first = record { pass = and_from (is_lead_byte x) (list_all is_lead_byte c.stands.first) (rw h.0 lead) c.stands.in_first.pass };
        in_second = c.stands.in_second;
        seam = tt;
      };
      is = c.is;
    }

either_core : {A B : List ℕ → Partial → Type 0} → HasCore A → HasCore B → HasCore (Either A B)
either_core a b text p (this h) = a text p h
either_core a b text p (that h) = b text p h

leads : {V : Type 0} {A : List ℕ → V → Type 0} {r : Rule} → IsUnder A r → overlap (all_bytes r) (bare_starts Npm) ≡ false → MadeOf A is_lead_byte
leads u e = made_without u (bare_starts Npm) e

led_core : HasCore IsLed
led_core = after_core (leads equals_under refl) (after_core (leads whitespace_under refl) (after_core (leads v_under refl) (after_core (leads whitespace_under refl) (either_core (prefixed_core 118 refl bare_core) bare_core))))

core_unambiguous : {B : List ℕ → Partial → Type 0} → HasCore B → Unambiguous B
core_unambiguous {B} b = narrowed_one B b (after_one lead_apart (bare_one Npm))

npm_tilde_one : Unambiguous IsNpmTilde
npm_tilde_one = mapped_one (core_unambiguous (after_core (leads ignored_under refl) (after_core (leads tildes_under refl) led_core)))

npm_caret_one : Unambiguous IsNpmCaret
npm_caret_one = mapped_one (core_unambiguous (after_core (leads ignored_under refl) (prefixed_core 94 refl led_core)))

-- ---- comparators

-- `~` or `^` right before a partial version
operator_one : (f : Flavour) → Unambiguous (HasOperator f)
operator_one f = record { one = λ text v w h k. go (at_operator f text v h) (at_operator f text w k) }
  where
    same : {text rest other : List ℕ} {b d : ℕ} {p q : Partial} → text ≡ b ∷ rest → text ≡ d ∷ other → IsPartial f rest p → IsPartial f other q → p ≡ q
    same {other = other} {p = p} {q = q} e g h k = (partial_one f).one other p q (subst (λ t. IsPartial f t p) (cc (sym e ∙ g)) h) k

    byte : {text rest other : List ℕ} {b d : ℕ} → text ≡ b ∷ rest → text ≡ d ∷ other → b ≡ d
    byte e g = cc (sym e ∙ g)

    go : {text : List ℕ} {v w : Comparator} → AtOperator f text v → AtOperator f text w → v ≡ w
    go (at_tilde b e s h is) (at_tilde d g t k js) = is ∙ (ap Tilde (same e g h k) ∙ sym js)
    go (at_tilde b e s h is) (at_caret d g t k js) = absurd (tilde_no_caret f f d (subst (IsTildeSign f) (byte e g) s) t)
    go (at_caret b e s h is) (at_tilde d g t k js) = absurd (tilde_no_caret f f b (subst (IsTildeSign f) (byte g e) t) s)
    go (at_caret b e s h is) (at_caret d g t k js) = is ∙ (ap Caret (same e g h k) ∙ sym js)

primitive_one : (f : Flavour) → Unambiguous (IsOfPrimitive f)
primitive_one f = mapped_one (followed_one (primitive_kind_apart f) primitive_kind_one (after_one (whitespace_apart f) (partial_one f)))

plainly_one : (f : Flavour) → Unambiguous (IsBare f)
plainly_one f = mapped_one (partial_one f)

others_one : (f : Flavour) → Unambiguous (Either (IsOfPrimitive f) (IsBare f))
others_one f = either_one (primitive_bare f) (primitive_one f) (plainly_one f)

pub comparator_one : (f : Flavour) → Unambiguous (IsComparator f)
comparator_one Npm = either_one (operators_others Npm) (either_one (tilde_caret Npm) npm_tilde_one npm_caret_one) (others_one Npm)
comparator_one Normal = either_one (operators_others Normal) (operator_one Normal) (others_one Normal)
comparator_one Specifier = either_one (operators_bare Specifier) (operator_one Specifier) (plainly_one Specifier)
