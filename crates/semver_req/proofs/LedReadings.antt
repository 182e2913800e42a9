-- What leads the partial version of npm's tildes and carets, as a rule that parses from left to right.
use Rattle.std.proofs.Common.{◌≡◌, ℕ, List, [], ◌∷◌, ◌++◌, Option, Some, None, refl, sym, ap, ◌∙◌, arith, append_assoc}
use Rattle.std.specs.Char.{is_not_whitespace}
use Rattle.std.proofs.lemmas.Str.{NoCharPasses-append, NoCharPasses-nil}
use Rattle.semver_base.specs.Grammar.{After, Either, this, that, HasNone, IsLongest, Prefixed, Optional, ReadsAs}
use Rattle.semver_base.specs.Lexical.{IsWhitespace, IsByte}
use Rattle.semver_base.specs.declared.partial.Partial.{Partial}
use Rattle.semver_base.specs.ByteLaws.{none_by_byte}
use Rattle.semver_base.specs.GrammarLaws.{Apart, either_none, either_that, either_this, followed, followed_none_second, mapped, mapped_none, prefixed_none, prefixed_other, prefixed_some, narrowed, narrowed_none}
use Rattle.semver_base.specs.ValueLaws.{after_maps, after_of, after_parts}
use Rattle.semver_req.specs.Comparators.{IsEquals, IsLed}
use Rattle.semver_req.specs.Partials.{IsPartial, IsBarePartial}
use Rattle.semver_req.specs.declared.common.values.Flavour.TheVariants.{Npm}
use Rattle.semver_req.proofs.GrammarFacts.{Free, equals_under, free_partial, partial_begins, partial_some, whitespace_apart, whitespace_under}
use Rattle.semver_req.proofs.GrammarTexts.{InPartial, Numbers, bare_partial_described, loose_digits, partial_described}
use Rattle.semver_req.proofs.Grammars as rule
use Rattle.semver_req.proofs.RuleFacts.{apart_from, under}
use Rattle.semver_req.proofs.RuleTexts.{Describes, after_described, either_described, prefixed_described}
use Rattle.semver_req.proofs.Rules.{Rule, alt, letter, seq}
use Rattle.semver_req.proofs.WhitespaceTexts.{whitespace_described}
use Rattle.semver_base.specs.declared.lexical.values.Strictness.TheVariants.{Loose}
use Rattle.semver_req.proofs.Partials.{no_v}

-- after the whitespace: a `v`, optional whitespace and a partial version, which may have its own `v`, or a plain one
abbrev pub IsAfterWhitespace : List ℕ → Partial → Type 0
IsAfterWhitespace = Either (Prefixed 118 (After IsWhitespace (IsPartial Npm))) (IsBarePartial Npm)

abbrev pub IsOrderedLed : List ℕ → Partial → Type 0
IsOrderedLed = After IsEquals (After IsWhitespace IsAfterWhitespace)

-- the same, as `IsLed` has it
abbrev IsAfterMaybeV : List ℕ → Partial → Type 0
IsAfterMaybeV = After (Optional (IsByte 118)) (After IsWhitespace (IsPartial Npm))

whitespace_append : (a b : List ℕ) → IsWhitespace a tt → IsWhitespace b tt → IsWhitespace (a ++ b) tt
whitespace_append a b h k = NoCharPasses-append is_not_whitespace a b h k

-- a partial version, with its own `v` or without, doesn't begin with whitespace
partial_after : (t : List ℕ) (p : Partial) → IsPartial Npm t p → IsAfterWhitespace t p
partial_after [] p (this h) = absurd h
partial_after (x ∷ t) p (this h) = this (h.0, after_of [] t tt p (NoCharPasses-nil is_not_whitespace) (that h.1))
partial_after t p (that h) = that h

to_ordered : (text : List ℕ) (p : Partial) → After IsWhitespace IsAfterMaybeV text p → After IsWhitespace IsAfterWhitespace text p
to_ordered text p h = go middle.2 middle.4
  where
    outer : (a : List ℕ) × (b : List ℕ) × (v : Unit {0}) × (text ≡ a ++ b) × IsWhitespace a v × IsAfterMaybeV b p
    outer = after_parts h

    middle : (a : List ℕ) × (b : List ℕ) × (v : Option (Unit {0})) × (outer.1 ≡ a ++ b) × Optional (IsByte 118) a v × After IsWhitespace (IsPartial Npm) b p
    middle = after_parts outer.5

    go : (o : Option (Unit {0})) → Optional (IsByte 118) middle.0 o → After IsWhitespace IsAfterWhitespace text p
    go None nil =
        let inner = after_parts middle.5 in
        let whole : text ≡ (outer.0 ++ inner.0) ++ inner.1 = outer.3 ∙ (ap (λ t. outer.0 ++ t) (middle.3 ∙ (ap (λ t. t ++ middle.1) nil ∙ inner.3)) ∙ sym (append_assoc outer.0 inner.0 inner.1)) in
        rw whole (after_of (outer.0 ++ inner.0) inner.1 tt p (whitespace_append outer.0 inner.0 outer.4 inner.4) (partial_after inner.1 p inner.5))
    go (Some u) byte =
        let whole : text ≡ outer.0 ++ (118 ∷ middle.1) = outer.3 ∙ ap (λ t. outer.0 ++ t) (middle.3 ∙ ap (λ t. t ++ middle.1) byte) in
        rw whole (after_of outer.0 (118 ∷ middle.1) tt p outer.4 (this (refl, middle.5)))

from_ordered : (t : List ℕ) (p : Partial) → IsAfterWhitespace t p → IsAfterMaybeV t p
from_ordered [] p (this k) = absurd k
from_ordered (x ∷ t) p (this k) = after_of (x ∷ []) t (Some tt) p (ap (λ y. y ∷ []) k.0) k.1
from_ordered t p (that k) = after_of [] t None p refl (after_of [] t tt p (NoCharPasses-nil is_not_whitespace) (that k))

-- both rules relate the same texts to the same values
pub led_to : (text : List ℕ) (p : Partial) → IsLed text p → IsOrderedLed text p
led_to text p h = after_maps to_ordered text p h

pub led_from : (text : List ℕ) (p : Partial) → IsOrderedLed text p → IsLed text p
led_from text p h = after_maps (after_maps from_ordered) text p h

pub led_longest : {text rest : List ℕ} {p : Partial} → IsLongest IsOrderedLed text p rest → IsLongest IsLed text p rest
led_longest {p = p} h = narrowed IsLed led_to h (led_from h.front p h.stands)

pub led_none : {text : List ℕ} → HasNone IsOrderedLed text → HasNone IsLed text
led_none h = narrowed_none IsLed led_to h

-- ---- how it is parsed: any number of `=`, optional whitespace, and then by whether a `v` follows

abbrev after_rule : Rule
after_rule = alt (seq (letter 118) (seq rule.whitespace (rule.partial Npm))) (rule.bare_partial Npm)

after_rule_described : Describes (Numbers Free Npm) IsAfterWhitespace (InPartial Free) after_rule
after_rule_described = either_described (prefixed_described 118 (omega arith) (after_described whitespace_described (partial_described Free Npm))) (bare_partial_described Free Npm)

whitespace_after : Apart IsWhitespace IsAfterWhitespace
whitespace_after = apart_from whitespace_under (under (loose_digits Loose) after_rule_described free_partial) refl

equals_led : Apart IsEquals (After IsWhitespace IsAfterWhitespace)
equals_led = apart_from equals_under (under (loose_digits Loose) (after_described whitespace_described after_rule_described) free_partial) refl

module _ {X : Type 0} (see : Partial → X) where
  -- a `v`, and the partial version after its whitespace
  pub after_v : {text middle start : List ℕ} (r : Option (X × List ℕ)) → text ≡ 118 ∷ middle → IsLongest IsWhitespace middle tt start → ReadsAs see (IsPartial Npm) start r → ReadsAs see IsAfterWhitespace text r
  after_v {text} {middle} {start} r e b p = go r p
    where
      plain : HasNone (IsBarePartial Npm) text
      plain = none_by_byte (partial_some Npm) (partial_begins Npm) text (λ x t f k. no_v x (cc) k)

      go : (r : Option (X × List ℕ)) → ReadsAs see (IsPartial Npm) start r → ReadsAs see IsAfterWhitespace text r
      go None h = either_none (prefixed_none e (mapped_none (followed_none_second (whitespace_apart Npm) b h))) plain
      go (Some q) h = record { value = h.value; longest = either_this (prefixed_some e (mapped (followed (whitespace_apart Npm) b h.longest))) plain; seen = h.seen }

  -- no `v`
  pub after_no_v : {text : List ℕ} (r : Option (X × List ℕ)) → ((rest : List ℕ) → text ≡ 118 ∷ rest → ⊥) → ReadsAs see (IsBarePartial Npm) text r → ReadsAs see IsAfterWhitespace text r
  after_no_v None other h = either_none (prefixed_other other) h
  after_no_v (Some p) other h = record { value = h.value; longest = either_that (prefixed_other other) h.longest; seen = h.seen }

  pub led_read : {text middle start : List ℕ} (r : Option (X × List ℕ)) → IsLongest IsEquals text tt middle → IsLongest IsWhitespace middle tt start → ReadsAs see IsAfterWhitespace start r → ReadsAs see IsLed text r
  led_read None e b h = led_none (mapped_none (followed_none_second equals_led e (mapped_none (followed_none_second whitespace_after b h))))
  led_read (Some p) e b h = record { value = h.value; longest = led_longest (mapped (followed equals_led e (mapped (followed whitespace_after b h.longest)))); seen = h.seen }
