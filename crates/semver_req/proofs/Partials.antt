-- Leading partial versions.
use Rattle.std.proofs.Common.{◌≡◌, ℕ, Bool, true, false, List, [], ◌∷◌, Option, Some, None, refl, sym, ap, ◌∙◌, arith, append_assoc, length, ◌++◌, ◌≤◌, ◌&&◌, if◌then◌else◌}
use Rattle.std.specs.Char.{is_ascii_digit}
use Rattle.std.proofs.lemmas.Bool.Decides.{nat_tests}
use Rattle.semver_base.specs.Grammar.{ReadsAs, IsLongest, IsSeen, HasNone, Joined, Optional}
use Rattle.semver_base.specs.Lexical.{IsQualifier}
use Rattle.semver_base.specs.declared.lexical.values.Measured.{Measured}
use Rattle.semver_base.specs.declared.lexical.values.Measured.TheVariants.{Fits, TooLarge}
use Rattle.semver_base.specs.declared.lexical.values.Qualifier.{Qualifier}
use Rattle.semver_base.specs.declared.partial.Partial.{Partial}
use Rattle.semver_base.specs.declared.partial.XRange.{XRange}
use Rattle.semver_base.specs.declared.partial.XRange.TheVariants.{Wildcard}
use Rattle.semver_base.specs.GrammarLaws.{Apart, NonEmpty, either_none, either_that, either_this, prefixed_none, prefixed_other, followed, mapped, prefixed_some, optional_none, optional_some}
use Rattle.semver_base.specs.ByteLaws.{none_by_byte}
use Rattle.semver_req.specs.Partials.{IsComponent, IsPartial, IsBarePartial, assembled, component_fits, partial_of, sized_component, sized_partial, strictness_of}
use Rattle.semver_req.specs.declared.common.values.Flavour.{Flavour}
use Rattle.semver_req.specs.declared.common.values.Flavour.TheVariants.{Npm}
use Rattle.semver_req.proofs.Components.{third_longest}
use Rattle.semver_req.proofs.GrammarParts.{IsDot, IsDotted, at_dot, dot_no_digit, dotted_of}
use Rattle.semver_req.proofs.GrammarFacts.{component_goes, is_component_byte, partial_begins, partial_some}

-- ---- a component, and what begins with a dot

-- no component goes on with a dot
pub component_dot_apart : {V : Type 0} (A : List ℕ → V → Type 0) (f : Flavour) → Apart (IsComponent f) (Optional (IsDotted f A))
component_dot_apart {V} A f = record { apart = λ x g n. go x n.more n.value n.stands ((component_goes f).goes x g) }
  where
    go : (x : ℕ) (more : List ℕ) (o : Option V) → Optional (IsDotted f A) (x ∷ more) o → is_ascii_digit x ≡ true → ⊥
    go x more None h d = cc h
    go x more (Some v) h d = let k = at_dot A f (x ∷ more) v h in let e = k.text_is in let same : x ≡ k.byte = cc e in dot_no_digit f k.byte k.is_dot (rw same at d)

pub dotted_some : {V : Type 0} (A : List ℕ → V → Type 0) (f : Flavour) → NonEmpty (IsDotted f A)
dotted_some A f = record { some = λ v h. let k = at_dot A f [] v h in cc k.text_is }

pub dotted_longest : {V : Type 0} {A : List ℕ → V → Type 0} (f : Flavour) {b : ℕ} {text after rest : List ℕ} {v : V} → IsDot f b → text ≡ b ∷ after → IsLongest A after v rest → IsLongest (IsDotted f A) text v rest
dotted_longest {V} {A} f {b} {text} {after} {rest} {v} dot is p = record { front = b ∷ p.front; text_is = is ∙ ap (λ t. b ∷ t) p.text_is; stands = dotted_of A f b p.front v dot p.stands; longest = go }
  where
    go : (a c : List ℕ) (w : V) → text ≡ a ++ c → IsDotted f A a w → (length a ≤ length (b ∷ p.front)) × (length a ≡ length (b ∷ p.front) → w ≡ v)
    go a c w e h =
        let k = at_dot A f a w h in
        let tail : after ≡ k.rest ++ c = cc (sym is ∙ (e ∙ ap (λ t. t ++ c) k.text_is)) in
        let best = p.longest k.rest c w tail k.stands in
        (omega (arith, best.0, ap length k.text_is), λ s. best.1 (omega (arith, s, ap length k.text_is)))

-- without a dot and a component there is no part that begins with both
dotted_none : {V W : Type 0} (S : List ℕ → List ℕ → Type 0) (A : List ℕ → V → Type 0) (B : List ℕ → W → Type 0) (f : Flavour) {text : List ℕ} → HasNone (IsDotted f A) text → HasNone (IsDotted f (Joined S A B)) text
dotted_none {V} {W} S A B f {text} p = record { none = go }
  where
    go : (a b : List ℕ) (w : V × W) → text ≡ a ++ b → IsDotted f (Joined S A B) a w → ⊥
    go a b w e h =
        let k = at_dot (Joined S A B) f a w h in
        let j = k.stands in
        p.none (k.byte ∷ j.first) (j.second ++ b) w.0 (e ∙ (ap (λ t. t ++ b) k.text_is ∙ ap (λ t. k.byte ∷ t) (ap (λ t. t ++ b) j.text_is ∙ append_assoc j.first j.second b))) (dotted_of A f k.byte j.first w.0 k.is_dot j.in_first)

-- ---- the whole

sized_by : (b c d : Bool) (m n p : XRange) (q : Qualifier)
    → assembled (if b then Fits m else TooLarge) (if c then Fits n else TooLarge) (if d then Fits p else TooLarge) q ≡ (if b && c && d then Fits (record { major = m; minor = n; patch = p; pre = q.pre; build = q.build }) else TooLarge)
sized_by true true true m n p q = refl
sized_by true true false m n p q = refl
sized_by true false d m n p q = refl
sized_by false c d m n p q = refl

assembled_is : (m n p : XRange) (q : Qualifier) → assembled (sized_component m) (sized_component n) (sized_component p) q ≡ sized_partial (record { major = m; minor = n; patch = p; pre = q.pre; build = q.build })
assembled_is m n p q = sized_by (component_fits m) (component_fits n) (component_fits p) m n p q

abbrev unqualified : Qualifier
unqualified = record { pre = []; build = [] }

module _ (f : Flavour) {text middle : List ℕ} {major : Measured XRange} (first : IsSeen sized_component (IsComponent f) text major middle) where
  -- one component
  pub one_read : HasNone (IsDotted f (IsComponent f)) middle → IsSeen sized_partial (IsBarePartial f) text (assembled major (Fits Wildcard) (Fits Wildcard) unqualified) middle
  one_read none = record {
    value = partial_of (first.value, None);
    longest = mapped (followed (component_dot_apart _ f) first.longest (optional_none (dotted_none _ _ _ f none)));
    seen = rw first.seen (assembled_is first.value Wildcard Wildcard unqualified);
  }

  module _ {from_minor rest : List ℕ} {minor : Measured XRange} {b : ℕ} (dot : IsDot f b) (begins : middle ≡ b ∷ from_minor) (second : IsSeen sized_component (IsComponent f) from_minor minor rest) where
    -- two components
    pub two_read : HasNone (IsDotted f (IsComponent f)) rest → IsSeen sized_partial (IsBarePartial f) text (assembled major minor (Fits Wildcard) unqualified) rest
    two_read none = record {
      value = partial_of (first.value, Some (second.value, None));
      longest = mapped (followed (component_dot_apart _ f) first.longest (optional_some (dotted_some _ f) (dotted_longest f dot begins (followed (component_dot_apart _ f) second.longest (optional_none (dotted_none _ _ _ f none))))));
      seen = rw (first.seen, second.seen) (assembled_is first.value second.value Wildcard unqualified);
    }

    -- three components, and a qualifier
    pub three_read : {from_patch after end : List ℕ} {patch : Measured XRange} {q : Qualifier} {c : ℕ} → IsDot f c → rest ≡ c ∷ from_patch → IsSeen sized_component (IsComponent f) from_patch patch after → IsLongest (IsQualifier (strictness_of f)) after q end → IsSeen sized_partial (IsBarePartial f) text (assembled major minor patch q) end
    three_read {q = q} other e third qualifier = record {
      value = partial_of (first.value, Some (second.value, Some (third.value, q)));
      longest = mapped (followed (component_dot_apart _ f) first.longest (optional_some (dotted_some _ f) (dotted_longest f dot begins (followed (component_dot_apart _ f) second.longest (optional_some (dotted_some _ f) (dotted_longest f other e (third_longest f third.longest qualifier)))))));
      seen = rw (first.seen, second.seen, third.seen) (assembled_is first.value second.value third.value q);
    }

-- ---- npm's `v`

pub no_v : (x : ℕ) → x ≡ 118 → is_component_byte x ≡ true → ⊥
no_v x e h = grind (arith, nat_tests)

pub led_by_v : (text rest : List ℕ) (r : Option (Measured Partial × List ℕ)) → text ≡ 118 ∷ rest → ReadsAs sized_partial (IsBarePartial Npm) rest r → ReadsAs sized_partial (IsPartial Npm) text r
led_by_v text rest r e h = go r h
  where
    plain : HasNone (IsBarePartial Npm) text
    plain = none_by_byte (partial_some Npm) (partial_begins Npm) text (λ x t f k. no_v x (cc) k)

    go : (r : Option (Measured Partial × List ℕ)) → ReadsAs sized_partial (IsBarePartial Npm) rest r → ReadsAs sized_partial (IsPartial Npm) text r
    go None h = either_none (prefixed_none e h) plain
    go (Some p) h = record { value = h.value; longest = either_this (prefixed_some e h.longest) plain; seen = h.seen }

pub not_led : (text : List ℕ) (r : Option (Measured Partial × List ℕ)) → ((rest : List ℕ) → text ≡ 118 ∷ rest → ⊥) → ReadsAs sized_partial (IsBarePartial Npm) text r → ReadsAs sized_partial (IsPartial Npm) text r
not_led text None other h = either_none (prefixed_other other) h
not_led text (Some p) other h = record { value = h.value; longest = either_that (prefixed_other other) h.longest; seen = h.seen }
