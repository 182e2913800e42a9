-- Leading components.
use Rattle.std.proofs.Common.{◌≡◌, ◌≤◌, ◌^◌, ℕ, true, List, [], ◌∷◌, ◌++◌, length, refl, ap, ◌∙◌, arith, inl, inr, nat_lt, slice_index}
use Rattle.std.specs.Char.{is_ascii_digit}
use Rattle.std.proofs.lemmas.Bool.{cases_Bool}
use Rattle.std.proofs.lemmas.Bool.Decides.{nat_tests}
use Rattle.semver_base.specs.Grammar.{IsLongest, IsSeen, Joined}
use Rattle.semver_base.specs.Lexical.{IsLooseNumber, IsNumber, IsNumberEnd, IsQualifier, sized}
use Rattle.semver_base.specs.declared.lexical.values.Measured.{Measured}
use Rattle.semver_base.specs.declared.lexical.values.Qualifier.{Qualifier}
use Rattle.semver_base.specs.declared.partial.XRange.{XRange}
use Rattle.semver_base.specs.declared.partial.XRange.TheVariants.{Wildcard, Val}
use Rattle.semver_base.specs.GrammarLaws.{NoClash, joined}
use Rattle.semver_base.specs.TokenLaws.{loose_begins, loose_end, loose_some, number_is_loose, strict_no_digit}
use Rattle.semver_req.specs.Partials.{IsComponent, component_of, is_wildcard, sized_component, strictness_of}
use Rattle.semver_req.specs.declared.common.values.Flavour.{Flavour}
use Rattle.semver_req.specs.declared.common.values.Flavour.TheVariants.{Npm, Normal, Specifier}
use Rattle.semver_req.proofs.GrammarFacts.{component_goes}

pub is_loose : (f : Flavour) (a : List ℕ) (n : ℕ) → IsNumber (strictness_of f) a n → IsLooseNumber a n
is_loose f a n h = number_is_loose (strictness_of f) a n h

pub wildcard_no_digit : (f : Flavour) (b : ℕ) → is_wildcard f b ≡ true → is_ascii_digit b ≡ true → ⊥
wildcard_no_digit Npm b h k = grind (arith, nat_tests)
wildcard_no_digit Normal b h k = grind (arith, nat_tests)
wildcard_no_digit Specifier b h k = grind (arith, nat_tests)

pub component_wildcard : (f : Flavour) (b : ℕ) (text rest : List ℕ) → is_wildcard f b ≡ true → text ≡ b ∷ rest → IsLongest (IsComponent f) text Wildcard rest
component_wildcard f b text rest wild e = record {
  front = b ∷ [];
  text_is = e;
  stands = (b, record { text_is = refl; passes = wild });
  longest = go;
}
  where
    go : (a c : List ℕ) (w : XRange) → text ≡ a ++ c → IsComponent f a w → (length a ≤ 1) × (length a ≡ 1 → w ≡ Wildcard)
    go a c Wildcard k h = (omega (arith, ap length h.1.text_is), λ _. refl)
    go [] c (Val n) k h = absurd (loose_some.some n (is_loose f [] n h))
    go (y ∷ a) c (Val n) k h =
        let byte : y ≡ b = cc in
        let digit = loose_begins.begins y (record { more = a; value = n; stands = is_loose f (y ∷ a) n h }) in
        absurd (wildcard_no_digit f b wild (rw byte at digit))

module _ (f : Flavour) (text : List ℕ) (other : (b : ℕ) (r : List ℕ) → is_wildcard f b ≡ true → text ≡ b ∷ r → ⊥) where
  pub component_number : (rest : List ℕ) (n : ℕ) → IsLongest (IsNumber (strictness_of f)) text n rest → IsLongest (IsComponent f) text (Val n) rest
  component_number rest n p = record { front = p.front; text_is = p.text_is; stands = p.stands; longest = go }
    where
      go : (a c : List ℕ) (w : XRange) → text ≡ a ++ c → IsComponent f a w → (length a ≤ length p.front) × (length a ≡ length p.front → w ≡ Val n)
      go a c Wildcard k h = absurd (other h.0 c h.1.passes (k ∙ ap (λ t. t ++ c) h.1.text_is))
      go a c (Val m) k h = let best = p.longest a c m k h in (best.0, λ s. ap Val (best.1 s))

  -- what the parser of components returns
  pub component_read : (rest : List ℕ) (answer : Measured ℕ) → IsSeen sized (IsNumber (strictness_of f)) text answer rest → IsSeen sized_component (IsComponent f) text (component_of answer) rest
  component_read rest answer h = record { value = Val h.value; longest = component_number rest h.value h.longest; seen = ap component_of h.seen ∙ same_size h.value }
    where
      same_size : (n : ℕ) → component_of (sized n) ≡ sized_component (Val n)
      same_size n = elim (cases_Bool (nat_lt n (2 ^ 64))) [ inl fits ↦ rw fits refl | inr over ↦ rw over refl ]

-- ---- the bytes with which components begin and continue

-- what continues is a number
component_goes_first : (f : Flavour) (x : ℕ) (a m : List ℕ) (v u : XRange) → IsComponent f a v → IsComponent f (a ++ (x ∷ m)) u → is_ascii_digit (slice_index a 0) ≡ true
component_goes_first f x [] m Wildcard u h k = cc h.1.text_is
component_goes_first f x [] m (Val n) u h k = absurd (loose_some.some n (is_loose f [] n h))
component_goes_first f x (y ∷ a) m Wildcard Wildcard h k = absurd (too_long a k.1.text_is)
  where
    too_long : (a : List ℕ) → y ∷ (a ++ (x ∷ m)) ≡ k.0 ∷ [] → ⊥
    too_long [] e = cc e
    too_long (z ∷ a) e = cc e
component_goes_first f x (y ∷ a) m Wildcard (Val n) h k = loose_begins.begins y (record { more = a ++ (x ∷ m); value = n; stands = is_loose f (y ∷ (a ++ (x ∷ m))) n k })
component_goes_first f x (y ∷ a) m (Val l) u h k = loose_begins.begins y (record { more = a; value = l; stands = is_loose f (y ∷ a) l h })

-- ---- a component and a qualifier

-- no digit follows a longest number of a loose grammar
loose_component_end : (f : Flavour) {text middle : List ℕ} (v : XRange) (p : IsLongest (IsComponent f) text v middle) (y : ℕ) (rest : List ℕ) → ((a : List ℕ) (m : ℕ) → IsLooseNumber a m → IsNumber (strictness_of f) a m) → middle ≡ y ∷ rest → is_ascii_digit (slice_index p.front 0) ≡ true → is_ascii_digit y ≡ true → ⊥
loose_component_end f Wildcard p y rest loose e h k =
    let same_byte : slice_index p.front 0 ≡ p.stands.0 = ap (λ t. slice_index t 0) p.stands.1.text_is in
    wildcard_no_digit f p.stands.0 p.stands.1.passes (rw same_byte at h)
loose_component_end f {text} {middle} (Val n) p y rest loose e h k =
    let number : IsLongest IsLooseNumber text n middle = record {
      front = p.front;
      text_is = p.text_is;
      stands = is_loose f p.front n p.stands;
      longest = λ a b w split stands. let best = p.longest a b (Val w) split (loose a w stands) in (best.0, λ s. cc (best.1 s));
    } in
    loose_end number y rest e k

component_end : (f : Flavour) {text middle : List ℕ} {v : XRange} (p : IsLongest (IsComponent f) text v middle) (q rest : List ℕ) (w : Qualifier) → middle ≡ q ++ rest → IsQualifier (strictness_of f) q w → IsNumberEnd p.front q
component_end f p [] rest w e h = λ d g. cc g
component_end Npm {v = v} p (y ∷ q) rest w e h = λ d g. loose_component_end Npm v p y (q ++ rest) (λ a m l. l) e d g
component_end Normal {v = v} p (y ∷ q) rest w e h = λ d g. loose_component_end Normal v p y (q ++ rest) (λ a m l. l) e d g
component_end Specifier p (y ∷ q) rest w e h = λ d g. strict_no_digit y q w h g

pub component_clash : (f : Flavour) → NoClash IsNumberEnd (IsComponent f) (IsQualifier (strictness_of f))
component_clash f = record {
  apart = λ a m b x v u w short long h seam.
      seam (component_goes_first f x a m v u short long) ((component_goes f).goes x (record { front = a; more = m; short_value = v; long_value = u; short = short; long = long }));
}

-- the longest component with a qualifier
pub third_longest : (f : Flavour) {text middle rest : List ℕ} {v : XRange} {q : Qualifier} → IsLongest (IsComponent f) text v middle → IsLongest (IsQualifier (strictness_of f)) middle q rest
    → IsLongest (Joined IsNumberEnd (IsComponent f) (IsQualifier (strictness_of f))) text (v, q) rest
third_longest f {rest = rest} {q = q} a b = joined (component_clash f) a b (component_end f a b.front rest q b.text_is b.stands)
