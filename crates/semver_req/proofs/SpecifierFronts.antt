-- The longest strict partial version at the start of a text that begins with a normalized one.
use Rattle.std.proofs.Common.{◌≡◌, ◌≤◌, ◌+◌, ℕ, true, false, List, [], ◌∷◌, ◌++◌, length, Option, Some, None, refl, sym, ap, subst, ◌∙◌, arith, inl, inr, append-nil, append_assoc, length-append, ◌==◌, slice_index}
use Rattle.std.specs.Char.{is_ascii_digit}
use Rattle.std.specs.Str.Parse.{digits_value}
use Rattle.std.proofs.lemmas.Bool.{and_parts, cases_Bool, false_from_ne_true}
use Rattle.std.proofs.lemmas.Bool.Decides.{nat_tests}
use Rattle.semver_base.specs.Grammar.{Followed, IsLongest, Joined, Optional, Stops}
use Rattle.semver_base.specs.Lexical.{IsLooseNumber, IsNumberEnd, IsQualifier}
use Rattle.semver_base.specs.declared.lexical.values.Qualifier.{Qualifier}
use Rattle.semver_base.specs.declared.lexical.values.Strictness.TheVariants.{Loose, Strict}
use Rattle.semver_base.specs.declared.partial.Partial.{Partial}
use Rattle.semver_base.specs.declared.partial.XRange.{XRange}
use Rattle.semver_base.specs.declared.partial.XRange.TheVariants.{Val, Wildcard}
use Rattle.semver_base.specs.GrammarLaws.{Apart, fronts, longer, same, shorter, pair_is}
use Rattle.semver_base.specs.ValueLaws.{in_place}
use Rattle.semver_req.specs.Partials.{IsComponent, IsBarePartial, IsSecond, IsThird, is_wildcard, partial_of}
use Rattle.semver_req.specs.declared.common.values.Flavour.TheVariants.{Normal, Specifier}
use Rattle.semver_base.specs.TokenLaws.{loose_goes, loose_some, strict_zero, number_one, strict_no_digit}
use Rattle.semver_req.proofs.Components.{component_number, component_wildcard, wildcard_no_digit}
use Rattle.semver_req.proofs.Partials.{component_dot_apart}
use Rattle.semver_req.proofs.GrammarFacts.{component_goes}
use Rattle.semver_req.proofs.GrammarParts.{IsDot, IsDotted, at_dot, dot_no_digit, dotted_of, normal_dot}

-- ---- prefixes that are only known to be the longest

record Longest {V : Type 0} (R : List ℕ → V → Type 0) (text : List ℕ) (v : V) (rest : List ℕ) : Type 0 where
  front : List ℕ
  text_is : text ≡ front ++ rest
  stands : R front v
  longest : (a b : List ℕ) (w : V) → text ≡ a ++ b → R a w → length a ≤ length front

-- the longest text of A, and then the longest text of C, which may be empty
module _ {V W : Type 0} {A : List ℕ → V → Type 0} {C : List ℕ → W → Type 0} (apart : Apart A C) (none : W) (empty : C [] none) where
  joined_front : (a c : List ℕ) (v : V) (w : W) → A a v → C c w → Followed A C (a ++ c) (v, w)
  joined_front a c v w h k = record { first = a; second = c; text_is = refl; in_first = h; in_second = k; seam = tt }

  -- what the longest text of both is made of
  record Split (x : V) (v : V × W) (middle rest : List ℕ) : Type 0 where
    value : v.0 ≡ x
    second : Longest C middle v.1 rest

  module _ {text middle rest : List ℕ} {x : V} (v : V × W) (h : Longest (Followed A C) text v rest) (p : IsLongest A text x middle) where
    whole : text ≡ h.stands.first ++ (h.stands.second ++ rest)
    whole = h.text_is ∙ (ap (λ t. t ++ rest) h.stands.text_is ∙ append_assoc h.stands.first h.stands.second rest)

    sizes : length h.front ≡ length h.stands.first + length h.stands.second
    sizes = ap length h.stands.text_is ∙ length-append h.stands.first h.stands.second

    -- the first text doesn't end early
    early : (second : List ℕ) → C second v.1 → (y : ℕ) (more : List ℕ) → p.front ≡ h.stands.first ++ (y ∷ more) → second ++ rest ≡ (y ∷ more) ++ middle → length h.front ≡ length h.stands.first + length second → ⊥
    early [] k y more e f size =
        let long = h.longest (p.front ++ []) middle (x, none) (p.text_is ∙ ap (λ t. t ++ middle) (sym (append-nil p.front))) (joined_front p.front [] x none p.stands empty) in
        omega (arith, long, size, length-append p.front [], ap length e, length-append h.stands.first (y ∷ more))
    early (z ∷ second) k y more e f size =
        let byte : z ≡ y = cc f in
        apart.apart y (record { front = h.stands.first; more = more; short_value = v.0; long_value = x; short = h.stands.in_first; long = rw e at p.stands }) (record { more = second; value = v.1; stands = rw byte at k })

    split : Split x v middle rest
    split = elim (fronts h.stands.first p.front (h.stands.second ++ rest) middle (sym whole ∙ p.text_is)) [
      | same e f ↦ record {
        value = (p.longest h.stands.first (h.stands.second ++ rest) v.0 whole h.stands.in_first).1 (ap length e);
        second = record {
          front = h.stands.second;
          text_is = sym f;
          stands = h.stands.in_second;
          longest = λ a b w g r.
              let long = h.longest (p.front ++ a) b (x, w) (p.text_is ∙ (ap (λ t. p.front ++ t) g ∙ sym (append_assoc p.front a b))) (joined_front p.front a x w p.stands r) in
              omega (arith, long, sizes, length-append p.front a, ap length e);
        };
      }
      | shorter y more e f ↦ absurd (early h.stands.second h.stands.in_second y more e f sizes)
      | longer y more e f ↦ absurd (omega (arith, (p.longest h.stands.first (h.stands.second ++ rest) v.0 whole h.stands.in_first).0, ap length e, length-append p.front (y ∷ more)))
    ]

-- ---- a part that a dot begins

abbrev NoDot : List ℕ → Type 0
NoDot text = (b : ℕ) (more : List ℕ) → IsDot Specifier b → text ≡ b ∷ more → ⊥

-- a text that doesn't begin with a dot has none
no_dot : {V : Type 0} {D : List ℕ → V → Type 0} {text rest : List ℕ} (o : Option V) → NoDot text → Longest (Optional (IsDotted Specifier D)) text o rest → o ≡ None
no_dot None other h = refl
no_dot {D = D} {rest = rest} (Some v) other h = let k = at_dot D Specifier h.front v h.stands in absurd (other k.byte (k.rest ++ rest) k.is_dot (h.text_is ∙ ap (λ t. t ++ rest) k.text_is))

record AfterDot {V : Type 0} (D : List ℕ → V → Type 0) (text : List ℕ) (o : Option V) (rest : List ℕ) : Type 0 where
  value : V
  is : o ≡ Some value
  longest : Longest D text value rest

-- a part is found where a text of it is
dot : {V : Type 0} {D : List ℕ → V → Type 0} {text rest : List ℕ} (x : ℕ) → IsDot Specifier x → (o : Option V) (a b : List ℕ) (w : V) → text ≡ a ++ b → D a w → Longest (Optional (IsDotted Specifier D)) (x ∷ text) o rest → AfterDot D text o rest
dot {D = D} x is None a b w e k h =
    let long = h.longest (x ∷ a) b (Some w) (ap (λ t. x ∷ t) e) (dotted_of D Specifier x a w is k) in
    absurd (omega (arith, long, ap length h.stands))
dot {D = D} {rest = rest} x is (Some v) a b w e k h =
    let found = at_dot D Specifier h.front v h.stands in
    record {
      value = v;
      is = refl;
      longest = record {
        front = found.rest;
        text_is = cc (h.text_is ∙ ap (λ t. t ++ rest) found.text_is);
        stands = found.stands;
        longest = λ a b w e k. omega (arith, h.longest (x ∷ a) b (Some w) (ap (λ t. x ∷ t) e) (dotted_of D Specifier x a w is k), ap length found.text_is);
      };
    }

-- ---- components

-- the text begins with a digit
abbrev BeginsByDigit : List ℕ → Type 0
BeginsByDigit [] = ⊥
BeginsByDigit (x ∷ rest) = is_ascii_digit x ≡ true

-- the longest strict component is x, or it is the `0` before further digits
data IsCutComponent (x : XRange) (rest : List ℕ) (text : List ℕ) : Type 0 where
  whole_component : IsLongest (IsComponent Specifier) text x rest → IsCutComponent x rest text
  cut_component : {more : List ℕ} → IsLongest (IsComponent Specifier) text (Val 0) more → BeginsByDigit more → IsCutComponent x rest text

no_wildcard : (x : ℕ) (rest : List ℕ) → is_ascii_digit x ≡ true → (b : ℕ) (r : List ℕ) → is_wildcard Specifier b ≡ true → x ∷ rest ≡ b ∷ r → ⊥
no_wildcard x rest d b r w e = let byte : x ≡ b = cc e in wildcard_no_digit Specifier b w (rw byte at d)

first_digit : (x : ℕ) (a : List ℕ) (n : ℕ) → IsLooseNumber (x ∷ a) n → is_ascii_digit x ≡ true
first_digit x a n h = (and_parts (is_ascii_digit x) _ h.stands.pass).0

-- a number that doesn't begin with `0` is a strict one
number_front : (x : ℕ) (a rest : List ℕ) (n : ℕ) → IsLooseNumber (x ∷ a) n → Stops is_ascii_digit rest → (x == 48) ≡ false → IsLongest (IsComponent Specifier) (x ∷ (a ++ rest)) (Val n) rest
number_front x a rest n h stops other =
    let p = in_place (number_one Loose) loose_goes (x ∷ a) rest h stops in
    let size : length p.front ≡ length (x ∷ a) = omega (arith, ap length p.text_is, length-append p.front rest, length-append (x ∷ a) rest) in
    component_number Specifier (x ∷ (a ++ rest)) (no_wildcard x (a ++ rest) (first_digit x a n h)) rest n (record {
      front = x ∷ a;
      text_is = refl;
      stands = record { digits = h; no_leading_zero = λ z. absurd (grind (arith, nat_tests)) };
      longest = λ b c w e k. let best = p.longest b c w e k.digits in (omega (arith, best.0, size), λ s. best.1 (s ∙ sym size));
    })

-- a `0` alone is, and of any other number that begins with it the `0` is split off
zero_front : (a rest : List ℕ) (n : ℕ) → IsLooseNumber (48 ∷ a) n → IsCutComponent (Val n) rest (48 ∷ (a ++ rest))
zero_front [] rest n h =
    let zero : n ≡ 0 = h.is ∙ ap (digits_value 10) h.stands.is in
    rw zero (whole_component (component_number Specifier (48 ∷ rest) (no_wildcard 48 rest refl) rest 0 (strict_zero (48 ∷ rest) rest refl)))
zero_front (y ∷ a) rest n h =
    let digits = (and_parts (is_ascii_digit 48) _ h.stands.pass).1 in
    cut_component (component_number Specifier (48 ∷ (y ∷ (a ++ rest))) (no_wildcard 48 (y ∷ (a ++ rest)) refl) (y ∷ (a ++ rest)) 0 (strict_zero _ (y ∷ (a ++ rest)) refl)) (and_parts (is_ascii_digit y) _ digits).0

number_cut : (a rest : List ℕ) (n : ℕ) → IsLooseNumber a n → Stops is_ascii_digit rest → IsCutComponent (Val n) rest (a ++ rest)
number_cut [] rest n h stops = absurd (loose_some.some n h)
number_cut (x ∷ a) rest n h stops = elim (cases_Bool (x == 48)) [
  | inl zero ↦ let e : x ≡ 48 = grind (arith, nat_tests) in rw e (zero_front a rest n (rw e at h))
  | inr other ↦ whole_component (number_front x a rest n h stops other)
]

component_cut : (a rest : List ℕ) (x : XRange) → IsComponent Normal a x → (is_ascii_digit (slice_index a 0) ≡ true → Stops is_ascii_digit rest) → IsCutComponent x rest (a ++ rest)
component_cut a rest (Val n) h stops = number_cut a rest n h (stops (starts a h))
  where
    starts : (a : List ℕ) → IsLooseNumber a n → is_ascii_digit (slice_index a 0) ≡ true
    starts [] h = absurd (loose_some.some n h)
    starts (x ∷ a) h = first_digit x a n h
component_cut a rest Wildcard (b, h) stops = rw h.text_is (whole_component (component_wildcard Specifier b (b ∷ rest) rest (wider b h.passes) refl))
  where
    wider : (b : ℕ) → is_wildcard Normal b ≡ true → is_wildcard Specifier b ≡ true
    wider b h = grind (arith, nat_tests)

-- ---- a component and a qualifier

no_qualifier : IsQualifier Strict [] (record { pre = []; build = [] })
no_qualifier = record { value = (None, None); stands = record { first = []; second = []; text_is = refl; in_first = refl; in_second = refl; seam = tt }; is = refl }

module _ {text middle rest : List ℕ} {x : XRange} (v : XRange × Qualifier) (h : Longest (Joined IsNumberEnd (IsComponent Specifier) (IsQualifier Strict)) text v rest) (p : IsLongest (IsComponent Specifier) text x middle) where
  third_whole : text ≡ h.stands.first ++ (h.stands.second ++ rest)
  third_whole = h.text_is ∙ (ap (λ t. t ++ rest) h.stands.text_is ∙ append_assoc h.stands.first h.stands.second rest)

  third_early : (second : List ℕ) → IsQualifier Strict second v.1 → (y : ℕ) (more : List ℕ) → p.front ≡ h.stands.first ++ (y ∷ more) → second ++ rest ≡ (y ∷ more) ++ middle → length h.front ≡ length h.stands.first + length second → ⊥
  third_early [] k y more e f size =
      let both : Joined IsNumberEnd (IsComponent Specifier) (IsQualifier Strict) (p.front ++ []) (x, record { pre = []; build = [] }) = record { first = p.front; second = []; text_is = refl; in_first = p.stands; in_second = no_qualifier; seam = λ d g. cc g } in
      let long = h.longest (p.front ++ []) middle _ (p.text_is ∙ ap (λ t. t ++ middle) (sym (append-nil p.front))) both in
      omega (arith, long, size, length-append p.front [], ap length e, length-append h.stands.first (y ∷ more))
  third_early (z ∷ second) k y more e f size =
      let byte : z ≡ y = cc f in
      let digit = (component_goes Specifier).goes y (record { front = h.stands.first; more = more; short_value = v.0; long_value = x; short = h.stands.in_first; long = rw e at p.stands }) in
      strict_no_digit y second v.1 (rw byte at k) digit

  third_value : v.0 ≡ x
  third_value = elim (fronts h.stands.first p.front (h.stands.second ++ rest) middle (sym third_whole ∙ p.text_is)) [
    | same e f ↦ (p.longest h.stands.first (h.stands.second ++ rest) v.0 third_whole h.stands.in_first).1 (ap length e)
    | shorter y more e f ↦ absurd (third_early h.stands.second h.stands.in_second y more e f (ap length h.stands.text_is ∙ length-append h.stands.first h.stands.second))
    | longer y more e f ↦ absurd (omega (arith, (p.longest h.stands.first (h.stands.second ++ rest) v.0 third_whole h.stands.in_first).0, ap length e, length-append p.front (y ∷ more)))
  ]

-- ---- the numbers of a partial version, and those of its longest strict prefix

-- the same, or cut after the `0` of a number that begins with it
pub data IsCutOf (major minor patch : XRange) : XRange → XRange → XRange → Type 0 where
  all_same : IsCutOf major minor patch major minor patch
  major_cut : IsCutOf major minor patch (Val 0) Wildcard Wildcard
  minor_cut : IsCutOf major minor patch major (Val 0) Wildcard
  patch_cut : IsCutOf major minor patch major minor (Val 0)

abbrev pub IsCut : Partial → Partial → Type 0
IsCut p q = IsCutOf p.major p.minor p.patch q.major q.minor q.patch

-- neither a digit nor a dot follows
pub record IsPast (text : List ℕ) : Type 0 where
  pub no_digit : Stops is_ascii_digit text
  pub no_dot : NoDot text

digit_no_dot : (text : List ℕ) → BeginsByDigit text → NoDot text
digit_no_dot [] d b more is e = d
digit_no_dot (x ∷ rest) d b more is e = let byte : x ≡ b = cc e in dot_no_digit Specifier b is (rw byte at d)

after_number : (a q w : List ℕ) → IsNumberEnd a q → IsPast w → is_ascii_digit (slice_index a 0) ≡ true → Stops is_ascii_digit (q ++ w)
after_number a [] w seam past d = past.no_digit
after_number a (y ∷ q) w seam past d = false_from_ne_true (is_ascii_digit y) (seam d)

abbrev Thirds : List ℕ → XRange × Qualifier → Type 0
Thirds = Joined IsNumberEnd (IsComponent Specifier) (IsQualifier Strict)

abbrev NormalThirds : List ℕ → XRange × Qualifier → Type 0
NormalThirds = Joined IsNumberEnd (IsComponent Normal) (IsQualifier Loose)

abbrev NormalSeconds : List ℕ → XRange × Option (XRange × Qualifier) → Type 0
NormalSeconds = Followed (IsComponent Normal) (Optional (IsThird Normal))

-- a component alone is a text of the third part
third_alone : {text middle : List ℕ} {x : XRange} (p : IsLongest (IsComponent Specifier) text x middle) → Thirds (p.front ++ []) (x, record { pre = []; build = [] })
third_alone {x = x} p = record { first = p.front; second = []; text_is = refl; in_first = p.stands; in_second = no_qualifier; seam = λ d g. cc g }

whole_text : {text middle : List ℕ} {x : XRange} (p : IsLongest (IsComponent Specifier) text x middle) → text ≡ (p.front ++ []) ++ middle
whole_text {middle = middle} p = p.text_is ∙ ap (λ t. t ++ middle) (sym (append-nil p.front))

module _ (major minor : XRange) {rest : List ℕ} (w : List ℕ) (past : IsPast w) where
  third_found : (b : ℕ) → IsDot Specifier b → (text : List ℕ) (x : XRange) (q : Qualifier) (after : List ℕ) → IsCutComponent x after text → (o : Option (XRange × Qualifier)) → Longest (Optional (IsThird Specifier)) (b ∷ text) o rest
      → IsCut (partial_of (major, Some (minor, Some (x, q)))) (partial_of (major, Some (minor, o)))
  third_found b is text x q after (whole_component p) o h =
      let d = dot {D = Thirds} b is o (p.front ++ []) after (x, record { pre = []; build = [] }) (whole_text p) (third_alone p) h in
      rw (d.is, third_value d.value d.longest p) all_same
  third_found b is text x q after (cut_component {more} p digit) o h =
      let d = dot {D = Thirds} b is o (p.front ++ []) more (Val 0, record { pre = []; build = [] }) (whole_text p) (third_alone p) h in
      rw (d.is, third_value d.value d.longest p) patch_cut

  third_cut : (s : List ℕ) (t : Option (XRange × Qualifier)) → Optional (IsThird Normal) s t → (o : Option (XRange × Qualifier)) → Longest (Optional (IsThird Specifier)) (s ++ w) o rest
      → IsCut (partial_of (major, Some (minor, t))) (partial_of (major, Some (minor, o)))
  third_cut s None k o h = rw (no_dot {D = Thirds} o past.no_dot (rw k at h)) all_same
  third_cut t (Some (x, q)) d o h =
      let sep = at_dot NormalThirds Normal t (x, q) d in
      let s = sep.rest in
      let k = sep.stands in
      let found = component_cut k.first (k.second ++ w) x k.in_first (after_number k.first k.second w k.seam past) in
      third_found sep.byte (normal_dot Specifier sep.byte sep.is_dot) (s ++ w) x q (k.second ++ w) (subst (IsCutComponent x (k.second ++ w)) (sym (ap (λ t. t ++ w) k.text_is ∙ append_assoc k.first k.second w)) found) o (rw sep.text_is at h)

abbrev Seconds : List ℕ → XRange × Option (XRange × Qualifier) → Type 0
Seconds = Followed (IsComponent Specifier) (Optional (IsThird Specifier))

second_alone : {text middle : List ℕ} {x : XRange} (p : IsLongest (IsComponent Specifier) text x middle) → Seconds (p.front ++ []) (x, None)
second_alone p = record { first = p.front; second = []; text_is = refl; in_first = p.stands; in_second = refl; seam = tt }

-- no digit follows a component
after_component : {V : Type 0} (D : List ℕ → V → Type 0) (s w : List ℕ) (t : Option V) → Optional (IsDotted Normal D) s t → IsPast w → Stops is_ascii_digit (s ++ w)
after_component D s w None k past = rw k past.no_digit
after_component D s w (Some v) k past = let sep = at_dot D Normal s v k in rw sep.text_is (false_from_ne_true (is_ascii_digit sep.byte) (dot_no_digit Normal sep.byte sep.is_dot))

minor_found : (major x : XRange) (t : Option (XRange × Qualifier)) → IsCut (partial_of (major, Some (x, t))) (partial_of (major, Some (Val 0, None)))
minor_found major x None = minor_cut
minor_found major x (Some v) = minor_cut

module _ (major : XRange) {rest : List ℕ} (w : List ℕ) (past : IsPast w) where
  second_found : (b : ℕ) → IsDot Specifier b → (text : List ℕ) (x : XRange) (t : Option (XRange × Qualifier)) (s : List ℕ) → Optional (IsThird Normal) s t → IsCutComponent x (s ++ w) text
      → (o : Option (XRange × Option (XRange × Qualifier))) → Longest (Optional (IsSecond Specifier)) (b ∷ text) o rest → IsCut (partial_of (major, Some (x, t))) (partial_of (major, o))
  second_found b is text x t s k (whole_component p) o h =
      let d = dot {D = Seconds} b is o (p.front ++ []) (s ++ w) (x, None) (whole_text p) (second_alone p) h in
      let parts = split (component_dot_apart Thirds Specifier) None refl d.value d.longest p in
      let cut = third_cut major x w past s t k d.value.1 parts.second in
      rw d.is (subst (λ y. IsCut (partial_of (major, Some (x, t))) (partial_of (major, Some (y, d.value.1)))) (sym parts.value) cut)
  second_found b is text x t s k (cut_component {more} p digit) o h =
      let d = dot {D = Seconds} b is o (p.front ++ []) more (Val 0, None) (whole_text p) (second_alone p) h in
      let parts = split (component_dot_apart Thirds Specifier) None refl d.value d.longest p in
      let none : d.value.1 ≡ None = no_dot {D = Thirds} d.value.1 (digit_no_dot more digit) parts.second in
      rw (d.is, pair_is d.value (Val 0) None parts.value none) (minor_found major x t)

  second_cut : (s : List ℕ) (t : Option (XRange × Option (XRange × Qualifier))) → Optional (IsSecond Normal) s t → (o : Option (XRange × Option (XRange × Qualifier))) → Longest (Optional (IsSecond Specifier)) (s ++ w) o rest
      → IsCut (partial_of (major, t)) (partial_of (major, o))
  second_cut s None k o h = rw (no_dot {D = Seconds} o past.no_dot (rw k at h)) all_same
  second_cut u (Some (x, t)) d o h =
      let sep = at_dot NormalSeconds Normal u (x, t) d in
      let s = sep.rest in
      let k = sep.stands in
      let found = component_cut k.first (k.second ++ w) x k.in_first (λ d. after_component NormalThirds k.second w t k.in_second past) in
      second_found sep.byte (normal_dot Specifier sep.byte sep.is_dot) (s ++ w) x t k.second k.in_second (subst (IsCutComponent x (k.second ++ w)) (sym (ap (λ t. t ++ w) k.text_is ∙ append_assoc k.first k.second w)) found) o (rw sep.text_is at h)

-- how the strict grammar parses a partial version that the normalized grammar matches
module _ (w : List ℕ) (past : IsPast w) {rest : List ℕ} where
  first_found : (text : List ℕ) (x : XRange) (t : Option (XRange × Option (XRange × Qualifier))) (s : List ℕ) → Optional (IsSecond Normal) s t → IsCutComponent x (s ++ w) text
      → (v : XRange × Option (XRange × Option (XRange × Qualifier))) → Longest (Followed (IsComponent Specifier) (Optional (IsSecond Specifier))) text v rest → IsCut (partial_of (x, t)) (partial_of v)
  first_found text x t s k (whole_component p) v h =
      let parts = split (component_dot_apart Seconds Specifier) None refl v h p in
      subst (λ y. IsCut (partial_of (x, t)) (partial_of (y, v.1))) (sym parts.value) (second_cut x w past s t k v.1 parts.second)
  first_found text x t s k (cut_component {more} p digit) v h =
      let parts = split (component_dot_apart Seconds Specifier) None refl v h p in
      let none : v.1 ≡ None = no_dot {D = Seconds} v.1 (digit_no_dot more digit) parts.second in
      rw (pair_is v (Val 0) None parts.value none) major_cut

  pub bare_cut : (text : List ℕ) (p q : Partial) → IsBarePartial Normal text p → IsLongest (IsBarePartial Specifier) (text ++ w) q rest → IsCut p q
  bare_cut text p q m h =
      let k = m.stands in
      let found = component_cut k.first (k.second ++ w) m.value.0 k.in_first (λ d. after_component NormalSeconds k.second w m.value.1 k.in_second past) in
      let same : text ++ w ≡ k.first ++ (k.second ++ w) = ap (λ t. t ++ w) k.text_is ∙ append_assoc k.first k.second w in
      let long : Longest (Followed (IsComponent Specifier) (Optional (IsSecond Specifier))) (text ++ w) h.stands.value rest = record {
        front = h.front;
        text_is = h.text_is;
        stands = h.stands.stands;
        longest = λ a b u e r. (h.longest a b (partial_of u) e (record { value = u; stands = r; is = refl })).0;
      } in
      rw (m.is, h.stands.is) (first_found (text ++ w) m.value.0 m.value.1 k.second k.in_second (subst (IsCutComponent m.value.0 (k.second ++ w)) (sym same) found) h.stands.value long)

-- the text begins with some strict partial version
pub record HasSpecifier (text : List ℕ) : Type 0 where
  pub front : List ℕ
  pub rest : List ℕ
  pub value : Partial
  pub text_is : text ≡ front ++ rest
  pub stands : IsBarePartial Specifier front value

first_alone : {text middle : List ℕ} {x : XRange} → IsLongest (IsComponent Specifier) text x middle → HasSpecifier text
first_alone {middle = middle} {x = x} p = record {
  front = p.front ++ [];
  rest = middle;
  value = partial_of (x, None);
  text_is = whole_text p;
  stands = record { value = (x, None); stands = record { first = p.front; second = []; text_is = refl; in_first = p.stands; in_second = refl; seam = tt }; is = refl };
}

pub bare_has_specifier : (text w : List ℕ) (p : Partial) → IsBarePartial Normal text p → IsPast w → HasSpecifier (text ++ w)
bare_has_specifier text w p m past =
    let k = m.stands in
    let same : text ++ w ≡ k.first ++ (k.second ++ w) = ap (λ t. t ++ w) k.text_is ∙ append_assoc k.first k.second w in
    subst HasSpecifier (sym same) (go (component_cut k.first (k.second ++ w) m.value.0 k.in_first (λ d. after_component NormalSeconds k.second w m.value.1 k.in_second past)))
  where
    go : {x : XRange} {rest text : List ℕ} → IsCutComponent x rest text → HasSpecifier text
    go (whole_component p) = first_alone p
    go (cut_component p d) = first_alone p
