-- How the texts of each rule are made and taken apart, by one lemma for each way to write a part: what is said of values rests on these, and
-- not on how a definition spells the part.
use Rattle.std.proofs.Common.{◌≡◌, ℕ, true, List, [], ◌∷◌, ◌++◌, None, length, refl, sym, ap, ◌∙◌, arith, ◌==◌, if◌then◌else◌, slice_index}
use Rattle.std.specs.Char.{is_ascii_digit, is_not_whitespace}
use Rattle.std.proofs.lemmas.Bool.Decides.{nat_tests}
use Rattle.std.proofs.lemmas.Str.{NoCharPasses-nil}
use Rattle.semver_base.specs.Comparators.{Bare, Caret, Comparator, OfPrimitive, Tilde, primitive_kind_text}
use Rattle.semver_base.specs.Grammar.{Prefixed, this, that}
use Rattle.semver_base.specs.Lexical.{IsWhitespace}
use Rattle.semver_base.specs.ValueLaws.{Unambiguous}
use Rattle.semver_base.specs.WhitespaceLaws.{is_whitespace_byte}
use Rattle.semver_base.specs.WrittenLaws.{after, by_after, follow}
use Rattle.semver_base.specs.declared.partial.Partial.{Partial}
use Rattle.semver_base.specs.declared.partial.PrimitiveKind.{PrimitiveKind}
use Rattle.semver_base.specs.declared.partial.PrimitiveKind.TheVariants.{GreaterThan, LessThan, GreaterThanOrEqual, LessThanOrEqual, Equal}
use Rattle.semver_req.specs.Comparators.{HasOperator, IsComparator, IsLed, IsPrimitiveKind, no_more}
use Rattle.semver_req.specs.Partials.{IsPartial}
use Rattle.semver_req.specs.Pieces.{IsCutting, npm, normal}
use Rattle.semver_req.specs.Written.{IsNonPrimitive, IsTildes}
use Rattle.semver_req.specs.declared.common.values.Flavour.{Flavour}
use Rattle.semver_req.specs.declared.common.values.Flavour.TheVariants.{Npm, Normal, Specifier}

-- texts of A are texts of B, with the same values
abbrev pub Wider : {V : Type 0} → (List ℕ → V → Type 0) → (List ℕ → V → Type 0) → Type 0
Wider {V} A B = (text : List ℕ) (v : V) → A text v → B text v

-- ---- between the numbers of a partial version

abbrev pub IsDot : Flavour → ℕ → Type 0
IsDot f b = b ≡ 46

-- such a byte, and a text of A after it
abbrev pub IsDotted : {V : Type 0} → Flavour → (List ℕ → V → Type 0) → List ℕ → V → Type 0
IsDotted f A = Prefixed 46 A

pub plain_dot : (f : Flavour) → IsDot f 46
plain_dot f = refl

pub normal_dot : (f : Flavour) (b : ℕ) → IsDot Normal b → IsDot f b
normal_dot f b d = d

pub dot_no_digit : (f : Flavour) (b : ℕ) → IsDot f b → is_ascii_digit b ≡ true → ⊥
dot_no_digit f b d h = grind (arith, nat_tests)

pub dot_no_whitespace : (f : Flavour) (b : ℕ) → IsDot f b → is_whitespace_byte b ≡ true → ⊥
dot_no_whitespace f b d h = grind (arith, nat_tests)

-- the byte, and what follows it
pub record AtDot {V : Type 0} (f : Flavour) (A : List ℕ → V → Type 0) (text : List ℕ) (v : V) : Type 0 where
  pub byte : ℕ
  pub rest : List ℕ
  pub text_is : text ≡ byte ∷ rest
  pub is_dot : IsDot f byte
  pub stands : A rest v

module _ {V : Type 0} (A : List ℕ → V → Type 0) where
  pub dotted_of : (f : Flavour) (b : ℕ) (text : List ℕ) (v : V) → IsDot f b → A text v → IsDotted f A (b ∷ text) v
  dotted_of f b text v d h = (d, h)

  pub at_dot : (f : Flavour) (text : List ℕ) (v : V) → IsDotted f A text v → AtDot f A text v
  at_dot f [] v h = absurd h
  at_dot f (b ∷ rest) v h = record { byte = b; rest = rest; text_is = refl; is_dot = h.0; stands = h.1 }

-- ---- comparators

primitive_kind_of : List ℕ → PrimitiveKind
primitive_kind_of text =
    if length text == 2 then (if slice_index text 0 == 62 then GreaterThanOrEqual else LessThanOrEqual)
    else (if slice_index text 0 == 62 then GreaterThan else (if slice_index text 0 == 60 then LessThan else Equal))

primitive_kind_is : (s : PrimitiveKind) → s ≡ primitive_kind_of (primitive_kind_text s)
unfolding primitive_kind_of
primitive_kind_is GreaterThan = refl
primitive_kind_is LessThan = refl
primitive_kind_is GreaterThanOrEqual = refl
primitive_kind_is LessThanOrEqual = refl
primitive_kind_is Equal = refl

pub primitive_kind_one : Unambiguous IsPrimitiveKind
primitive_kind_one = record { one = λ text v w h k. primitive_kind_is v ∙ (ap primitive_kind_of (sym h ∙ k) ∙ sym (primitive_kind_is w)) }

pub no_whitespace : IsWhitespace [] tt
no_whitespace = NoCharPasses-nil is_not_whitespace

abbrev pub IsTildeSign : Flavour → ℕ → Type 0
IsTildeSign f b = b ≡ 126

abbrev pub IsCaretSign : Flavour → ℕ → Type 0
IsCaretSign f b = b ≡ 94

pub plain_tilde : (f : Flavour) → IsTildeSign f 126
plain_tilde f = refl

pub plain_caret : (f : Flavour) → IsCaretSign f 94
plain_caret f = refl

pub normal_tilde : (f : Flavour) (b : ℕ) → IsTildeSign Normal b → IsTildeSign f b
normal_tilde f b s = s

pub normal_caret : (f : Flavour) (b : ℕ) → IsCaretSign Normal b → IsCaretSign f b
normal_caret f b s = s

pub tilde_no_caret : (f g : Flavour) (b : ℕ) → IsTildeSign f b → IsCaretSign g b → ⊥
tilde_no_caret f g b s t = omega (arith, s, t)

npm_tildes : (b : ℕ) → IsTildeSign Npm b → IsTildes (b ∷ []) tt
npm_tildes b s = that (ap (λ x. x ∷ []) s)

-- the operator, and the partial version after it
pub data AtOperator (f : Flavour) (text : List ℕ) (c : Comparator) : Type 0 where
  at_tilde : (b : ℕ) {rest : List ℕ} {p : Partial} → text ≡ b ∷ rest → IsTildeSign f b → IsPartial f rest p → c ≡ Tilde p → AtOperator f text c
  at_caret : (b : ℕ) {rest : List ℕ} {p : Partial} → text ≡ b ∷ rest → IsCaretSign f b → IsPartial f rest p → c ≡ Caret p → AtOperator f text c

pub at_operator : (f : Flavour) (text : List ℕ) (c : Comparator) → HasOperator f text c → AtOperator f text c
at_operator f [] c (this m) = absurd m.stands
at_operator f (b ∷ text) c (this m) = at_tilde b refl m.stands.0 m.stands.1 m.is
at_operator f [] c (that m) = absurd m.stands
at_operator f (b ∷ text) c (that m) = at_caret b refl m.stands.0 m.stands.1 m.is

pub with_tilde : (f : Flavour) (b : ℕ) (text : List ℕ) (p : Partial) → IsTildeSign f b → IsPartial f text p → HasOperator f (b ∷ text) (Tilde p)
with_tilde f b text p s h = this (record { value = p; stands = (s, h); is = refl })

pub with_caret : (f : Flavour) (b : ℕ) (text : List ℕ) (p : Partial) → IsCaretSign f b → IsPartial f text p → HasOperator f (b ∷ text) (Caret p)
with_caret f b text p s h = that (record { value = p; stands = (s, h); is = refl })

plain_led : (text : List ℕ) (p : Partial) → IsPartial Npm text p → IsLed text p
plain_led text p h = after [] text tt no_more (after [] text tt no_whitespace (after [] text None refl (after [] text tt no_whitespace h)))

operator_npm : (text : List ℕ) (c : Comparator) → AtOperator Npm text c → IsComparator Npm text c
operator_npm text c (at_tilde b {rest} {p} e s h is) = rw (e, is) (this (this (record { value = p; stands = after [] (b ∷ rest) None refl (after (b ∷ []) rest tt (npm_tildes b s) (plain_led rest p h)); is = refl })))
operator_npm text c (at_caret b {rest} {p} e s h is) = rw (e, is) (this (that (record { value = p; stands = after [] (b ∷ rest) None refl (s, plain_led rest p h); is = refl })))

-- `~`, `^` or nothing, and a partial version
pub non_primitive : (f : Flavour) → IsCutting f → Wider (IsNonPrimitive f) (IsComparator f)
non_primitive Npm npm text c (this h) = operator_npm text c (at_operator Npm text c h)
non_primitive Npm npm text c (that h) = that (that h)
non_primitive Normal normal text c (this h) = this h
non_primitive Normal normal text c (that h) = that (that h)
non_primitive Specifier cuts text c h = elim cuts [ ]

-- a comparison operator, whitespace and a partial version
pub with_primitive : (f : Flavour) → IsCutting f → (kind : PrimitiveKind) (gap text : List ℕ) (p : Partial) → IsWhitespace gap tt → IsPartial f text p → IsComparator f (primitive_kind_text kind ++ (gap ++ text)) (OfPrimitive kind p)
with_primitive Npm npm kind gap text p w h = that (this (record { value = (kind, p); stands = follow (primitive_kind_text kind) (gap ++ text) refl (after gap text tt w h); is = refl }))
with_primitive Normal normal kind gap text p w h = that (this (record { value = (kind, p); stands = follow (primitive_kind_text kind) (gap ++ text) refl (after gap text tt w h); is = refl }))
with_primitive Specifier cuts kind gap text p w h = elim cuts [ ]

-- what follows the operator
abbrev SomePartial : Flavour → Partial → Type 0
SomePartial f p = (text : List ℕ) × IsPartial f text p

-- a comparator of the grammar has a partial version of it
pub data HasPartial (f : Flavour) : Comparator → Type 0 where
  tilde : (text : List ℕ) {p : Partial} → IsPartial f text p → HasPartial f (Tilde p)
  caret : (text : List ℕ) {p : Partial} → IsPartial f text p → HasPartial f (Caret p)
  primitive : (text : List ℕ) {kind : PrimitiveKind} {p : Partial} → IsPartial f text p → HasPartial f (OfPrimitive kind p)
  bare : (text : List ℕ) {p : Partial} → IsPartial f text p → HasPartial f (Bare p)

led_partial : (text : List ℕ) (p : Partial) → IsLed text p → SomePartial Npm p
led_partial text p h = by_after (SomePartial Npm) (λ t v k. by_after (SomePartial Npm) (λ t v k. by_after (SomePartial Npm) (λ t v k. by_after (SomePartial Npm) (λ t v k. (t, k)) k) k) k) h

operator_partial : (f : Flavour) (text : List ℕ) (c : Comparator) → AtOperator f text c → HasPartial f c
operator_partial f text c (at_tilde b {rest} e s h is) = rw is (tilde rest h)
operator_partial f text c (at_caret b {rest} e s h is) = rw is (caret rest h)

caret_led : (text : List ℕ) (p : Partial) → Prefixed 94 IsLed text p → SomePartial Npm p
caret_led [] p h = absurd h
caret_led (b ∷ text) p h = led_partial text p h.1

pub comparator_partial : (f : Flavour) (text : List ℕ) (c : Comparator) → IsComparator f text c → HasPartial f c
comparator_partial Npm text c (this (this m)) = let p = by_after (SomePartial Npm) (λ t v k. by_after (SomePartial Npm) led_partial k) m.stands in rw m.is (tilde p.0 p.1)
comparator_partial Npm text c (this (that m)) = let p = by_after (SomePartial Npm) caret_led m.stands in rw m.is (caret p.0 p.1)
comparator_partial Npm text c (that (this m)) = let p = by_after (SomePartial Npm) (λ t v k. (t, k)) m.stands.in_second in rw m.is (primitive p.0 p.1)
comparator_partial Npm text c (that (that m)) = rw m.is (bare text m.stands)
comparator_partial Normal text c (this h) = operator_partial Normal text c (at_operator Normal text c h)
comparator_partial Normal text c (that (this m)) = let p = by_after (SomePartial Normal) (λ t v k. (t, k)) m.stands.in_second in rw m.is (primitive p.0 p.1)
comparator_partial Normal text c (that (that m)) = rw m.is (bare text m.stands)
comparator_partial Specifier text c (this h) = operator_partial Specifier text c (at_operator Specifier text c h)
comparator_partial Specifier text c (that m) = rw m.is (bare text m.stands)
