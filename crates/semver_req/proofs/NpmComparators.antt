-- npm's leading comparators: an ignored operator, an operator, and what leads the partial version.
use Rattle.std.proofs.Common.{◌≡◌, ◌≤◌, ℕ, List, [], ◌∷◌, ◌++◌, length, get_or, Option, Some, None, refl, sym, ap, ◌∙◌, arith, Bor, codes, unwrap_or}
use Rattle.std.specs.Char.{is_not_whitespace}
use Rattle.std.proofs.lemmas.Str.{NoCharPasses-nil}
use Rattle.semver_base.specs.Comparators.{Comparator, Tilde, Caret}
use Rattle.semver_base.specs.Grammar.{Either, this, that, HasNone, IsAfter, IsLongest, ReadsAs}
use Rattle.semver_base.specs.Lexical.{IsWhitespace, IsSomeWhitespace}
use Rattle.semver_base.specs.declared.lexical.values.Measured.{Measured}
use Rattle.semver_base.specs.declared.partial.Partial.{Partial}
use Rattle.semver_base.specs.declared.partial.PrimitiveKind.{PrimitiveKind}
use Rattle.semver_base.specs.ByteLaws.{joined_some_text}
use Rattle.semver_base.specs.GrammarLaws.{either_longer, either_none, either_that, either_this, followed, followed_none_second, joined_none_first, mapped, mapped_none, prefixed_none, prefixed_other, prefixed_some, optional_none, optional_some}
use Rattle.semver_req.specs.Comparators.{IsComparator, IsEquals, IsIgnored, IsLed, IsNpmCaret, IsNpmTilde, IsOfPrimitive, IsBare, IsPrimitiveKind, no_more, one_more}
use Rattle.semver_req.specs.Partials.{IsPartial, sized_partial}
use Rattle.semver_req.specs.Written.{IsNpmFront, IsNpmOperatorCut, IsTildes, ReadsByOperator, ReadsComparator, ReadsOperatorForm, comparator_of, with_operator}
use Rattle.semver_req.specs.declared.common.comparator.Operator.{Operator}
use Rattle.semver_req.specs.declared.common.comparator.Operator.TheVariants as operator
use Rattle.semver_req.specs.declared.common.comparator.Written.{Written}
use Rattle.semver_req.specs.declared.common.values.Flavour.TheVariants.{Npm}
use Rattle.semver_req.proofs.GrammarFacts.{ignored_caret, ignored_tildes, primitive_kind_apart, primitive_kind_some, primitive_kind_whitespace, tildes_led, whitespace_apart}
use Rattle.semver_req.proofs.Operators.{after_caret, after_tilde, caret_no_primitive_kind, no_bare, primitive_byte, tilde_no_primitive_kind}
use Rattle.semver_req.proofs.Separators.{text_longest, text_none}
use Rattle.semver_req.proofs.PrimitiveKinds.{primitive_none}

-- ---- any number of `=`

equals_some : {text rest end : List ℕ} → text ≡ 61 ∷ rest → IsLongest IsEquals rest tt end → IsLongest IsEquals text tt end
equals_some {text} {rest} {end} e p = record { front = 61 ∷ p.front; text_is = e ∙ ap (λ t. 61 ∷ t) p.text_is; stands = one_more p.stands; longest = λ a b w f h. (go a b w f h, λ _. refl) }
  where
    go : (a b : List ℕ) (w : Unit {0}) → text ≡ a ++ b → IsEquals a w → length a ≤ length (61 ∷ p.front)
    go a b w f no_more = omega arith
    go a b w f (one_more {rest = t} h) = let tail : rest ≡ t ++ b = cc (sym e ∙ f) in omega (arith, (p.longest t b tt tail h).0)

pub equals_none : {text : List ℕ} → ((rest : List ℕ) → text ≡ 61 ∷ rest → ⊥) → IsLongest IsEquals text tt text
equals_none {text} other = record { front = []; text_is = refl; stands = no_more; longest = λ a b w e h. (go a b w e h, λ _. refl) }
  where
    go : (a b : List ℕ) (w : Unit {0}) → text ≡ a ++ b → IsEquals a w → length a ≤ 0
    go a b w e no_more = omega arith
    go a b w e (one_more {rest = t} h) = absurd (other (t ++ b) e)

-- what follows the `=` of what is left follows all of them
abbrev pub EqualsSoFar : List ℕ → List ℕ → Type 0
EqualsSoFar text rest = (end : List ℕ) → IsLongest IsEquals rest tt end → IsLongest IsEquals text tt end

pub equals_so_far : {text rest next : List ℕ} → EqualsSoFar text rest → rest ≡ 61 ∷ next → EqualsSoFar text next
equals_so_far so e = λ end p. so end (equals_some e p)

-- ---- `~>` or `~`

tilde_alone : {text rest : List ℕ} → text ≡ 126 ∷ rest → ((more : List ℕ) → rest ≡ 62 ∷ more → ⊥) → IsLongest IsTildes text tt rest
tilde_alone {text} {rest} e other = either_that (text_none (codes "~>") text (λ r f. other r (cc (sym e ∙ f)))) (text_longest (codes "~") text rest e)

tilde_greater : {text middle rest : List ℕ} → text ≡ 126 ∷ middle → middle ≡ 62 ∷ rest → IsLongest IsTildes text tt rest
tilde_greater {text} {middle} {rest} e f = either_longer (text_longest (codes "~>") text rest (e ∙ ap (λ t. 126 ∷ t) f)) (text_longest (codes "~") text middle e) (omega (arith, ap length f))

-- `~`, and then a `>` or none
pub tilde_front : {text : List ℕ} (middle answer : Bor (List ℕ)) → text ≡ 126 ∷ middle.now → (r : Option (Bor (List ℕ))) → IsAfter 62 middle.now r → answer ≡ unwrap_or r middle → IsLongest IsTildes text tt answer.now
tilde_front middle answer e None other is = rw is (tilde_alone e other)
tilde_front middle answer e (Some more) f is = rw is (tilde_greater e f)

tildes_none : {text : List ℕ} → ((rest : List ℕ) → text ≡ 126 ∷ rest → ⊥) → HasNone IsTildes text
tildes_none {text} other = either_none (text_none (codes "~>") text (λ r e. other (62 ∷ r) e)) (text_none (codes "~") text (λ r e. other r e))

-- the text begins with a `~`
tildes_byte : {text rest : List ℕ} → IsLongest IsTildes text tt rest → (more : List ℕ) × (text ≡ 126 ∷ more)
tildes_byte {text} {rest} p = go p.stands
  where
    go : IsTildes p.front tt → (more : List ℕ) × (text ≡ 126 ∷ more)
    go (this h) = (62 ∷ rest, p.text_is ∙ ap (λ t. t ++ rest) h)
    go (that h) = (rest, p.text_is ∙ ap (λ t. t ++ rest) h)

-- ---- an ignored operator, and an operator

module _ {text start : List ℕ} {o : Option (PrimitiveKind × Unit {0})} (i : IsLongest IsIgnored text o start) where
  tilde_some : {middle rest : List ℕ} {p : Partial} → IsLongest IsTildes start tt middle → IsLongest IsLed middle p rest → IsLongest IsNpmTilde text (Tilde p) rest
  tilde_some t l = mapped (mapped (followed ignored_tildes i (mapped (followed tildes_led t l))))

  tilde_unled : {middle : List ℕ} → IsLongest IsTildes start tt middle → HasNone IsLed middle → HasNone IsNpmTilde text
  tilde_unled t n = mapped_none (mapped_none (followed_none_second ignored_tildes i (mapped_none (followed_none_second tildes_led t n))))

  tilde_none : ((rest : List ℕ) → start ≡ 126 ∷ rest → ⊥) → HasNone IsNpmTilde text
  tilde_none other = mapped_none (mapped_none (followed_none_second ignored_tildes i (mapped_none (joined_none_first (tildes_none other)))))

  caret_some : {middle rest : List ℕ} {p : Partial} → start ≡ 94 ∷ middle → IsLongest IsLed middle p rest → IsLongest IsNpmCaret text (Caret p) rest
  caret_some e l = mapped (mapped (followed ignored_caret i (prefixed_some e l)))

  caret_unled : {middle : List ℕ} → start ≡ 94 ∷ middle → HasNone IsLed middle → HasNone IsNpmCaret text
  caret_unled e n = mapped_none (mapped_none (followed_none_second ignored_caret i (prefixed_none e n)))

  caret_none : ((rest : List ℕ) → start ≡ 94 ∷ rest → ⊥) → HasNone IsNpmCaret text
  caret_none other = mapped_none (mapped_none (followed_none_second ignored_caret i (prefixed_other other)))

tilde_no_caret : {text rest : List ℕ} → text ≡ 126 ∷ rest → (more : List ℕ) → text ≡ 94 ∷ more → ⊥
tilde_no_caret e more f = omega (arith, ap (λ t. get_or t 0 0) (sym e ∙ f))

-- ---- the comparator, by its operator

-- the comparators with `~` or `^`, and those without
abbrev HasNpmOperator : List ℕ → Comparator → Type 0
HasNpmOperator = Either IsNpmTilde IsNpmCaret

abbrev IsNpmOther : List ℕ → Comparator → Type 0
IsNpmOther = Either (IsOfPrimitive Npm) (IsBare Npm)

-- if neither `~` nor `^` follows, the partial version after the operator m is parsed
record ReadsOther (m : Operator) (text start : List ℕ) : Type 0 where
  none : HasNone (IsPartial Npm) start → HasNone IsNpmOther text
  some : {p : Partial} {rest : List ℕ} → IsLongest (IsPartial Npm) start p rest → IsLongest IsNpmOther text (comparator_of m p) rest

other_front : {m : Operator} {text start : List ℕ} → ReadsOther m text start → HasNone HasNpmOperator text → (r : Option (Written × List ℕ)) → ReadsOperatorForm m (IsPartial Npm) start r → ReadsComparator (IsComparator Npm) text r
other_front o n None h = either_none n (o.none h)
other_front {m} o n (Some p) h = record { partial = h.1.value; longest = rw h.0 (either_that n (o.some h.1.longest)); seen = h.1.seen }

module _ {text start : List ℕ} {o : Option (PrimitiveKind × Unit {0})} {other : Operator} (i : IsLongest IsIgnored text o start) (others : ReadsOther other text start) where
  by_operator : (m : Operator) (rest : List ℕ) (r : Option (Written × List ℕ)) → IsNpmOperatorCut start m rest → ReadsByOperator m other rest r → ReadsComparator (IsComparator Npm) text r
  by_operator operator.Tilde rest None t h =
      let byte = tildes_byte t in
      either_none (either_none (tilde_unled i t h) (caret_none i (tilde_no_caret byte.1))) (others.none (after_tilde Npm byte.1))
  by_operator operator.Tilde rest (Some p) t h =
      let byte = tildes_byte t in
      record { partial = h.1.value; longest = rw h.0 (either_this (either_this (tilde_some i t h.1.longest) (caret_none i (tilde_no_caret byte.1))) (others.none (after_tilde Npm byte.1))); seen = h.1.seen }
  by_operator operator.Caret rest None e h = either_none (either_none (tilde_none i (λ more f. tilde_no_caret f rest e)) (caret_unled i e h)) (others.none (after_caret Npm e))
  by_operator operator.Caret rest (Some p) e h =
      record { partial = h.1.value; longest = rw h.0 (either_this (either_that (tilde_none i (λ more f. tilde_no_caret f rest e)) (caret_some i e h.1.longest)) (others.none (after_caret Npm e))); seen = h.1.seen }
  by_operator (operator.Primitive kind) rest r t h = absurd t
  by_operator operator.Absent rest r t h = other_front others (either_none (tilde_none i t.1) (caret_none i t.2)) r (rw t.0 at h)

  npm_front : {r : Option (Written × List ℕ)} → IsNpmFront other start r → ReadsComparator (IsComparator Npm) text r
  npm_front {r} h = by_operator h.operator h.rest r h.cut h.reads

-- ---- a parsed partial version, with an operator

pub operator_form_read : (m : Operator) (B : List ℕ → Partial → Type 0) (text : List ℕ) (r : Option (Measured Partial × List ℕ)) → ReadsAs sized_partial B text r → ReadsOperatorForm m B text (with_operator m r)
operator_form_read m B text None h = h
operator_form_read m B text (Some p) h = (refl, h)

-- ---- no comparison operator

pub non_primitive_npm : {text : List ℕ} (r : Option (Written × List ℕ)) → HasNone IsPrimitiveKind text → IsNpmFront operator.Absent text r → ReadsComparator (IsComparator Npm) text r
non_primitive_npm {text} r n h = npm_front (optional_none (joined_none_first n)) others h
  where
    others : ReadsOther operator.Absent text text
    others = record {
      none = λ p. either_none (mapped_none (joined_none_first n)) (mapped_none p);
      some = λ p. either_that (mapped_none (joined_none_first n)) (mapped p);
    }

-- ---- a comparison operator, with optional whitespace after it

whitespace_of_some : {text rest : List ℕ} → IsLongest IsSomeWhitespace text tt rest → IsLongest IsWhitespace text tt rest
whitespace_of_some {text} p = record { front = p.front; text_is = p.text_is; stands = p.stands.1; longest = λ a b w e h. (go a b e h, λ _. refl) }
  where
    go : (a b : List ℕ) → text ≡ a ++ b → IsWhitespace a tt → length a ≤ length p.front
    go [] b e h = omega arith
    go (x ∷ a) b e h = (p.longest (x ∷ a) b tt e (omega arith, h)).0

whitespace_of_none : {text : List ℕ} → HasNone IsSomeWhitespace text → IsLongest IsWhitespace text tt text
whitespace_of_none {text} n = record { front = []; text_is = refl; stands = NoCharPasses-nil is_not_whitespace; longest = λ a b w e h. (go a b e h, λ _. refl) }
  where
    go : (a b : List ℕ) → text ≡ a ++ b → IsWhitespace a tt → length a ≤ 0
    go [] b e h = omega arith
    go (x ∷ a) b e h = absurd (n.none (x ∷ a) b tt e (omega arith, h))

module _ {text middle : List ℕ} {kind : PrimitiveKind} (s : IsLongest IsPrimitiveKind text kind middle) where
  primitive_others : {start : List ℕ} → IsLongest IsWhitespace middle tt start → ReadsOther (operator.Primitive kind) text start
  primitive_others b = record {
    none = λ p. either_none (mapped_none (primitive_none Npm s b p)) (no_bare s Npm);
    some = λ p. either_this (mapped (followed (primitive_kind_apart Npm) s (mapped (followed (whitespace_apart Npm) b p)))) (no_bare s Npm);
  }

  pub spaced_npm : {start : List ℕ} (r : Option (Written × List ℕ)) → IsLongest IsSomeWhitespace middle tt start → IsNpmFront (operator.Primitive kind) start r → ReadsComparator (IsComparator Npm) text r
  spaced_npm r b h = npm_front (optional_some (joined_some_text primitive_kind_some) (followed primitive_kind_whitespace s b)) (primitive_others (whitespace_of_some b)) h

  pub unspaced_npm : (r : Option (Written × List ℕ)) → HasNone IsSomeWhitespace middle → ReadsOperatorForm (operator.Primitive kind) (IsPartial Npm) middle r → ReadsComparator (IsComparator Npm) text r
  unspaced_npm r n h = other_front (primitive_others (whitespace_of_none n)) unmarked r h
    where
      ignored : IsLongest IsIgnored text None text
      ignored = optional_none (followed_none_second primitive_kind_whitespace s n)

      unmarked : HasNone HasNpmOperator text
      unmarked = either_none (tilde_none ignored (λ r e. tilde_no_primitive_kind 126 refl (primitive_byte s 126 r e))) (caret_none ignored (λ r e. caret_no_primitive_kind 94 refl (primitive_byte s 94 r e)))
