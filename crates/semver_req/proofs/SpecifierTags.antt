-- No tag of the strict parser is in the normalized grammar.
use Rattle.std.proofs.Common.{◌≡◌, ℕ, true, false, List, [], ◌∷◌, ◌++◌, length, refl, sym, ap, subst, ◌∙◌, inl, inr, arith, append-nil, not}
use Rattle.std.specs.Str.{chars}
use Rattle.std.specs.Char.{is_whitespace}
use Rattle.std.specs.List.{list_all}
use Rattle.std.proofs.lemmas.Bool.{and_parts}
use Rattle.std.proofs.lemmas.Bool.Decides.{nat_tests}
use Rattle.semver_base.specs.Comparators.{Comparator, Bare, Tilde}
use Rattle.semver_base.specs.Grammar.{IsLongest, Listed, closed_item, last_item, more_items, that, this}
use Rattle.semver_base.specs.Lexical.{IsSomeWhitespace}
use Rattle.semver_base.specs.declared.partial.Partial.{Partial}
use Rattle.semver_base.specs.declared.partial.PrimitiveKind.{PrimitiveKind}
use Rattle.semver_base.specs.WhitespaceLaws.{whitespace_made, is_whitespace_byte}
use Rattle.semver_req.specs.Comparators.{HasOperator, IsComparator, IsPrimitiveKind, fits}
use Rattle.semver_req.specs.Outcome.{IsGood, IsSpecifierOutcome, IsSpecifierRange, Tag, no_fit, no_front, tag}
use Rattle.semver_req.specs.Partials.{IsBarePartial}
use Rattle.semver_req.specs.Tag.{is_valid_tag}
use Rattle.semver_req.specs.declared.common.values.Flavour.{Flavour}
use Rattle.semver_req.specs.declared.common.values.Flavour.TheVariants.{Normal, Specifier}
use Rattle.semver_req.proofs.PrimitiveKindsNoTag.{are_tag_characters, caret_no_tag, kind_no_tag, sign_no_tag}
use Rattle.semver_req.proofs.SpecifierFits.{bare_fits, tilde_fits}
use Rattle.semver_req.proofs.SpecifierFronts.{IsPast, bare_cut, bare_has_specifier}
use Rattle.semver_req.proofs.GrammarFacts.{bare_partial_under, bare_starts, comparator_some, disjoint, operators_under, partial_some, primitive_kind_some}
use Rattle.semver_req.proofs.GrammarParts.{AtOperator, IsCaretSign, IsTildeSign, at_caret, at_operator, at_tilde, dot_no_whitespace, normal_tilde, tilde_no_caret, with_tilde}
use Rattle.semver_req.proofs.Grammars as rule
use Rattle.semver_req.proofs.RuleFacts.{begins_first, plain}
use Rattle.semver_req.proofs.Rules.{Bytes, alt, firsts, has, steps}

-- the text is a comparator, and nothing or whitespace follows it
record BeginsByComparator (text : List ℕ) (c : Comparator) : Type 0 where
  first : List ℕ
  rest : List ℕ
  text_is : text ≡ first ++ rest
  stands : IsComparator Normal first c
  past : IsPast rest

whitespace_past : (s rest : List ℕ) → IsSomeWhitespace s tt → IsPast (s ++ rest)
whitespace_past [] rest h = absurd (omega (arith, h.0))
whitespace_past (x ∷ s) rest h =
    let whitespace : is_whitespace_byte x ≡ true = (and_parts (is_whitespace_byte x) _ (whitespace_made.made (x ∷ s) tt h.1)).0 in
    record { no_digit = grind (arith, nat_tests); no_dot = λ b more is e. let byte : x ≡ b = cc e in dot_no_whitespace Specifier b is (rw byte at whitespace) }

nothing_past : IsPast []
nothing_past = record { no_digit = tt; no_dot = λ b more is e. cc e }

-- the first comparator of a list
begins : (text : List ℕ) (c : Comparator) (cs : List Comparator) → Listed (IsComparator Normal) IsSomeWhitespace text (c ∷ cs) → BeginsByComparator text c
begins text c cs (last_item h) = record { first = text; rest = []; text_is = sym (append-nil text); stands = h; past = nothing_past }
begins text c cs (closed_item {a} {s} h k) = record { first = a; rest = s; text_is = refl; stands = h; past = rw append-nil at (whitespace_past s [] k) }
begins text c cs (more_items {a} {s} {b} h k t) = record { first = a; rest = s ++ b; text_is = refl; stands = h; past = whitespace_past s b k }

-- ---- the strict prefixes of such a text

bare_longest : {text after : List ℕ} {c : Comparator} (q : Partial) (h : IsLongest IsSpecifierRange text c after) → c ≡ Bare q → IsBarePartial Specifier h.front q → IsLongest (IsBarePartial Specifier) text q after
bare_longest q h is k = record {
  front = h.front;
  text_is = h.text_is;
  stands = k;
  longest = λ a b u e r.
      let best = h.longest a b (Bare u) e (that (record { value = u; stands = r; is = refl })) in
      (best.0, λ s. let same : Bare u ≡ Bare q = best.1 s ∙ is in cc same);
}

-- the strict prefix of a text after a tilde
tilde_longest : (x : ℕ) → IsTildeSign Specifier x → {text after : List ℕ} {c : Comparator} (q : Partial) (front : List ℕ) (h : IsLongest IsSpecifierRange (x ∷ text) c after) → h.front ≡ x ∷ front → c ≡ Tilde q → IsBarePartial Specifier front q → IsLongest (IsBarePartial Specifier) text q after
tilde_longest x sign {after = after} q front h f is k = record {
  front = front;
  text_is = cc (h.text_is ∙ ap (λ t. t ++ after) f);
  stands = k;
  longest = λ a b u e r.
      let best = h.longest (x ∷ a) b (Tilde u) (ap (λ t. x ∷ t) e) (this (with_tilde Specifier x a u sign r)) in
      (omega (arith, best.0, ap length f), λ s. let same : Tilde u ≡ Tilde q = best.1 (omega (arith, s, ap length f)) ∙ is in cc same);
}

-- no plain partial version begins with an operator
abbrev signs : Bytes
signs = firsts (steps (plain (alt (rule.tilde Specifier) (rule.caret Specifier))))

sign_of : (x : ℕ) (rest : List ℕ) (c : Comparator) → HasOperator Specifier (x ∷ rest) c → has signs x ≡ true
sign_of x rest c h = (begins_first (operators_under Specifier)).begins x (record { more = rest; value = c; stands = h })

core_of : (f : Flavour) (x : ℕ) (rest : List ℕ) (p : Partial) → IsBarePartial f (x ∷ rest) p → has (bare_starts f) x ≡ true
core_of f x rest p h = (begins_first (bare_partial_under f)).begins x (record { more = rest; value = p; stands = h })

no_operator : (text : List ℕ) (p : Partial) → IsBarePartial Normal text p → (rest more : List ℕ) (x : ℕ) → text ++ rest ≡ x ∷ more → has signs x ≡ true → ⊥
no_operator [] p h rest more x e sign = (partial_some Normal).some p h
no_operator (y ∷ text) p h rest more x e sign = let byte : y ≡ x = cc e in disjoint signs (bare_starts Normal) refl x sign (rw byte at (core_of Normal y text p h))

-- ---- such a text isn't a tag of the strict parser

-- the prefix doesn't fit
no_bare : (text rest after : List ℕ) (p : Partial) (c : Comparator) → IsBarePartial Normal text p → IsPast rest → fits (Bare p) ≡ true → IsLongest IsSpecifierRange (text ++ rest) c after → fits c ≡ false → ⊥
no_bare text rest after p c m past fit h misfit = go h.front refl h.stands
  where
    go : (front : List ℕ) → h.front ≡ front → IsSpecifierRange front c → ⊥
    go [] f k = (comparator_some Specifier).some c k
    go (b ∷ front) f (this k) = no_operator text p m rest (front ++ after) b (h.text_is ∙ ap (λ t. t ++ after) f) (sign_of b front c k)
    go front f (that k) =
        let cut = bare_cut rest past text p k.value m (bare_longest k.value h k.is (rw f k.stands)) in
        let same : true ≡ false = sym (bare_fits p k.value cut fit) ∙ (sym (ap fits k.is) ∙ misfit) in
        cc same

no_tilde : (x : ℕ) → IsTildeSign Specifier x → (text rest after : List ℕ) (p : Partial) (c : Comparator) → IsBarePartial Normal text p → IsPast rest → fits (Tilde p) ≡ true → IsLongest IsSpecifierRange (x ∷ (text ++ rest)) c after → fits c ≡ false → ⊥
no_tilde x sign text rest after p c m past fit h misfit = go h.front refl h.stands
  where
    operator : (b : ℕ) (front : List ℕ) → h.front ≡ b ∷ front → x ≡ b
    operator b front f = cc (h.text_is ∙ ap (λ t. t ++ after) f)

    led : AtOperator Specifier h.front c → ⊥
    led (at_tilde b {rest = front} {p = q} e s k is) =
        let byte : h.front ≡ x ∷ front = e ∙ ap (λ y. y ∷ front) (sym (operator b front e)) in
        let cut = bare_cut rest past text p q m (tilde_longest x sign q front h byte is k) in
        let same : true ≡ false = sym (tilde_fits p q cut fit) ∙ (sym (ap fits is) ∙ misfit) in
        cc same
    led (at_caret b {rest = front} e s k is) = tilde_no_caret Specifier Specifier x sign (subst (IsCaretSign Specifier) (sym (operator b front e)) s)

    go : (front : List ℕ) → h.front ≡ front → IsSpecifierRange front c → ⊥
    go [] f k = (comparator_some Specifier).some c k
    go (b ∷ front) f (this k) = led (at_operator Specifier h.front c (rw f k))
    go (b ∷ front) f (that k) =
        let signed = sign_of x (b ∷ front) (Tilde k.value) (with_tilde Specifier x (b ∷ front) k.value sign k.stands) in
        disjoint signs (bare_starts Specifier) refl x signed (subst (λ y. has (bare_starts Specifier) y ≡ true) (sym (operator b front f)) (core_of Specifier b front k.value k.stands))

-- a text that begins with a normalized comparator that fits, and not with a comparison operator, has an outcome other than a
-- tag
comparator_no_tag : (text : List ℕ) (c : Comparator) (t : List ℕ) → BeginsByComparator text c → fits c ≡ true → are_tag_characters text ≡ true → IsSpecifierOutcome text (Tag t) → ⊥
comparator_no_tag text c t b fit characters o = go b.stands
  where
    no_tag : (x : ℕ) (more : List ℕ) → b.first ≡ x ∷ more → ((rest : List ℕ) → are_tag_characters (x ∷ rest) ≡ false) → ⊥
    no_tag x more e none =
        let whole : text ≡ x ∷ (more ++ b.rest) = b.text_is ∙ ap (λ t. t ++ b.rest) e in
        let same : true ≡ false = sym characters ∙ (ap are_tag_characters whole ∙ none (more ++ b.rest)) in
        cc same

    primitive : (kind : PrimitiveKind) (s more : List ℕ) → IsPrimitiveKind s kind → b.first ≡ s ++ more → ⊥
    primitive kind [] more h e = primitive_kind_some.some kind h
    primitive kind (x ∷ s) more h e = no_tag x (s ++ more) e (sign_no_tag x (kind_no_tag.begins x (record { more = s; value = kind; stands = h })))

    plain_one : (p : Partial) → IsBarePartial Normal b.first p → fits (Bare p) ≡ true → IsSpecifierOutcome text (Tag t) → ⊥
    plain_one p m f (no_front n k) = let s = bare_has_specifier b.first b.rest p m b.past in n.none s.front s.rest (Bare s.value) (b.text_is ∙ s.text_is) (that (record { value = s.value; stands = s.stands; is = refl }))
    plain_one p m f (no_fit {c = d} h misfit k) = no_bare b.first b.rest _ p d m b.past f (rw b.text_is at h) misfit

    tilde : (x : ℕ) → IsTildeSign Specifier x → (more : List ℕ) (p : Partial) → b.first ≡ x ∷ more → IsBarePartial Normal more p → fits (Tilde p) ≡ true → IsSpecifierOutcome text (Tag t) → ⊥
    tilde x sign more p e m f (no_front n k) =
        let s = bare_has_specifier more b.rest p m b.past in
        n.none (x ∷ s.front) s.rest (Tilde s.value) (b.text_is ∙ (ap (λ t. t ++ b.rest) e ∙ ap (λ t. x ∷ t) s.text_is)) (this (with_tilde Specifier x s.front s.value sign s.stands))
    tilde x sign more p e m f (no_fit {c = d} h misfit k) = no_tilde x sign more b.rest _ p d m b.past f (rw (b.text_is, e) at h) misfit

    led : AtOperator Normal b.first c → ⊥
    led (at_tilde x {rest = more} {p} e s k is) = tilde x (normal_tilde Specifier x s) more p e k (sym (ap fits is) ∙ fit) o
    led (at_caret x {rest = more} e s k is) = no_tag x more e (sign_no_tag x (caret_no_tag x s))

    go : IsComparator Normal b.first c → ⊥
    go (this k) = led (at_operator Normal b.first c k)
    go (that (this m)) = primitive m.value.0 m.stands.first m.stands.second m.stands.in_first m.stands.text_is
    go (that (that m)) = plain_one m.value m.stands (sym (ap fits m.is) ∙ fit) o

pub nothing_no_tag : is_valid_tag [] ≡ false
unfolding chars
nothing_no_tag = refl

of_tag : (text t : List ℕ) → IsSpecifierOutcome text (Tag t) → is_valid_tag text ≡ true
of_tag text t (no_front n (tag h)) = h
of_tag text t (no_fit l f (tag h)) = h

-- a tag of the strict parser isn't comparators that fit in the normalized grammar
pub specifier_no_tag : (text t : List ℕ) (cs : List Comparator) → IsGood Normal false text cs → IsSpecifierOutcome text (Tag t) → ⊥
specifier_no_tag text t [] (inl h) o = let same : false ≡ true = sym nothing_no_tag ∙ rw h.0 at (of_tag text t o) in cc same
specifier_no_tag text t (c ∷ cs) (inl h) o =
    let fit = (and_parts (fits c) _ h.1).0 in
    let characters = (and_parts (not (list_all is_whitespace (chars text))) (are_tag_characters text) (of_tag text t o)).1 in
    comparator_no_tag text c t (begins text c cs h.0) fit characters o
specifier_no_tag text t cs (inr h) o = let same : false ≡ true = h.0 in cc same
