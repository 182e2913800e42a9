-- The identifiers of the comparators of every outcome match the grammar.
use Rattle.std.proofs.Common.{ℕ, List, [], ◌∷◌, Bool, true, Option, Some, None, refl, sym, subst, ◌≡◌, inl, inr}
use Rattle.std.specs.List.{list_all}
use Rattle.semver_base.specs.Comparators.{Comparator}
use Rattle.semver_base.specs.Grammar.{After, Before, Listed, Optional, Prefixed, closed_item, last_item, more_items, that, this}
use Rattle.semver_base.specs.Lexical.{IsWhitespace, IsSomeWhitespace}
use Rattle.semver_base.specs.NormalText.{AreWritableRanges, IsWritableRange}
use Rattle.semver_base.specs.declared.lexical.values.Qualifier.{Qualifier}
use Rattle.semver_base.specs.declared.partial.Partial.{Partial}
use Rattle.semver_base.specs.declared.partial.XRange.{XRange}
use Rattle.semver_base.specs.declared.range.VersionRange.{VersionRange}
use Rattle.semver_base.specs.WrittenLaws.{by_after, by_mapped, by_prefixed, qualifier_has}
use Rattle.semver_req.specs.Comparators.{fits, IsComparator}
use Rattle.semver_req.specs.RetainedSet.{retained}
use Rattle.semver_req.specs.Outcome.{AreGoodOnes, IsCutOutcome, IsGood, IsOutcome, IsSpecifierOutcome, IsTagOr, Outcome, Ranges, Rejected, Tag, bad, good, left_over, no_fit, no_front, no_tag, none_left, normal_many, normal_rejected, npm_many, one_bad, one_good, tag, whole}
use Rattle.semver_req.specs.Partials.{IsPartial, IsBarePartial, IsSecond, IsThird, partial_of, strictness_of}
use Rattle.semver_req.specs.PieceReading.{IsPieceRead}
use Rattle.semver_req.specs.Pieces.{IsFilled, IsHyphen, IsNpmSeparator, IsPiece}
use Rattle.semver_req.specs.declared.common.values.Flavour.{Flavour}
use Rattle.semver_req.specs.declared.common.values.Flavour.TheVariants.{Normal, Npm, Specifier}
use Rattle.semver_req.specs.declared.range_set_or_tag.pieces.RangeOrInvalid.TheVariants as read
use Rattle.semver_req.proofs.GrammarParts.{HasPartial, at_dot, bare, caret, comparator_partial, primitive, tilde}
use Rattle.semver_req.proofs.OutcomesFit.{outcome_fits}
use Rattle.semver_req.proofs.WritableRanges.{AllHaveIdentifiers, ComparatorHasIdentifiers, PartialHasIdentifiers, TreeHasIdentifiers, retained_range_writable, retained_writable}

-- ---- partial versions

third_has : (f : Flavour) (m n : XRange) (text : List ℕ) (o : Option (XRange × Qualifier)) → Optional (IsThird f) text o → PartialHasIdentifiers (partial_of (m, Some (n, o)))
third_has f m n text None h = (tt, tt)
third_has f m n text (Some (p, q)) h = let k = (at_dot _ f text (p, q) h).stands in qualifier_has (strictness_of f) k.second q k.in_second

second_has : (f : Flavour) (m : XRange) (text : List ℕ) (o : Option (XRange × Option (XRange × Qualifier))) → Optional (IsSecond f) text o → PartialHasIdentifiers (partial_of (m, o))
second_has f m text None h = (tt, tt)
second_has f m text (Some (n, o)) h = let k = (at_dot _ f text (n, o) h).stands in third_has f m n k.second o k.in_second

bare_has : (f : Flavour) (text : List ℕ) (p : Partial) → IsBarePartial f text p → PartialHasIdentifiers p
bare_has f text p h = by_mapped PartialHasIdentifiers (λ t v k. second_has f v.0 k.second v.1 k.in_second) h

partial_has : (f : Flavour) (text : List ℕ) (p : Partial) → IsPartial f text p → PartialHasIdentifiers p
partial_has Npm text p (this h) = by_prefixed 118 (IsBarePartial Npm) PartialHasIdentifiers (bare_has Npm) text p h
partial_has Npm text p (that h) = bare_has Npm text p h
partial_has Normal text p h = bare_has Normal text p h
partial_has Specifier text p h = bare_has Specifier text p h

-- ---- comparators

made_has : (f : Flavour) {c : Comparator} → HasPartial f c → ComparatorHasIdentifiers c
made_has f (tilde text h) = partial_has f text _ h
made_has f (caret text h) = partial_has f text _ h
made_has f (primitive text h) = partial_has f text _ h
made_has f (bare text h) = partial_has f text _ h

comparator_has : (f : Flavour) (text : List ℕ) (c : Comparator) → IsComparator f text c → ComparatorHasIdentifiers c
comparator_has f text c h = made_has f (comparator_partial f text c h)

-- ---- pieces

listed_have : (f : Flavour) (S : List ℕ → Unit {0} → Type 0) {text : List ℕ} {cs : List Comparator} → Listed (IsComparator f) S text cs → AllHaveIdentifiers cs
listed_have f S (last_item a) = (comparator_has f _ _ a, tt)
listed_have f S (closed_item a s) = (comparator_has f _ _ a, tt)
listed_have f S (more_items a s more) = (comparator_has f _ _ a, listed_have f S more)

hyphen_has : (text : List ℕ) (cs : List Comparator) → IsHyphen text cs → AllHaveIdentifiers cs
hyphen_has text cs h = by_mapped AllHaveIdentifiers (λ t v k. ((partial_has Npm k.first v.0 k.in_first, second k.second v.1 k.in_second), tt)) h
  where
    before : (t : List ℕ) (p : Partial) → Before (IsPartial Npm) IsWhitespace t p → PartialHasIdentifiers p
    before t p k = by_mapped PartialHasIdentifiers (λ t v k. partial_has Npm k.first v.0 k.in_first) k

    second : (t : List ℕ) (p : Partial) → After IsSomeWhitespace (Prefixed 45 (After IsSomeWhitespace (Before (IsPartial Npm) IsWhitespace))) t p → PartialHasIdentifiers p
    second t p k = by_after PartialHasIdentifiers (λ t v k. by_prefixed 45 (After IsSomeWhitespace (Before (IsPartial Npm) IsWhitespace)) PartialHasIdentifiers (λ t v k. by_after PartialHasIdentifiers before k) t v k) k

filled_have : (f : Flavour) (text : List ℕ) (cs : List Comparator) → IsFilled f text cs → AllHaveIdentifiers cs
filled_have Npm text cs (this h) = hyphen_has text cs h
filled_have Npm text cs (that h) = listed_have Npm IsNpmSeparator h
filled_have Normal text cs h = listed_have Normal IsSomeWhitespace h
filled_have Specifier text cs h = absurd h

piece_has : (f : Flavour) (text : List ℕ) (cs : List Comparator) → IsPiece f text cs → AllHaveIdentifiers cs
piece_has f text [] h = tt
piece_has f text (c ∷ cs) h = filled_have f text (c ∷ cs) h

-- ---- outcomes

good_has : (f : Flavour) (b : Bool) (piece : List ℕ) (cs : List Comparator) → IsGood f b piece cs → AllHaveIdentifiers cs
good_has f b piece cs (inl h) = piece_has f piece cs h.0
good_has f b piece cs (inr h) = subst AllHaveIdentifiers (sym h.2) tt

good_ones_have : {f : Flavour} {b : Bool} {pieces : List (List ℕ)} {tree : List (List Comparator)} → AreGoodOnes f b pieces tree → TreeHasIdentifiers tree
good_ones_have none_left = tt
good_ones_have (good g more) = (good_has _ _ _ _ g, good_ones_have more)
good_ones_have (bad g more) = good_ones_have more

abbrev OutcomeHas : Outcome → Type 0
OutcomeHas (Ranges tree) = TreeHasIdentifiers tree
OutcomeHas (Tag text) = Unit {0}
OutcomeHas Rejected = Unit {0}

tag_or_has : {text : List ℕ} {o : Outcome} → IsTagOr text o → OutcomeHas o
tag_or_has (tag e) = tt
tag_or_has (no_tag e) = tt

cut_outcome_has : {f : Flavour} {text : List ℕ} {o : Outcome} → IsCutOutcome f text o → OutcomeHas o
cut_outcome_has (one_good pieces g) = (good_has _ _ _ _ g, tt)
cut_outcome_has (one_bad pieces g t) = tag_or_has t
cut_outcome_has (npm_many pieces g) = good_ones_have g
cut_outcome_has (normal_many pieces g every) = good_ones_have g
cut_outcome_has (normal_rejected pieces g some) = tt

specifier_outcome_has : {text : List ℕ} {o : Outcome} → IsSpecifierOutcome text o → OutcomeHas o
specifier_outcome_has (whole {c = c} s fit) = ((comparator_has Specifier _ c s.stands, tt), tt)
specifier_outcome_has (left_over s fit more) = tt
specifier_outcome_has (no_front n t) = tag_or_has t
specifier_outcome_has (no_fit s e t) = tag_or_has t

outcome_has : (f : Flavour) (text : List ℕ) (tree : List (List Comparator)) → IsOutcome f text (Ranges tree) → TreeHasIdentifiers tree
outcome_has Npm text tree o = cut_outcome_has o
outcome_has Normal text tree o = cut_outcome_has o
outcome_has Specifier text tree o = specifier_outcome_has o

-- what a parser keeps has a text that parses back
pub outcome_writable : (f : Flavour) (text : List ℕ) (tree : List (List Comparator)) → IsOutcome f text (Ranges tree) → AreWritableRanges (retained f tree)
outcome_writable f text tree o = retained_writable f tree (outcome_fits f text tree o) (outcome_has f text tree o)

-- so has the range of a piece
pub piece_writable : (f : Flavour) (b : Bool) (piece : List ℕ) (range : VersionRange) → IsPieceRead f b piece (read.Range range) → IsWritableRange range
piece_writable f b piece range h = subst IsWritableRange (sym h.2) (retained_range_writable h.0 (good_fits h.1) (good_has f b piece h.0 h.1))
  where
    good_fits : IsGood f b piece h.0 → list_all fits h.0 ≡ true
    good_fits (inl g) = g.1
    good_fits (inr g) = subst (λ cs. list_all fits cs ≡ true) (sym g.2) refl
