-- Where a bound is too large: at the first comparator that overflows.
use Rattle.std.proofs.Common.{◌≡◌, ◌≤◌, ◌+◌, ◌-◌, ℕ, Bool, true, false, List, [], ◌∷◌, ◌++◌, length, None, refl, sym, ap, subst, ◌∙◌, arith, inl, inr, append-nil, length-append}
use Rattle.std.specs.List.{list_all, list_any}
use Rattle.std.proofs.lemmas.Bool.{and_parts, both_ways, cases_Bool}
use Rattle.semver_base.specs.Comparators.{Comparator, comparator_line}
use Rattle.semver_base.specs.Grammar.{HasNone, IsLongest, last_item, closed_item, more_items, this, that}
use Rattle.semver_base.specs.PartialTable.{IsBoundRejection, all_fit}
use Rattle.semver_base.specs.declared.failure.Rejection.TheVariants.{BoundTooLarge}
use Rattle.semver_base.specs.declared.lexical.values.Measured.TheVariants.{Fits, TooLarge}
use Rattle.semver_base.specs.declared.partial.Partial.{Partial}
use Rattle.semver_req.specs.Causes.{IsBoundAt, IsFirstOverflow, IsRejected, IsStrictRejection, comparator, front_bound, hyphen_range, later_overflows, overflows, this_overflows}
use Rattle.semver_req.specs.Comparators.{IsComparator}
use Rattle.semver_req.specs.Parsers.{Failure}
use Rattle.semver_req.specs.Partials.{sized_partial}
use Rattle.semver_req.specs.PieceReading.{IsPieceRejection, large_bound, numbers_fit, sums_fit}
use Rattle.semver_req.specs.Pieces.{IsComparators, IsCutting, IsPiece, IsSeparator, normal, npm}
use Rattle.semver_req.specs.Written.{comparator_of}
use Rattle.semver_req.specs.declared.common.comparator.Operator.{Operator}
use Rattle.semver_req.specs.declared.common.values.Flavour.{Flavour}
use Rattle.semver_req.specs.declared.common.values.Flavour.TheVariants.{Npm, Normal, Specifier}
use Rattle.semver_req.proofs.Fitting.{comparator_all}
use Rattle.semver_req.proofs.Joining.{fitting_partial, large_partial}

-- ---- one comparator

module _ (m : Operator) (p : Partial) where
  pub large_number_no : {b : Bool} → b ≡ false → TooLarge ≡ sized_partial p → b ≡ overflows (comparator_of m p)
  large_number_no n seen = rw (n, comparator_all m p ∙ large_partial p seen) refl

  module _ {q : Partial} (seen : Fits q ≡ sized_partial p) where
    pub sums_no : {b : Bool} → b ≡ false → all_fit (comparator_line (comparator_of m q)).sums ≡ true → b ≡ overflows (comparator_of m p)
    sums_no n fit =
        let both = fitting_partial p seen in
        rw (n, comparator_all m p ∙ both.1, ap (λ r. sums_fit (comparator_of m r)) both.0 ∙ fit) refl

    pub sums_yes : {b : Bool} → b ≡ true → (failure : Failure) → IsBoundRejection (comparator_line (comparator_of m q)).sums failure → (failure ≡ None → ⊥) → b ≡ overflows (comparator_of m p)
    sums_yes y failure (inl e) never = absurd (never e)
    sums_yes y failure (inr h) never =
        let both = fitting_partial p seen in
        rw (y, comparator_all m p ∙ both.1, ap (λ r. sums_fit (comparator_of m r)) both.0 ∙ h.1) refl

-- ---- lists

-- if the numbers fit, and not the bounds, some comparator overflows
some_overflows : (cs : List Comparator) → list_all numbers_fit cs ≡ true → list_all sums_fit cs ≡ false → list_any overflows cs ≡ true
some_overflows [] fit large = cc large
some_overflows (c ∷ cs) fit large = elim (cases_Bool (sums_fit c)) [
  | inl sums ↦ rw (both.0, sums) (some_overflows cs both.1 (rw sums at large))
  | inr over ↦ rw (both.0, over) refl
]
  where
    both : (numbers_fit c ≡ true) × (list_all numbers_fit cs ≡ true)
    both = and_parts (numbers_fit c) (list_all numbers_fit cs) fit

one_more_not : (cs : List Comparator) (c : Comparator) → list_any overflows cs ≡ false → overflows c ≡ false → list_any overflows (cs ++ c ∷ []) ≡ false
one_more_not [] c none n = rw n refl
one_more_not (d ∷ cs) c none n = elim (cases_Bool (overflows d)) [
  | inl y ↦ cc (rw y at none)
  | inr not_this ↦ rw not_this (one_more_not cs c (rw not_this at none) n)
]

no_list : (f : Flavour) {text : List ℕ} {cs : List Comparator} → IsComparators f text cs → HasNone (IsComparator f) text → ⊥
no_list f (last_item {a} {v} h) n = n.none a [] v (sym (append-nil a)) h
no_list f (closed_item {a} {s} {v} h k) n = n.none a s v refl h
no_list f (more_items {a} {s} {b} {v} h k l) n = n.none a (s ++ b) v refl h

module _ (f : Flavour) (cuts : IsCutting f) (text : List ℕ) where
  -- a hyphen range, or a list with these comparators
  hyphen_or_list : (cs : List Comparator) → IsPiece f text cs → list_all sums_fit cs ≡ false → (IsComparators f text cs → ⊥) → IsBoundAt f text 0
  hyphen_or_list [] h large never = cc large
  hyphen_or_list (c ∷ cs) h large never = by f cuts h never
    where
      by : (g : Flavour) → IsCutting g → IsPiece g text (c ∷ cs) → (IsComparators g text (c ∷ cs) → ⊥) → IsBoundAt g text 0
      by Npm npm (this h) never = hyphen_range h
      by Npm npm (that h) never = absurd (never h)
      by Normal normal h never = absurd (never h)
      by Specifier k h never = elim k [ ]

  module _ (rejected : IsPieceRejection f text BoundTooLarge) where
    no_comparator : HasNone (IsComparator f) text → IsBoundAt f text 0
    no_comparator n = elim rejected [
      | large_bound cs h fit large ↦ hyphen_or_list cs h large (λ list. no_list f list n)
    ]

    none_overflows : {items : List Comparator} {rest : List ℕ} → IsLongest (IsComparators f) text items rest → list_any overflows items ≡ false → IsBoundAt f text 0
    none_overflows {items} {rest} l none = elim rejected [
      | large_bound cs h fit large ↦ hyphen_or_list cs h large (λ list.
          let longest = l.longest text [] cs (sym (append-nil text)) list in
          let even : length text ≡ length l.front = omega (arith, longest.0, ap length l.text_is, length-append l.front rest) in
          both_ways (list_any overflows cs) (ap (list_any overflows) (longest.1 even) ∙ none) (some_overflows cs fit large))
    ]

module _ (f : Flavour) (text : List ℕ) where
  pub first_overflows : {c : Comparator} {rest : List ℕ} → IsLongest (IsComparator f) text c rest → overflows c ≡ true → IsBoundAt f text 0
  first_overflows l y = comparator (this_overflows l y)

  -- the rest is an end of the text, and what is first to overflow behind the separator that follows is so in the text
  pub record Reaches (rest : List ℕ) : Type 0 where
    pub within : length rest ≤ length text
    pub reached : (next : List ℕ) (place : ℕ) → IsLongest (IsSeparator f) rest tt next → IsFirstOverflow f next place → IsFirstOverflow f text ((length text - length next) + place)

  pub first_before : (c : Comparator) {rest : List ℕ} → IsLongest (IsComparator f) text c rest → overflows c ≡ false → Reaches rest
  first_before c {rest} l n = record {
    within = omega (arith, ap length l.text_is, length-append l.front rest);
    reached = λ next place s k. later_overflows l n s k;
  }

  module _ {rest next : List ℕ} (so_far : Reaches rest) (s : IsLongest (IsSeparator f) rest tt next) where
    pub next_before : (c : Comparator) {more : List ℕ} → IsLongest (IsComparator f) next c more → overflows c ≡ false → Reaches more
    next_before c {more} l n = record { within = omega (arith, so_far.within, rest_is, next_is); reached = reached }
      where
        rest_is : length rest ≡ length s.front + length next
        rest_is = ap length s.text_is ∙ length-append s.front next

        next_is : length next ≡ length l.front + length more
        next_is = ap length l.text_is ∙ length-append l.front more

        reached : (after : List ℕ) (place : ℕ) → IsLongest (IsSeparator f) more tt after → IsFirstOverflow f after place → IsFirstOverflow f text ((length text - length after) + place)
        reached after place t k =
            let there : (length text - length next) + ((length next - length after) + place) ≡ (length text - length after) + place = omega (arith, so_far.within, rest_is, next_is, ap length t.text_is, length-append t.front after) in
            subst (IsFirstOverflow f text) there (so_far.reached next _ s (later_overflows l n t k))

    pub next_overflows : {c : Comparator} {more : List ℕ} (place : ℕ) → place ≡ length text - length next → IsLongest (IsComparator f) next c more → overflows c ≡ true → IsBoundAt f text place
    next_overflows place there l y =
        let here : (length text - length next) + 0 ≡ place = omega (arith, there) in
        subst (IsBoundAt f text) here (comparator (so_far.reached next 0 s (this_overflows l y)))

pub one_more_none : (cs : List Comparator) (c : Comparator) {b : Bool} → list_any overflows cs ≡ false → b ≡ overflows c → b ≡ false → list_any overflows (cs ++ c ∷ []) ≡ false
one_more_none cs c none e n = one_more_not cs c none (sym e ∙ n)

-- ---- the strict grammar

strict_bound : {text : List ℕ} → IsStrictRejection text BoundTooLarge → IsBoundAt Specifier text 0
strict_bound r = elim r [
  | front_bound l fit large ↦ comparator (this_overflows l (rw (fit, large) refl))
]

-- ---- of each grammar

pub at_none : (f : Flavour) (text : List ℕ) → IsRejected f text BoundTooLarge → HasNone (IsComparator f) text → IsBoundAt f text 0
at_none Npm text r n = no_comparator Npm npm text r n
at_none Normal text r n = no_comparator Normal normal text r n
at_none Specifier text r n = strict_bound r

-- the longest list overflows nowhere
pub at_no_overflow : (f : Flavour) (text : List ℕ) → IsRejected f text BoundTooLarge → {items : List Comparator} {rest : List ℕ} → IsLongest (IsComparators f) text items rest → list_any overflows items ≡ false
    → IsBoundAt f text 0
at_no_overflow Npm text r l none = none_overflows Npm npm text r l none
at_no_overflow Normal text r l none = none_overflows Normal normal text r l none
at_no_overflow Specifier text r l none = strict_bound r
