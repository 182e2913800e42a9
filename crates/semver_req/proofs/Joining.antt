-- Comparators that are joined, one more at a time.
use Rattle.std.proofs.Common.{◌≡◌, Bool, true, false, List, [], ◌∷◌, ◌++◌, map, None, refl, sym, ap, ◌∙◌, inl, inr, ◌&&◌, if◌then◌else◌}
use Rattle.std.proofs.lemmas.Grind.{fold-append}
use Rattle.std.proofs.lemmas.List.{map-append}
use Rattle.std.proofs.lemmas.Bool.{cases_Bool}
use Rattle.std.proofs.lemmas.List.Folds.{list_all-append}
use Rattle.std.specs.List.{list_all}
use Rattle.semver_base.specs.Clamp.{clamped}
use Rattle.semver_base.specs.Comparators.{Comparator, comparator_line, comparator_range}
use Rattle.semver_base.specs.Meaning.{everything}
use Rattle.semver_base.specs.PartialTable.{IsBoundRejection, all_fit}
use Rattle.semver_base.specs.declared.failure.Rejection.{Rejection}
use Rattle.semver_base.specs.declared.failure.Rejection.TheVariants.{BoundTooLarge, NumberTooLarge}
use Rattle.semver_base.specs.declared.lexical.values.Measured.TheVariants.{Fits, TooLarge}
use Rattle.semver_base.specs.declared.partial.Partial.{Partial}
use Rattle.semver_base.specs.declared.range.VersionRange.{VersionRange}
use Rattle.std.proofs.Math.Bool.{and-true}
use Rattle.semver_req.specs.RetainedSet.{folded}
use Rattle.semver_req.specs.Partials.{partial_fits, sized_partial}
use Rattle.semver_req.specs.PieceReading.{joined, numbers_fit, sums_fit}
use Rattle.semver_req.specs.Parsers.{Failure}
use Rattle.semver_req.specs.Written.{comparator_of}
use Rattle.semver_req.specs.declared.common.comparator.Operator.{Operator}
use Rattle.semver_req.specs.declared.range_set_or_tag.pieces.RangeOrInvalid.{RangeOrInvalid}
use Rattle.semver_req.specs.declared.range_set_or_tag.pieces.RangeOrInvalid.TheVariants as read
use Rattle.semver_req.proofs.Fitting.{comparator_all}

-- ---- the result, by what fits

abbrev pub read_of : Bool → Bool → VersionRange → RangeOrInvalid
read_of numbers sums range = if numbers then (if sums then read.Range range else read.Invalid BoundTooLarge) else read.Invalid NumberTooLarge

all_snoc : (p : Comparator → Bool) (cs : List Comparator) (c : Comparator) → list_all p (cs ++ c ∷ []) ≡ (list_all p cs && p c)
all_snoc p cs c = list_all-append p cs (c ∷ []) ∙ ap (λ (b : Bool). list_all p cs && b) (and-true (p c))

folded_snoc : (cs : List Comparator) (c : Comparator) → folded (map comparator_range (cs ++ c ∷ [])) ≡ clamped (folded (map comparator_range cs)) (comparator_range c)
folded_snoc cs c = ap folded (map-append comparator_range cs (c ∷ [])) ∙ fold-append clamped everything (map comparator_range cs) (comparator_range c ∷ [])

joined_snoc : (cs : List Comparator) (c : Comparator)
    → joined (cs ++ c ∷ []) ≡ read_of (list_all numbers_fit cs && numbers_fit c) (list_all sums_fit cs && sums_fit c) (clamped (folded (map comparator_range cs)) (comparator_range c))
joined_snoc cs c = rw (all_snoc numbers_fit cs c, all_snoc sums_fit cs c, folded_snoc cs c) refl

-- ---- one comparator more

module _ (cs : List Comparator) (c : Comparator) where
  module _ (range : VersionRange) (is : read.Range range ≡ joined cs) (fits : numbers_fit c ≡ true) where
    with_range : (result : VersionRange) → sums_fit c ≡ true → result ≡ clamped range (comparator_range c) → read.Range result ≡ joined (cs ++ c ∷ [])
    with_range result sums value = sym (joined_snoc cs c ∙ go (list_all numbers_fit cs) (list_all sums_fit cs) (folded (map comparator_range cs)) is)
      where
        go : (a b : Bool) (other : VersionRange) → read.Range range ≡ read_of a b other
            → read_of (a && numbers_fit c) (b && sums_fit c) (clamped other (comparator_range c)) ≡ read.Range result
        go true true other e = let same : range ≡ other = cc e in rw (fits, sums, value, same) refl
        go true false other e = cc e
        go false b other e = cc e

    with_bound : sums_fit c ≡ false → read.Invalid BoundTooLarge ≡ joined (cs ++ c ∷ [])
    with_bound sums = sym (joined_snoc cs c ∙ go (list_all numbers_fit cs) (list_all sums_fit cs) (folded (map comparator_range cs)) is)
      where
        go : (a b : Bool) (other : VersionRange) → read.Range range ≡ read_of a b other
            → read_of (a && numbers_fit c) (b && sums_fit c) (clamped other (comparator_range c)) ≡ read.Invalid BoundTooLarge
        go true true other e = rw (fits, sums) refl
        go true false other e = cc e
        go false b other e = cc e

  -- a number is too large
  with_large : numbers_fit c ≡ false → read.Invalid NumberTooLarge ≡ joined (cs ++ c ∷ [])
  with_large over = sym (joined_snoc cs c ∙ go (list_all numbers_fit cs))
    where
      go : (a : Bool) → read_of (a && numbers_fit c) (list_all sums_fit cs && sums_fit c) (clamped (folded (map comparator_range cs)) (comparator_range c)) ≡ read.Invalid NumberTooLarge
      go true = rw over refl
      go false = refl

  -- what was invalid stays so
  with_invalid : {r : Rejection} → read.Invalid r ≡ joined cs → numbers_fit c ≡ true → read.Invalid r ≡ joined (cs ++ c ∷ [])
  with_invalid {r} is fits = sym (joined_snoc cs c ∙ go (list_all numbers_fit cs) (list_all sums_fit cs) (folded (map comparator_range cs)) is)
    where
      go : (a b : Bool) (other : VersionRange) → read.Invalid r ≡ read_of a b other
          → read_of (a && numbers_fit c) (b && sums_fit c) (clamped other (comparator_range c)) ≡ read.Invalid r
      go true true other e = cc e
      go true false other e = rw fits (sym e)
      go false b other e = sym e

-- ---- a comparator whose partial version is measured

-- the partial version that fits is the one in the text
pub fitting_partial : (p : Partial) {q : Partial} → Fits q ≡ sized_partial p → (p ≡ q) × (partial_fits p ≡ true)
fitting_partial p {q} e = elim (cases_Bool (partial_fits p)) [
  | inl fit ↦ let seen : Fits q ≡ Fits p = e ∙ rw fit refl in (cc seen, fit)
  | inr over ↦ let seen : Fits q ≡ TooLarge = e ∙ rw over refl in absurd (cc seen)
]

pub large_partial : (p : Partial) → TooLarge ≡ sized_partial p → partial_fits p ≡ false
large_partial p e = elim (cases_Bool (partial_fits p)) [
  | inl fit ↦ let seen : TooLarge ≡ Fits p = e ∙ rw fit refl in absurd (cc seen)
  | inr over ↦ over
]

module _ (m : Operator) (cs : List Comparator) (p : Partial) where
  pub and_range : {q : Partial} {range next result : VersionRange} → read.Range range ≡ joined cs → Fits q ≡ sized_partial p
      → next ≡ comparator_range (comparator_of m q) → all_fit (comparator_line (comparator_of m q)).sums ≡ true → result ≡ clamped range next
      → read.Range result ≡ joined (cs ++ comparator_of m p ∷ [])
  and_range {q} {range} {next} {result} is seen value sums clamp =
      let both = fitting_partial p seen in
      with_range cs (comparator_of m p) range is (comparator_all m p ∙ both.1) result (rw both.0 sums) (clamp ∙ ap (clamped range) (value ∙ ap (λ (x : Partial). comparator_range (comparator_of m x)) (sym both.0)))

  pub and_bound : {q : Partial} {range : VersionRange} {failure : Failure} → read.Range range ≡ joined cs → Fits q ≡ sized_partial p
      → IsBoundRejection (comparator_line (comparator_of m q)).sums failure → (failure ≡ None → ⊥) → read.Invalid BoundTooLarge ≡ joined (cs ++ comparator_of m p ∷ [])
  and_bound is seen (inl none) other = absurd (other none)
  and_bound {range = range} is seen (inr rejected) other =
      let both = fitting_partial p seen in
      with_bound cs (comparator_of m p) range is (comparator_all m p ∙ both.1) (rw both.0 rejected.1)

  pub and_large : TooLarge ≡ sized_partial p → read.Invalid NumberTooLarge ≡ joined (cs ++ comparator_of m p ∷ [])
  and_large seen = with_large cs (comparator_of m p) (comparator_all m p ∙ large_partial p seen)

  pub and_invalid : {q : Partial} {r : Rejection} → read.Invalid r ≡ joined cs → Fits q ≡ sized_partial p → read.Invalid r ≡ joined (cs ++ comparator_of m p ∷ [])
  and_invalid is seen = with_invalid cs (comparator_of m p) is (comparator_all m p ∙ (fitting_partial p seen).1)
