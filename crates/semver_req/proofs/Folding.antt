-- What the ranges that a parser keeps match.
use Rattle.std.proofs.Common.{◌≡◌, ◌&&◌, ◌||◌, ◌==◌, ◌+◌, ℕ, List, [], ◌∷◌, Bool, true, false, map, not, refl, sym, ap, ap₂, ◌∙◌, inl, inr, arith, is_ge, is_lt, ◌⊎◌, if◌then◌else◌, nat_lt, Ordering, Less, Equal, Greater}
use Rattle.std.proofs.lemmas.Bool.Decides.{nat_tests}
use Rattle.std.specs.List.{fold}
use Rattle.std.proofs.lemmas.Bool.{and_parts}
use Rattle.semver_base.specs.Clamp.{clamped, clamped_end, lesser_of, of_tied, HoldsNothing}
use Rattle.semver_base.specs.Comparators.{Caret, Comparator, Hyphen, OfPrimitive, Bare, Tilde, comparator_range, primitive_line}
use Rattle.semver_base.specs.Meaning.{alternative_means_with, alternatives, everything, from, is_below, release, to_below, tree_means_with}
use Rattle.semver_base.specs.Overlap.{ends_at_zero, is_exclusive}
use Rattle.semver_base.specs.PartialTable.{above_by, at_least_by, up_to, at_most_by, below_by, between, caret_by, caret_patch, equal_by, greater_range_by, lower_to_below, version_with_pre, tilde_by, upper_by, without_build}
use Rattle.semver_base.specs.Precedence.{precedence_cmp}
use Rattle.semver_base.specs.PrecedenceLaws.{precedence_total, le_less, le_turned}
use Rattle.semver_base.specs.declared.partial.Partial.{Partial}
use Rattle.semver_base.specs.declared.partial.PrimitiveKind.{PrimitiveKind}
use Rattle.semver_base.specs.declared.partial.PrimitiveKind.TheVariants as primitive
use Rattle.semver_base.specs.declared.partial.XRange.{XRange}
use Rattle.semver_base.specs.declared.partial.XRange.TheVariants.{Wildcard, Val}
use Rattle.semver_base.specs.declared.range.PreRelease.{PreRelease}
use Rattle.semver_base.specs.declared.range.RangeBound.{RangeBound}
use Rattle.semver_base.specs.declared.range.RangeBound.TheVariants as bound
use Rattle.semver_base.specs.declared.range.VersionBoundKind.{VersionBoundKind}
use Rattle.semver_base.specs.declared.range.VersionBoundKind.TheVariants as kind
use Rattle.semver_base.specs.declared.range.VersionRange.{VersionRange}
use Rattle.semver_base.specs.declared.version.Version.{Version}
use Rattle.semver_base.specs.ClampLaws.{clamped_bounds, clamped_empty, clamped_means}
use Rattle.std.proofs.Math.Bool.{and-false}
use Rattle.semver_base.specs.OrderLaws.{never_both}
use Rattle.semver_base.specs.OverlapLaws.{ends_no_release}
use Rattle.semver_req.specs.RetainedSet.{RetainedSetsMeanTheirTrees, folded, retained, retained_range}
use Rattle.semver_req.specs.Outcome.{tree_ranges}
use Rattle.semver_req.specs.declared.common.values.Flavour.TheVariants.{Npm, Normal, Specifier}

-- ---- folding

-- the tests of two comparators that are replaced by one, among others
or_joined : (r c a b o : Bool) → (r || (c || false)) ≡ (r || (a || (b || false))) → (r || (c || o)) ≡ (r || (a || (b || o)))
or_joined true c a b o e = refl
or_joined false true true b o e = refl
or_joined false true false true o e = refl
or_joined false true false false o e = cc e
or_joined false false true b o e = cc e
or_joined false false false true o e = cc e
or_joined false false false false o e = refl

joined : (hc ha hb l r c a b o : Bool) → hc ≡ (ha && hb) → ((hc && true) && (r || (c || false))) ≡ ((ha && (hb && true)) && (r || (a || (b || false))))
    → ((hc && l) && (r || (c || o))) ≡ ((ha && (hb && l)) && (r || (a || (b || o))))
joined true true true l r c a b o held means = ap (λ (w : Bool). l && w) (or_joined r c a b o means)
joined true true false l r c a b o held means = cc held
joined true false hb l r c a b o held means = cc held
joined false true true l r c a b o held means = cc held
joined false true false l r c a b o held means = refl
joined false false hb l r c a b o held means = refl

clamped_joined : (flag : PreRelease) (a b : VersionRange) (ranges : List VersionRange) (v : Version)
    → alternative_means_with flag (clamped a b ∷ ranges) v ≡ alternative_means_with flag (a ∷ b ∷ ranges) v
clamped_joined flag a b ranges v = joined _ _ _ _ _ _ _ _ _ (clamped_bounds a b v) (clamped_means a b flag v)

folded_from : (flag : PreRelease) (start : VersionRange) (ranges : List VersionRange) (v : Version)
    → alternative_means_with flag (fold clamped start ranges ∷ []) v ≡ alternative_means_with flag (start ∷ ranges) v
folded_from flag start [] v = refl
folded_from flag start (range ∷ ranges) v = folded_from flag (clamped start range) ranges v ∙ clamped_joined flag start range ranges v

-- the fold matches what the ranges match as comparators of one alternative
pub folded_means : (flag : PreRelease) (ranges : List VersionRange) (v : Version) → alternative_means_with flag (folded ranges ∷ []) v ≡ alternative_means_with flag ranges v
folded_means flag ranges v = folded_from flag everything ranges v

-- ---- an end at 0.0.0

-- a range that ends at 0.0.0 includes nothing
abbrev IsEmptyAtZero : VersionRange → Type 0
IsEmptyAtZero range = ends_at_zero range.end ≡ true → HoldsNothing range

-- what isn't below a version isn't below a lower one
above_none : (low v end : Version) → is_lt (precedence_cmp low end) ≡ false → is_ge (precedence_cmp v low) ≡ true → is_lt (precedence_cmp v end) ≡ false
above_none low v end h k = go (precedence_cmp v end) refl
  where
    go : (r : Ordering) → precedence_cmp v end ≡ r → is_lt r ≡ false
    go Less e = cc (h, le_less precedence_total low v end (le_turned precedence_total v low k) e)
    go Equal e = refl
    go Greater e = refl

-- no version from 0.0.0 on is below 0.0.0
from_zero_empty : (end : RangeBound) → IsEmptyAtZero (between (from (release 0 0 0)) end)
from_zero_empty bound.Unbounded h v = cc h
from_zero_empty (bound.Version end) h v = by_kind end.kind (and_parts (is_exclusive end.kind) _ h).0 none
  where
    none : is_below end.kind (precedence_cmp (release 0 0 0) end.version) ≡ false
    none = ends_no_release true (between (from (release 0 0 0)) (bound.Version end)) (sym h) (release 0 0 0) refl

    by_kind : (k : VersionBoundKind) → is_exclusive k ≡ true → is_below k (precedence_cmp (release 0 0 0) end.version) ≡ false
        → (is_ge (precedence_cmp v (release 0 0 0)) && is_below k (precedence_cmp v end.version)) ≡ false
    by_kind kind.Inclusive e h = cc e
    by_kind kind.Exclusive e h = never_both _ _ (above_none (release 0 0 0) v end.version h)

-- ---- lines that don't end at 0.0.0

-- an incremented number isn't 0
raised : (n : ℕ) → (n + 1 == 0) ≡ false
raised n = grind (arith, nat_tests)

raised_first : (n : ℕ) (b : Bool) → ((n + 1 == 0) && b) ≡ false
raised_first n b = rw (raised n) refl

raised_second : (a : Bool) (n : ℕ) (b : Bool) → (a && ((n + 1 == 0) && b)) ≡ false
raised_second a n b = rw (raised n) (and-false a)

pub tilde_ends : (p : Partial) (major minor : XRange) → ends_at_zero (tilde_by p major minor).range.end ≡ false
tilde_ends p Wildcard minor = refl
tilde_ends p (Val major) Wildcard = raised_first major _
tilde_ends p (Val major) (Val minor) = raised_second (major == 0) minor _

caret_patch_ends : (p : Partial) (patch : XRange) → ends_at_zero (caret_patch p patch).range.end ≡ false
caret_patch_ends p Wildcard = refl
caret_patch_ends p (Val patch) = raised patch

pub caret_ends : (p : Partial) (major minor patch : XRange) → ends_at_zero (caret_by p major minor patch).range.end ≡ false
caret_ends p Wildcard minor patch = refl
caret_ends p (Val major) Wildcard patch = raised_first major _
caret_ends p (Val major) (Val minor) patch = go (nat_lt 0 major) (nat_lt 0 minor)
  where
    go : (a b : Bool) → ends_at_zero (
        if a then lower_to_below p (release (major + 1) 0 0) ((major + 1) ∷ [])
        else if b then lower_to_below p (release 0 (minor + 1) 0) ((minor + 1) ∷ [])
        else caret_patch p patch
        ).range.end ≡ false
    go true b = raised_first major _
    go false true = raised_first minor _
    go false false = caret_patch_ends p patch

from_range_ends : (major minor patch : XRange) → ends_at_zero (greater_range_by kind.Inclusive major minor patch).range.end ≡ false
from_range_ends Wildcard minor patch = refl
from_range_ends (Val major) Wildcard patch = raised_first major _
from_range_ends (Val major) (Val minor) Wildcard = raised_second (major == 0) minor _
from_range_ends (Val major) (Val minor) (Val patch) = refl

pub equal_ends : (p : Partial) (major minor patch : XRange) → ends_at_zero (equal_by p major minor patch).range.end ≡ false
equal_ends p (Val major) (Val minor) (Val patch) = refl
equal_ends p major minor patch = from_range_ends p.major p.minor p.patch

pub upper_ends : (p : Partial) (major minor patch : XRange) → ends_at_zero (upper_by p major minor patch).end ≡ false
upper_ends p Wildcard minor patch = refl
upper_ends p (Val major) Wildcard patch = raised_first major _
upper_ends p (Val major) (Val minor) Wildcard = raised_second (major == 0) minor _
upper_ends p (Val major) (Val minor) (Val patch) = refl

-- ---- the others include nothing if they do

not_at_zero : (range : VersionRange) → ends_at_zero range.end ≡ false → IsEmptyAtZero range
not_at_zero range other h = cc (other, h)

at_least_empty : (p : Partial) (major : XRange) → IsEmptyAtZero (at_least_by p major).range
at_least_empty p Wildcard h = cc h
at_least_empty p (Val major) h = cc h

above_empty : (p : Partial) (major minor patch : XRange) → IsEmptyAtZero (above_by p major minor patch).range
above_empty p Wildcard minor patch h = from_zero_empty (to_below (release 0 0 0)) h
above_empty p (Val major) Wildcard patch h = cc h
above_empty p (Val major) (Val minor) Wildcard h = cc h
above_empty p (Val major) (Val minor) (Val patch) h = cc h

at_most_empty : (p : Partial) (major minor patch : XRange) → IsEmptyAtZero (at_most_by p major minor patch).range
at_most_empty p Wildcard minor patch h = cc h
at_most_empty p (Val major) Wildcard Wildcard h = from_zero_empty (to_below (release (major + 1) 0 0)) h
at_most_empty p (Val major) Wildcard (Val patch) h = from_zero_empty (to_below (version_with_pre p (major + 1) 0 patch)) h
at_most_empty p (Val major) (Val minor) Wildcard h = from_zero_empty (to_below (release major (minor + 1) 0)) h
at_most_empty p (Val major) (Val minor) (Val patch) h = from_zero_empty (up_to (without_build p)) h

below_empty : (p : Partial) (major minor patch : XRange) → IsEmptyAtZero (below_by p major minor patch).range
below_empty p Wildcard minor patch h = from_zero_empty (to_below (release 0 0 0)) h
below_empty p (Val major) Wildcard Wildcard h = from_zero_empty (to_below (release major 0 0)) h
below_empty p (Val major) Wildcard (Val patch) h = from_zero_empty (to_below (version_with_pre p major 0 patch)) h
below_empty p (Val major) (Val minor) Wildcard h = from_zero_empty (to_below (release major minor 0)) h
below_empty p (Val major) (Val minor) (Val patch) h = from_zero_empty (to_below (without_build p)) h

primitive_empty : (primitive_kind : PrimitiveKind) (p : Partial) → IsEmptyAtZero (primitive_line primitive_kind p).range
primitive_empty primitive.GreaterThan p h = above_empty p p.major p.minor p.patch h
primitive_empty primitive.LessThan p h = below_empty p p.major p.minor p.patch h
primitive_empty primitive.GreaterThanOrEqual p h = at_least_empty p p.major h
primitive_empty primitive.LessThanOrEqual p h = at_most_empty p p.major p.minor p.patch h
primitive_empty primitive.Equal p h = not_at_zero (equal_by p p.major p.minor p.patch).range (equal_ends p p.major p.minor p.patch) h

-- a comparator that ends at 0.0.0 includes nothing
pub comparator_empty : (c : Comparator) → ends_at_zero (comparator_range c).end ≡ true → HoldsNothing (comparator_range c)
comparator_empty (Tilde p) h = not_at_zero (comparator_range (Tilde p)) (tilde_ends p p.major p.minor) h
comparator_empty (Caret p) h = not_at_zero (comparator_range (Caret p)) (caret_ends p p.major p.minor p.patch) h
comparator_empty (OfPrimitive primitive_kind p) h = primitive_empty primitive_kind p h
comparator_empty (Bare p) h = not_at_zero (comparator_range (Bare p)) (equal_ends p p.major p.minor p.patch) h
comparator_empty (Hyphen p q) h = not_at_zero (comparator_range (Hyphen p q)) (upper_ends q q.major q.minor q.patch) h

-- ---- the kept ranges

-- a clamped end is one of the two
clamped_end_from : (a b : VersionRange) → IsEmptyAtZero a → IsEmptyAtZero b → (end : RangeBound) → (end ≡ a.end) ⊎ (end ≡ b.end) → ends_at_zero end ≡ true → HoldsNothing (clamped a b)
clamped_end_from a b empty_a empty_b end (inl first) h = clamped_empty a b (inl (empty_a (rw first at h)))
clamped_end_from a b empty_a empty_b end (inr second) h = clamped_empty a b (inr (empty_b (rw second at h)))

one_of_tied : (k : VersionBoundKind) (first second : RangeBound) → (of_tied k first second ≡ first) ⊎ (of_tied k first second ≡ second)
one_of_tied kind.Exclusive first second = inl refl
one_of_tied kind.Inclusive first second = inr refl

lesser_one : (r : Ordering) (k : VersionBoundKind) (first second : RangeBound) → (lesser_of r k first second ≡ first) ⊎ (lesser_of r k first second ≡ second)
lesser_one Less k first second = inl refl
lesser_one Equal k first second = one_of_tied k first second
lesser_one Greater k first second = inr refl

clamped_one : (first second : RangeBound) → (clamped_end first second ≡ first) ⊎ (clamped_end first second ≡ second)
clamped_one bound.Unbounded second = inr refl
clamped_one (bound.Version x) bound.Unbounded = inl refl
clamped_one (bound.Version x) (bound.Version y) = lesser_one _ x.kind (bound.Version x) (bound.Version y)

folded_empty_from : (start : VersionRange) (comparators : List Comparator) → IsEmptyAtZero start → IsEmptyAtZero (fold clamped start (map comparator_range comparators))
folded_empty_from start [] empty = empty
folded_empty_from start (c ∷ cs) empty = folded_empty_from (clamped start (comparator_range c)) cs
    (clamped_end_from start (comparator_range c) empty (comparator_empty c) _ (clamped_one start.end (comparator_range c).end))

folded_empty : (comparators : List Comparator) → IsEmptyAtZero (folded (map comparator_range comparators))
folded_empty comparators = folded_empty_from everything comparators (λ h. cc h)

-- the range of an alternative that ends at 0.0.0 includes nothing
pub retained_empty : (comparators : List Comparator) → ends_at_zero (retained_range comparators).end ≡ true → HoldsNothing (retained_range comparators)
retained_empty (Hyphen p q ∷ []) = comparator_empty (Hyphen p q)
retained_empty comparators = folded_empty comparators

-- the range of an alternative matches what the alternative matches
pub retained_range_means : (flag : PreRelease) (comparators : List Comparator) (v : Version)
    → alternative_means_with flag (retained_range comparators ∷ []) v ≡ alternative_means_with flag (map comparator_range comparators) v
retained_range_means flag (Hyphen p q ∷ []) v = refl
retained_range_means flag comparators v = folded_means flag (map comparator_range comparators) v

pub nothing_means : (flag : PreRelease) (range : VersionRange) (v : Version) → HoldsNothing range → alternative_means_with flag (range ∷ []) v ≡ false
nothing_means flag range v none = rw (none v) refl

all_mean : (flag : PreRelease) (tree : List (List Comparator)) (v : Version)
    → tree_means_with flag (alternatives (map retained_range tree)) v ≡ tree_means_with flag (tree_ranges tree) v
all_mean flag [] v = refl
all_mean flag (comparators ∷ tree) v = ap₂ (λ (a b : Bool). a || b) (retained_range_means flag comparators v) (all_mean flag tree v)

-- those that are dropped match nothing
rest_means : (flag : PreRelease) (tree : List (List Comparator)) (v : Version)
    → tree_means_with flag (alternatives (retained Normal tree)) v ≡ tree_means_with flag (tree_ranges tree) v
rest_means flag [] v = refl
rest_means flag (comparators ∷ tree) v = go (ends_at_zero (retained_range comparators).end) refl (rest_means flag tree v)
  where
    go : (b : Bool) → ends_at_zero (retained_range comparators).end ≡ b → tree_means_with flag (alternatives (retained Normal tree)) v ≡ tree_means_with flag (tree_ranges tree) v
        → tree_means_with flag (alternatives (if not b then retained_range comparators ∷ retained Normal tree else retained Normal tree)) v ≡ tree_means_with flag (tree_ranges (comparators ∷ tree)) v
    go true e same = rw (← retained_range_means flag comparators v, nothing_means flag (retained_range comparators) v (retained_empty comparators e)) same
    go false e same = rw (retained_range_means flag comparators v, same) refl

-- what is kept of a tree matches what the tree matches
pub retained_means : RetainedSetsMeanTheirTrees
retained_means Npm tree flag v = rest_means flag tree v
retained_means Normal tree flag v = rest_means flag tree v
retained_means Specifier tree flag v = all_mean flag tree v
