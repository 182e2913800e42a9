-- The bounds of what is kept of comparators that fit, whose identifiers match the grammar, have a text that parses back.
use Rattle.std.proofs.Common.{◌≡◌, ◌<◌, ◌+◌, ℕ, List, [], ◌∷◌, Bool, true, false, map, not, refl, sym, ◌∙◌, if◌then◌else◌, nat_lt, ◌++◌, ◌^◌, Ordering, Less, Equal, Greater}
use Rattle.std.specs.List.{fold, list_all}
use Rattle.std.proofs.lemmas.Bool.{and_parts, ltb-true}
use Rattle.std.proofs.lemmas.List.Folds.{list_all-append}
use Rattle.semver_base.specs.Clamp.{clamped, clamped_end, clamped_start, greater_of, lesser_of, of_tied, stopped_at, stopped_by}
use Rattle.semver_base.specs.Comparators.{Caret, Comparator, Hyphen, OfPrimitive, Bare, Tilde, comparator_range, primitive_line}
use Rattle.semver_base.specs.Meaning.{everything, release}
use Rattle.semver_base.specs.NormalText.{AreWritableRanges, IsWritableBound, IsWritableRange}
use Rattle.semver_base.specs.Overlap.{ends_at_zero}
use Rattle.semver_base.specs.PartialTable.{above_by, all_fit, at_least_by, at_most_by, below_by, caret_by, caret_patch, equal_by, greater_range_by, lower_to_below, lowest, number_fits, or_zero, version_with_pre, tilde_by, upper_by, without_build, Line}
use Rattle.semver_base.specs.Precedence.{precedence_cmp}
use Rattle.semver_base.specs.VersionText.{AreIdentifiers, IsWritable}
use Rattle.semver_base.specs.declared.partial.Partial.{Partial}
use Rattle.semver_base.specs.declared.partial.PrimitiveKind.{PrimitiveKind}
use Rattle.semver_base.specs.declared.partial.PrimitiveKind.TheVariants as primitive
use Rattle.semver_base.specs.declared.partial.XRange.{XRange}
use Rattle.semver_base.specs.declared.partial.XRange.TheVariants.{Wildcard, Val}
use Rattle.semver_base.specs.declared.range.RangeBound.{RangeBound}
use Rattle.semver_base.specs.declared.range.RangeBound.TheVariants as bound
use Rattle.semver_base.specs.declared.range.VersionBound.{VersionBound}
use Rattle.semver_base.specs.declared.range.VersionBoundKind.{VersionBoundKind}
use Rattle.semver_base.specs.declared.range.VersionBoundKind.TheVariants as kind
use Rattle.semver_base.specs.declared.range.VersionRange.{VersionRange}
use Rattle.semver_req.specs.Comparators.{component_numbers, fits, numbers}
use Rattle.semver_req.specs.RetainedSet.{retained, retained_range}
use Rattle.semver_req.specs.declared.common.values.Flavour.{Flavour}
use Rattle.semver_req.specs.declared.common.values.Flavour.TheVariants.{Npm, Normal, Specifier}

-- ---- identifiers of the grammar

abbrev pub PartialHasIdentifiers : Partial → Type 0
PartialHasIdentifiers p = AreIdentifiers p.pre × AreIdentifiers p.build

-- the identifiers of its partial versions
abbrev pub ComparatorHasIdentifiers : Comparator → Type 0
ComparatorHasIdentifiers (Tilde p) = PartialHasIdentifiers p
ComparatorHasIdentifiers (Caret p) = PartialHasIdentifiers p
ComparatorHasIdentifiers (OfPrimitive primitive_kind p) = PartialHasIdentifiers p
ComparatorHasIdentifiers (Bare p) = PartialHasIdentifiers p
ComparatorHasIdentifiers (Hyphen p q) = PartialHasIdentifiers p × PartialHasIdentifiers q

abbrev pub AllHaveIdentifiers : List Comparator → Type 0
AllHaveIdentifiers [] = Unit {0}
AllHaveIdentifiers (c ∷ cs) = ComparatorHasIdentifiers c × AllHaveIdentifiers cs

abbrev pub TreeHasIdentifiers : List (List Comparator) → Type 0
TreeHasIdentifiers [] = Unit {0}
TreeHasIdentifiers (comparators ∷ tree) = AllHaveIdentifiers comparators × TreeHasIdentifiers tree

-- ---- what `clamp` keeps

tied_is : (k : VersionBoundKind) (s t : RangeBound) → IsWritableBound s → IsWritableBound t → IsWritableBound (of_tied k s t)
tied_is kind.Inclusive s t h j = j
tied_is kind.Exclusive s t h j = h

greater_is : (r : Ordering) (k : VersionBoundKind) (s t : RangeBound) → IsWritableBound s → IsWritableBound t → IsWritableBound (greater_of r k s t)
greater_is Less k s t h j = j
greater_is Equal k s t h j = tied_is k s t h j
greater_is Greater k s t h j = h

lesser_is : (r : Ordering) (k : VersionBoundKind) (s t : RangeBound) → IsWritableBound s → IsWritableBound t → IsWritableBound (lesser_of r k s t)
lesser_is Less k s t h j = h
lesser_is Equal k s t h j = tied_is k s t h j
lesser_is Greater k s t h j = j

start_is : (s t : RangeBound) → IsWritableBound s → IsWritableBound t → IsWritableBound (clamped_start s t)
start_is bound.Unbounded t h j = j
start_is (bound.Version x) bound.Unbounded h j = h
start_is (bound.Version x) (bound.Version y) h j = greater_is (precedence_cmp x.version y.version) x.kind (bound.Version x) (bound.Version y) h j

end_is : (s t : RangeBound) → IsWritableBound s → IsWritableBound t → IsWritableBound (clamped_end s t)
end_is bound.Unbounded t h j = j
end_is (bound.Version x) bound.Unbounded h j = h
end_is (bound.Version x) (bound.Version y) h j = lesser_is (precedence_cmp x.version y.version) x.kind (bound.Version x) (bound.Version y) h j

stopped_by_is : (r : Ordering) (x y : VersionBound) → IsWritable x.version → IsWritable y.version → IsWritableBound (stopped_by r x y)
stopped_by_is Less x y h j = h
stopped_by_is Equal x y h j = tied_is x.kind (bound.Version x) (bound.Version y) h j
stopped_by_is Greater x y h j = j

stopped_is : (s e : RangeBound) → IsWritableBound s → IsWritableBound e → IsWritableBound (stopped_at s e)
stopped_is bound.Unbounded e h j = h
stopped_is (bound.Version x) bound.Unbounded h j = h
stopped_is (bound.Version x) (bound.Version y) h j = stopped_by_is (precedence_cmp x.version y.version) x y h j

clamped_writable : (a b : VersionRange) → IsWritableRange a → IsWritableRange b → IsWritableRange (clamped a b)
clamped_writable a b h j =
    let end = end_is a.end b.end h.end j.end in
    record { start = stopped_is (clamped_start a.start b.start) (clamped_end a.end b.end) (start_is a.start b.start h.start j.start) end; end = end }

-- ---- the table

small : (n : ℕ) → number_fits n ≡ true → n < 2 ^ 64
small n h = ltb-true n (2 ^ 64) h

release_writable : (major minor patch : ℕ) → number_fits major ≡ true → number_fits minor ≡ true → number_fits patch ≡ true → IsWritable (release major minor patch)
release_writable major minor patch h j k = record { numbers = record { major = small major h; minor = small minor j; patch = small patch k }; pre = tt; build = tt }

first_sum : (n : ℕ) → all_fit (n ∷ []) ≡ true → number_fits n ≡ true
first_sum n h = (and_parts (number_fits n) true h).0

tilde_writable : (p : Partial) → IsWritable (lowest p) → (major minor : XRange) → number_fits (or_zero major) ≡ true → all_fit (tilde_by p major minor).sums ≡ true → IsWritableRange (tilde_by p major minor).range
tilde_writable p low Wildcard minor h sums = record { start = tt; end = tt }
tilde_writable p low (Val major) Wildcard h sums = record { start = low; end = release_writable (major + 1) 0 0 (first_sum (major + 1) sums) refl refl }
tilde_writable p low (Val major) (Val minor) h sums = record { start = low; end = release_writable major (minor + 1) 0 h (first_sum (minor + 1) sums) refl }

caret_patch_writable : (p : Partial) → IsWritable (lowest p) → (patch : XRange) → all_fit (caret_patch p patch).sums ≡ true → IsWritableRange (caret_patch p patch).range
caret_patch_writable p low Wildcard sums = record { start = low; end = release_writable 0 1 0 refl refl refl }
caret_patch_writable p low (Val patch) sums = record { start = low; end = release_writable 0 0 (patch + 1) refl refl (first_sum (patch + 1) sums) }

caret_writable : (p : Partial) → IsWritable (lowest p) → (major minor patch : XRange) → all_fit (caret_by p major minor patch).sums ≡ true → IsWritableRange (caret_by p major minor patch).range
caret_writable p low Wildcard minor patch sums = record { start = tt; end = tt }
caret_writable p low (Val major) Wildcard patch sums = record { start = low; end = release_writable (major + 1) 0 0 (first_sum (major + 1) sums) refl refl }
caret_writable p low (Val major) (Val minor) patch sums = go (nat_lt 0 major) (nat_lt 0 minor) sums
  where
    line : Bool → Bool → Line
    line a b =
        if a then lower_to_below p (release (major + 1) 0 0) ((major + 1) ∷ [])
        else if b then lower_to_below p (release 0 (minor + 1) 0) ((minor + 1) ∷ [])
        else caret_patch p patch

    go : (a b : Bool) → all_fit (line a b).sums ≡ true → IsWritableRange (line a b).range
    go true b sums = record { start = low; end = release_writable (major + 1) 0 0 (first_sum (major + 1) sums) refl refl }
    go false true sums = record { start = low; end = release_writable 0 (minor + 1) 0 refl (first_sum (minor + 1) sums) refl }
    go false false sums = caret_patch_writable p low patch sums

from_range_writable : (major minor patch : XRange) → number_fits (or_zero major) ≡ true → number_fits (or_zero minor) ≡ true → number_fits (or_zero patch) ≡ true
    → all_fit (greater_range_by kind.Inclusive major minor patch).sums ≡ true → IsWritableRange (greater_range_by kind.Inclusive major minor patch).range
from_range_writable Wildcard minor patch h j k sums = record { start = tt; end = tt }
from_range_writable (Val major) Wildcard patch h j k sums = record { start = release_writable major 0 (or_zero patch) h refl k; end = release_writable (major + 1) 0 (or_zero patch) (first_sum (major + 1) sums) refl k }
from_range_writable (Val major) (Val minor) Wildcard h j k sums = record { start = release_writable major minor 0 h j refl; end = release_writable major (minor + 1) 0 h (first_sum (minor + 1) sums) refl }
from_range_writable (Val major) (Val minor) (Val patch) h j k sums = record { start = release_writable major minor patch h j k; end = release_writable major minor patch h j k }

-- the numbers of the version that the partial names fit
abbrev NumbersFit : Partial → Type 0
NumbersFit p = (number_fits (or_zero p.major) ≡ true) × (number_fits (or_zero p.minor) ≡ true) × (number_fits (or_zero p.patch) ≡ true)

equal_writable : (p : Partial) → IsWritable (lowest p) → NumbersFit p → (major minor patch : XRange) → all_fit (equal_by p major minor patch).sums ≡ true → IsWritableRange (equal_by p major minor patch).range
equal_writable p low n (Val major) (Val minor) (Val patch) sums = record { start = low; end = low }
equal_writable p low n major minor patch sums = from_range_writable p.major p.minor p.patch n.0 n.1 n.2 sums

-- without its build
bare : (p : Partial) → IsWritable (lowest p) → IsWritable (without_build p)
bare p low = record { numbers = record { major = low.numbers.major; minor = low.numbers.minor; patch = low.numbers.patch }; pre = low.pre; build = tt }

at_least_writable : (p : Partial) → IsWritable (lowest p) → (major : XRange) → IsWritableRange (at_least_by p major).range
at_least_writable p low Wildcard = record { start = tt; end = tt }
at_least_writable p low (Val major) = record { start = bare p low; end = tt }

zero_writable : IsWritable (release 0 0 0)
zero_writable = release_writable 0 0 0 refl refl refl

above_writable : (p : Partial) → IsWritable (lowest p) → (major minor patch : XRange) → number_fits (or_zero major) ≡ true → number_fits (or_zero patch) ≡ true
    → all_fit (above_by p major minor patch).sums ≡ true → IsWritableRange (above_by p major minor patch).range
above_writable p low Wildcard minor patch h k sums = record { start = zero_writable; end = zero_writable }
above_writable p low (Val major) Wildcard patch h k sums = record { start = release_writable (major + 1) 0 (or_zero patch) (first_sum (major + 1) sums) refl k; end = tt }
above_writable p low (Val major) (Val minor) Wildcard h k sums = record { start = release_writable major (minor + 1) 0 h (first_sum (minor + 1) sums) refl; end = tt }
above_writable p low (Val major) (Val minor) (Val patch) h k sums = record { start = bare p low; end = tt }

pre_writable : (p : Partial) → IsWritable (lowest p) → (major minor patch : ℕ) → number_fits major ≡ true → number_fits minor ≡ true → number_fits patch ≡ true → IsWritable (version_with_pre p major minor patch)
pre_writable p low major minor patch h j k = record { numbers = record { major = small major h; minor = small minor j; patch = small patch k }; pre = low.pre; build = tt }

at_most_writable : (p : Partial) → IsWritable (lowest p) → (major minor patch : XRange) → number_fits (or_zero major) ≡ true → number_fits (or_zero patch) ≡ true
    → all_fit (at_most_by p major minor patch).sums ≡ true → IsWritableRange (at_most_by p major minor patch).range
at_most_writable p low Wildcard minor patch h k sums = record { start = tt; end = tt }
at_most_writable p low (Val major) Wildcard Wildcard h k sums = record { start = zero_writable; end = release_writable (major + 1) 0 0 (first_sum (major + 1) sums) refl refl }
at_most_writable p low (Val major) Wildcard (Val patch) h k sums = record { start = zero_writable; end = pre_writable p low (major + 1) 0 patch (first_sum (major + 1) sums) refl k }
at_most_writable p low (Val major) (Val minor) Wildcard h k sums = record { start = zero_writable; end = release_writable major (minor + 1) 0 h (first_sum (minor + 1) sums) refl }
at_most_writable p low (Val major) (Val minor) (Val patch) h k sums = record { start = zero_writable; end = bare p low }

below_writable : (p : Partial) → IsWritable (lowest p) → (major minor patch : XRange) → number_fits (or_zero major) ≡ true → number_fits (or_zero minor) ≡ true → number_fits (or_zero patch) ≡ true
    → IsWritableRange (below_by p major minor patch).range
below_writable p low Wildcard minor patch h j k = record { start = zero_writable; end = zero_writable }
below_writable p low (Val major) Wildcard Wildcard h j k = record { start = zero_writable; end = release_writable major 0 0 h refl refl }
below_writable p low (Val major) Wildcard (Val patch) h j k = record { start = zero_writable; end = pre_writable p low major 0 patch h refl k }
below_writable p low (Val major) (Val minor) Wildcard h j k = record { start = zero_writable; end = release_writable major minor 0 h j refl }
below_writable p low (Val major) (Val minor) (Val patch) h j k = record { start = zero_writable; end = bare p low }

primitive_writable : (primitive_kind : PrimitiveKind) (p : Partial) → IsWritable (lowest p) → NumbersFit p → all_fit (primitive_line primitive_kind p).sums ≡ true → IsWritableRange (primitive_line primitive_kind p).range
primitive_writable primitive.GreaterThan p low n sums = above_writable p low p.major p.minor p.patch n.0 n.2 sums
primitive_writable primitive.LessThan p low n sums = below_writable p low p.major p.minor p.patch n.0 n.1 n.2
primitive_writable primitive.GreaterThanOrEqual p low n sums = at_least_writable p low p.major
primitive_writable primitive.LessThanOrEqual p low n sums = at_most_writable p low p.major p.minor p.patch n.0 n.2 sums
primitive_writable primitive.Equal p low n sums = equal_writable p low n p.major p.minor p.patch sums

upper_writable : (p : Partial) → IsWritable (lowest p) → (major minor patch : XRange) → number_fits (or_zero major) ≡ true → number_fits (or_zero patch) ≡ true
    → all_fit (upper_by p major minor patch).sums ≡ true → IsWritableBound (upper_by p major minor patch).end
upper_writable p low Wildcard minor patch h k sums = tt
upper_writable p low (Val major) Wildcard patch h k sums = release_writable (major + 1) 0 (or_zero patch) (first_sum (major + 1) sums) refl k
upper_writable p low (Val major) (Val minor) Wildcard h k sums = release_writable major (minor + 1) 0 h (first_sum (minor + 1) sums) refl
upper_writable p low (Val major) (Val minor) (Val patch) h k sums = bare p low

component_fit : (x : XRange) → all_fit (component_numbers x) ≡ true → number_fits (or_zero x) ≡ true
component_fit Wildcard h = refl
component_fit (Val n) h = first_sum n h

partial_fit : (p : Partial) → all_fit (numbers p) ≡ true → NumbersFit p
partial_fit p h =
    let both = sym (list_all-append number_fits (component_numbers p.major ++ component_numbers p.minor) (component_numbers p.patch)) ∙ h in
    let first = sym (list_all-append number_fits (component_numbers p.major) (component_numbers p.minor)) ∙ (and_parts _ _ both).0 in
    let patch = (and_parts (all_fit (component_numbers p.major ++ component_numbers p.minor)) _ both).1 in
    (component_fit p.major (and_parts _ _ first).0, component_fit p.minor (and_parts (all_fit (component_numbers p.major)) _ first).1, component_fit p.patch patch)

lowest_writable : (p : Partial) → NumbersFit p → PartialHasIdentifiers p → IsWritable (lowest p)
lowest_writable p n has = record { numbers = record { major = small (or_zero p.major) n.0; minor = small (or_zero p.minor) n.1; patch = small (or_zero p.patch) n.2 }; pre = has.0; build = has.1 }

-- the bounds of a comparator that fits
comparator_writable : (c : Comparator) → fits c ≡ true → ComparatorHasIdentifiers c → IsWritableRange (comparator_range c)
comparator_writable (Tilde p) h has = let n = partial_fit p (and_parts _ _ h).0 in tilde_writable p (lowest_writable p n has) p.major p.minor n.0 (and_parts (all_fit (numbers p)) _ h).1
comparator_writable (Caret p) h has = let n = partial_fit p (and_parts _ _ h).0 in caret_writable p (lowest_writable p n has) p.major p.minor p.patch (and_parts (all_fit (numbers p)) _ h).1
comparator_writable (OfPrimitive primitive_kind p) h has = let n = partial_fit p (and_parts _ _ h).0 in primitive_writable primitive_kind p (lowest_writable p n has) n (and_parts (all_fit (numbers p)) _ h).1
comparator_writable (Bare p) h has = let n = partial_fit p (and_parts _ _ h).0 in equal_writable p (lowest_writable p n has) n p.major p.minor p.patch (and_parts (all_fit (numbers p)) _ h).1
comparator_writable (Hyphen p q) h has =
    let both = sym (list_all-append number_fits (numbers p) (numbers q)) ∙ (and_parts _ _ h).0 in
    let n = partial_fit p (and_parts _ _ both).0 in
    let m = partial_fit q (and_parts (all_fit (numbers p)) _ both).1 in
    record { start = lowest_writable p n has.0; end = upper_writable q (lowest_writable q m has.1) q.major q.minor q.patch m.0 m.2 (and_parts (all_fit (numbers p ++ numbers q)) _ h).1 }

folded_writable : (start : VersionRange) (comparators : List Comparator) → IsWritableRange start → list_all fits comparators ≡ true → AllHaveIdentifiers comparators
    → IsWritableRange (fold clamped start (map comparator_range comparators))
folded_writable start [] h fit has = h
folded_writable start (c ∷ cs) h fit has =
    folded_writable (clamped start (comparator_range c)) cs (clamped_writable start (comparator_range c) h (comparator_writable c (and_parts _ _ fit).0 has.0)) (and_parts (fits c) _ fit).1 has.1

-- the range of an alternative whose comparators fit
pub retained_range_writable : (comparators : List Comparator) → list_all fits comparators ≡ true → AllHaveIdentifiers comparators → IsWritableRange (retained_range comparators)
retained_range_writable (Hyphen p q ∷ []) fit has = comparator_writable (Hyphen p q) (and_parts _ _ fit).0 has.0
retained_range_writable comparators fit has = folded_writable everything comparators (record { start = tt; end = tt }) fit has

abbrev pub all_trees_fit : List (List Comparator) → Bool
all_trees_fit tree = list_all (λ cs. list_all fits cs) tree

all_writable : (tree : List (List Comparator)) → all_trees_fit tree ≡ true → TreeHasIdentifiers tree → AreWritableRanges (map retained_range tree)
all_writable [] fit has = tt
all_writable (comparators ∷ tree) fit has =
    (retained_range_writable comparators (and_parts _ _ fit).0 has.0, all_writable tree (and_parts (list_all fits comparators) _ fit).1 has.1)

rest_writable : (tree : List (List Comparator)) → all_trees_fit tree ≡ true → TreeHasIdentifiers tree → AreWritableRanges (retained Normal tree)
rest_writable [] fit has = tt
rest_writable (comparators ∷ tree) fit has = go (ends_at_zero (retained_range comparators).end) (rest_writable tree (and_parts (list_all fits comparators) _ fit).1 has.1)
  where
    go : (b : Bool) → AreWritableRanges (retained Normal tree) → AreWritableRanges (if not b then retained_range comparators ∷ retained Normal tree else retained Normal tree)
    go true rest = rest
    go false rest = (retained_range_writable comparators (and_parts _ _ fit).0 has.0, rest)

-- what is kept of a tree whose comparators fit
pub retained_writable : (f : Flavour) (tree : List (List Comparator)) → all_trees_fit tree ≡ true → TreeHasIdentifiers tree → AreWritableRanges (retained f tree)
retained_writable Npm tree fit has = rest_writable tree fit has
retained_writable Normal tree fit has = rest_writable tree fit has
retained_writable Specifier tree fit has = all_writable tree fit has
