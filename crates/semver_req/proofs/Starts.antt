-- A range that a parser keeps has a start, or no bounds.
use Rattle.std.proofs.Common.{◌≡◌, ◌+◌, List, [], ◌∷◌, Bool, true, false, map, refl, fold, if◌then◌else◌, nat_lt, Ordering, Less, Equal, Greater}
use Rattle.semver_base.specs.Clamp.{clamped, clamped_end, clamped_start, greater_of, of_tied, stopped_at, stopped_by}
use Rattle.semver_base.specs.Comparators.{Caret, Comparator, Hyphen, OfPrimitive, Bare, Tilde, comparator_range, primitive_line}
use Rattle.semver_base.specs.Meaning.{everything, release}
use Rattle.semver_base.specs.PartialTable.{above_by, at_least_by, at_most_by, below_by, caret_by, caret_patch, equal_by, greater_range_by, lower_to_below, tilde_by}
use Rattle.semver_base.specs.Precedence.{precedence_cmp}
use Rattle.semver_base.specs.declared.partial.Partial.{Partial}
use Rattle.semver_base.specs.declared.partial.PrimitiveKind.{PrimitiveKind}
use Rattle.semver_base.specs.declared.partial.PrimitiveKind.TheVariants as primitive
use Rattle.semver_base.specs.declared.partial.XRange.{XRange}
use Rattle.semver_base.specs.declared.partial.XRange.TheVariants.{Wildcard, Val}
use Rattle.semver_base.specs.declared.range.RangeBound.{RangeBound}
use Rattle.semver_base.specs.declared.range.RangeBound.TheVariants as bound
use Rattle.semver_base.specs.declared.range.VersionBound.{VersionBound}
use Rattle.semver_base.specs.declared.range.VersionBoundKind.{VersionBoundKind}
use Rattle.semver_base.specs.declared.range.VersionBoundKind.TheVariants as kind
use Rattle.semver_base.specs.declared.range.VersionRange.{VersionRange}
use Rattle.semver_req.specs.RetainedSet.{retained_range}

-- an absent start comes with an absent end only
abbrev pub starts_or_is_open : RangeBound → RangeBound → Bool
starts_or_is_open bound.Unbounded (bound.Version e) = false
starts_or_is_open start end = true

abbrev pub has_start : VersionRange → Bool
has_start range = starts_or_is_open range.start range.end

-- ---- the table: a line without a start has no end

tilde_starts : (p : Partial) (major minor : XRange) → has_start (tilde_by p major minor).range ≡ true
tilde_starts p Wildcard minor = refl
tilde_starts p (Val major) Wildcard = refl
tilde_starts p (Val major) (Val minor) = refl

caret_patch_starts : (p : Partial) (patch : XRange) → has_start (caret_patch p patch).range ≡ true
caret_patch_starts p Wildcard = refl
caret_patch_starts p (Val patch) = refl

caret_starts : (p : Partial) (major minor patch : XRange) → has_start (caret_by p major minor patch).range ≡ true
caret_starts p Wildcard minor patch = refl
caret_starts p (Val major) Wildcard patch = refl
caret_starts p (Val major) (Val minor) patch = go (nat_lt 0 major) (nat_lt 0 minor)
  where
    go : (a b : Bool) → has_start (
        if a then lower_to_below p (release (major + 1) 0 0) ((major + 1) ∷ [])
        else if b then lower_to_below p (release 0 (minor + 1) 0) ((minor + 1) ∷ [])
        else caret_patch p patch
        ).range ≡ true
    go true b = refl
    go false true = refl
    go false false = caret_patch_starts p patch

from_range_starts : (major minor patch : XRange) → has_start (greater_range_by kind.Inclusive major minor patch).range ≡ true
from_range_starts Wildcard minor patch = refl
from_range_starts (Val major) Wildcard patch = refl
from_range_starts (Val major) (Val minor) Wildcard = refl
from_range_starts (Val major) (Val minor) (Val patch) = refl

equal_starts : (p : Partial) (major minor patch : XRange) → has_start (equal_by p major minor patch).range ≡ true
equal_starts p (Val major) (Val minor) (Val patch) = refl
equal_starts p major minor patch = from_range_starts p.major p.minor p.patch

at_least_starts : (p : Partial) (major : XRange) → has_start (at_least_by p major).range ≡ true
at_least_starts p Wildcard = refl
at_least_starts p (Val major) = refl

above_starts : (p : Partial) (major minor patch : XRange) → has_start (above_by p major minor patch).range ≡ true
above_starts p Wildcard minor patch = refl
above_starts p (Val major) Wildcard patch = refl
above_starts p (Val major) (Val minor) Wildcard = refl
above_starts p (Val major) (Val minor) (Val patch) = refl

at_most_starts : (p : Partial) (major minor patch : XRange) → has_start (at_most_by p major minor patch).range ≡ true
at_most_starts p Wildcard minor patch = refl
at_most_starts p (Val major) Wildcard Wildcard = refl
at_most_starts p (Val major) Wildcard (Val patch) = refl
at_most_starts p (Val major) (Val minor) Wildcard = refl
at_most_starts p (Val major) (Val minor) (Val patch) = refl

below_starts : (p : Partial) (major minor patch : XRange) → has_start (below_by p major minor patch).range ≡ true
below_starts p Wildcard minor patch = refl
below_starts p (Val major) Wildcard Wildcard = refl
below_starts p (Val major) Wildcard (Val patch) = refl
below_starts p (Val major) (Val minor) Wildcard = refl
below_starts p (Val major) (Val minor) (Val patch) = refl

primitive_starts : (primitive_kind : PrimitiveKind) (p : Partial) → has_start (primitive_line primitive_kind p).range ≡ true
primitive_starts primitive.GreaterThan p = above_starts p p.major p.minor p.patch
primitive_starts primitive.LessThan p = below_starts p p.major p.minor p.patch
primitive_starts primitive.GreaterThanOrEqual p = at_least_starts p p.major
primitive_starts primitive.LessThanOrEqual p = at_most_starts p p.major p.minor p.patch
primitive_starts primitive.Equal p = equal_starts p p.major p.minor p.patch

-- an absent start of a comparator comes with an absent end
pub comparator_starts : (c : Comparator) → has_start (comparator_range c) ≡ true
comparator_starts (Tilde p) = tilde_starts p p.major p.minor
comparator_starts (Caret p) = caret_starts p p.major p.minor p.patch
comparator_starts (OfPrimitive primitive_kind p) = primitive_starts primitive_kind p
comparator_starts (Bare p) = equal_starts p p.major p.minor p.patch
comparator_starts (Hyphen p q) = refl

-- ---- what `clamp` keeps

tied_starts : (k : VersionBoundKind) (x y : VersionBound) (end : RangeBound) → starts_or_is_open (of_tied k (bound.Version x) (bound.Version y)) end ≡ true
tied_starts kind.Inclusive x y end = refl
tied_starts kind.Exclusive x y end = refl

greater_starts : (r : Ordering) (k : VersionBoundKind) (x y : VersionBound) (end : RangeBound) → starts_or_is_open (greater_of r k (bound.Version x) (bound.Version y)) end ≡ true
greater_starts Less k x y end = refl
greater_starts Equal k x y end = tied_starts k x y end
greater_starts Greater k x y end = refl

stopped_by_starts : (r : Ordering) (x y : VersionBound) (end : RangeBound) → starts_or_is_open (stopped_by r x y) end ≡ true
stopped_by_starts Less x y end = refl
stopped_by_starts Equal x y end = tied_starts x.kind x y end
stopped_by_starts Greater x y end = refl

stopped_starts : (s e : RangeBound) → starts_or_is_open s e ≡ true → starts_or_is_open (stopped_at s e) e ≡ true
stopped_starts bound.Unbounded e h = h
stopped_starts (bound.Version x) bound.Unbounded h = refl
stopped_starts (bound.Version x) (bound.Version y) h = stopped_by_starts (precedence_cmp x.version y.version) x y (bound.Version y)

chosen_starts : (s e t f : RangeBound) → starts_or_is_open s e ≡ true → starts_or_is_open t f ≡ true → starts_or_is_open (clamped_start s t) (clamped_end e f) ≡ true
chosen_starts bound.Unbounded bound.Unbounded t f h k = k
chosen_starts bound.Unbounded (bound.Version y) t f h k = cc h
chosen_starts (bound.Version x) e bound.Unbounded f h k = refl
chosen_starts (bound.Version x) e (bound.Version y) f h k = greater_starts (precedence_cmp x.version y.version) x.kind x y (clamped_end e f)

clamped_starts : (a b : VersionRange) → has_start a ≡ true → has_start b ≡ true → has_start (clamped a b) ≡ true
clamped_starts a b h k = stopped_starts (clamped_start a.start b.start) (clamped_end a.end b.end) (chosen_starts a.start a.end b.start b.end h k)

folded_starts : (start : VersionRange) (comparators : List Comparator) → has_start start ≡ true → has_start (fold clamped start (map comparator_range comparators)) ≡ true
folded_starts start [] h = h
folded_starts start (c ∷ cs) h = folded_starts (clamped start (comparator_range c)) cs (clamped_starts start (comparator_range c) h (comparator_starts c))

-- an absent start of the range of an alternative comes with an absent end
pub retained_range_starts : (comparators : List Comparator) → has_start (retained_range comparators) ≡ true
retained_range_starts (Hyphen p q ∷ []) = comparator_starts (Hyphen p q)
retained_range_starts comparators = folded_starts everything comparators refl
