-- Which versions bounds include, and which match comparators, alternatives and trees of them. Source: node-semver's
-- description of ranges and of pre-release tags.
use Rattle.std.proofs.Common.{◌≡◌, refl, ap, ℕ, List, [], ◌∷◌, length, map, Bool, true, false, ◌==◌, ◌&&◌, ◌||◌, not, is_ge, is_gt, is_le, is_lt, Ordering, Less, Equal, Greater}
use Rattle.std.specs.List.{list_all, list_any}
use Rattle.semver_base.specs.Precedence.{precedence_cmp}
use Rattle.semver_base.specs.declared.version.Version.{Version}
use Rattle.semver_base.specs.declared.range.PreRelease.{PreRelease}
use Rattle.semver_base.specs.declared.range.PreRelease.TheVariants.{Restricted, Admitted}
use Rattle.semver_base.specs.declared.range.RangeBound.{RangeBound}
use Rattle.semver_base.specs.declared.range.RangeBound.TheVariants as bound
use Rattle.semver_base.specs.declared.range.VersionBoundKind.{VersionBoundKind}
use Rattle.semver_base.specs.declared.range.VersionBoundKind.TheVariants as kind
use Rattle.semver_base.specs.declared.range.VersionRange.{VersionRange}

-- ---- bounds

-- whether a version that compares so to a start is above it, or at it if the start is inclusive
abbrev pub is_above : VersionBoundKind → Ordering → Bool
is_above kind.Inclusive order = is_ge order
is_above kind.Exclusive order = is_gt order

-- what is above a start isn't below its version
pub above_ge : (k : VersionBoundKind) (r : Ordering) → is_above k r ≡ true → is_ge r ≡ true
above_ge kind.Inclusive r h = h
above_ge kind.Exclusive Less h = h
above_ge kind.Exclusive Equal h = refl
above_ge kind.Exclusive Greater h = refl

-- whether a version that compares so to an end is below it, or at it if the end is inclusive
abbrev pub is_below : VersionBoundKind → Ordering → Bool
is_below kind.Inclusive order = is_le order
is_below kind.Exclusive order = is_lt order

abbrev pub start_holds : RangeBound → Version → Bool
start_holds (bound.Version b) v = is_above b.kind (precedence_cmp v b.version)
start_holds bound.Unbounded v = true

abbrev pub end_holds : RangeBound → Version → Bool
end_holds (bound.Version b) v = is_below b.kind (precedence_cmp v b.version)
end_holds bound.Unbounded v = true

-- whether the bound is a pre-release of the version's three numbers
abbrev pub has_pre_of : RangeBound → Version → Bool
has_pre_of (bound.Version b) v = not (length b.version.pre == 0)
    && ((b.version.major == v.major) && ((b.version.minor == v.minor) && (b.version.patch == v.patch)))
has_pre_of bound.Unbounded v = false

-- ---- comparators: each is a pair of bounds

abbrev pub bounds_hold : VersionRange → Version → Bool
bounds_hold range v = start_holds range.start v && end_holds range.end v

abbrev pub admits_pre : VersionRange → Version → Bool
admits_pre range v = has_pre_of range.start v || has_pre_of range.end v

abbrev pub is_release : Version → Bool
is_release v = length v.pre == 0

-- whether the version needs no bound to admit it: a release, or any version if pre-releases are admitted throughout
abbrev pub is_unrestricted : PreRelease → Version → Bool
is_unrestricted Restricted v = is_release v
is_unrestricted Admitted v = true

-- an alternative matches the versions that the bounds of every comparator include; a restricted one only if some bound of
-- some comparator is a pre-release of its three numbers
abbrev pub alternative_means_with : PreRelease → List VersionRange → Version → Bool
alternative_means_with flag comparators v = list_all (λ range. bounds_hold range v) comparators
    && (is_unrestricted flag v || list_any (λ range. admits_pre range v) comparators)

-- a tree matches what some alternative matches
abbrev pub tree_means_with : PreRelease → List (List VersionRange) → Version → Bool
tree_means_with flag tree v = list_any (λ comparators. alternative_means_with flag comparators v) tree

-- the same two by npm's rule, which restricts every pre-release
abbrev pub alternative_means : List VersionRange → Version → Bool
alternative_means comparators v = alternative_means_with Restricted comparators v

abbrev pub tree_means : List (List VersionRange) → Version → Bool
tree_means tree v = tree_means_with Restricted tree v

-- turns each range into an alternative with it as the only comparator
abbrev pub alternatives : List VersionRange → List (List VersionRange)
alternatives ranges = map (λ range. range ∷ []) ranges

-- a range matches what it does alone, and a set what some range of it matches
abbrev pub range_means_with : PreRelease → VersionRange → Version → Bool
range_means_with flag range v = alternative_means_with flag (range ∷ []) v

abbrev pub set_means_with : PreRelease → List VersionRange → Version → Bool
set_means_with flag ranges v = tree_means_with flag (alternatives ranges) v

-- some range alone matches the version exactly if the set does
pub any_alternatives : (flag : PreRelease) (ranges : List VersionRange) (v : Version)
    → list_any (λ range. range_means_with flag range v) ranges ≡ set_means_with flag ranges v
any_alternatives flag [] v = refl
any_alternatives flag (range ∷ ranges) v =
    ap (λ (b : Bool). range_means_with flag range v || b) (any_alternatives flag ranges v)

-- the same two by npm's rule
abbrev pub range_means : VersionRange → Version → Bool
range_means range v = alternative_means (range ∷ []) v

abbrev pub set_means : List VersionRange → Version → Bool
set_means ranges v = tree_means (alternatives ranges) v

-- whether the bound is a pre-release, and the version one of its three numbers that the range matches by npm's rule
abbrev pub is_pre_match : VersionRange → RangeBound → Version → Bool
is_pre_match range b v = (not (is_release v) && has_pre_of b v) && range_means range v

-- ---- two named ranges

-- the range without bounds
abbrev pub everything : VersionRange
everything = record { start = bound.Unbounded; end = bound.Unbounded }

-- the release of these three numbers
abbrev pub release : ℕ → ℕ → ℕ → Version
release major minor patch = record { major = major; minor = minor; patch = patch; pre = []; build = [] }

abbrev pub bound_at : VersionBoundKind → Version → RangeBound
bound_at k v = bound.Version (record { kind = k; version = v })

-- the bound from a version on
abbrev pub from : Version → RangeBound
from = bound_at kind.Inclusive

abbrev pub to_below : Version → RangeBound
to_below = bound_at kind.Exclusive

-- from 0.0.0 to below 0.0.0
abbrev pub nothing : VersionRange
nothing = record { start = from (release 0 0 0); end = to_below (release 0 0 0) }
