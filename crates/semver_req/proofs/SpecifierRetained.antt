-- The strict parser keeps of one comparator the comparator's own range, which isn't an empty one at 0.0.0.
use Rattle.std.proofs.Common.{◌≡◌, ◌+◌, ℕ, List, [], ◌∷◌, Bool, true, false, refl, ap, ◌∙◌, arith, if◌then◌else◌, nat_lt, Less}
use Rattle.std.proofs.lemmas.Bool.Decides.{nat_tests}
use Rattle.semver_base.specs.Clamp.{clamped}
use Rattle.semver_base.specs.Comparators.{Caret, Comparator, Hyphen, OfPrimitive, Bare, Tilde, comparator_range}
use Rattle.semver_base.specs.Grammar.{that, this}
use Rattle.semver_base.specs.Meaning.{everything, from, release, to_below}
use Rattle.semver_base.specs.Overlap.{ends_at_zero}
use Rattle.semver_base.specs.PartialTable.{between, caret, caret_patch, equal, lower_to_below, lowest, or_zero, tilde}
use Rattle.semver_base.specs.Precedence.{precedence_cmp}
use Rattle.semver_base.specs.declared.partial.Partial.{Partial}
use Rattle.semver_base.specs.declared.partial.XRange.{XRange}
use Rattle.semver_base.specs.declared.partial.XRange.TheVariants.{Val, Wildcard}
use Rattle.semver_base.specs.declared.range.VersionBoundKind.TheVariants as kind
use Rattle.semver_base.specs.declared.range.VersionRange.{VersionRange}
use Rattle.semver_base.specs.declared.version.Version.{Version}
use Rattle.semver_req.specs.RetainedSet.{retained_range}
use Rattle.semver_req.specs.Outcome.{IsSpecifierRange}
use Rattle.semver_req.specs.Written.{IsNonPrimitive}
use Rattle.semver_req.specs.declared.common.values.Flavour.{Flavour}
use Rattle.semver_req.specs.declared.common.values.Flavour.TheVariants.{Specifier}
use Rattle.semver_req.proofs.GrammarParts.{at_caret, at_operator, at_tilde}
use Rattle.semver_req.proofs.Folding.{caret_ends, equal_ends, tilde_ends, upper_ends}
use Rattle.semver_req.proofs.Stabilizing.{below_major, below_minor, below_patch, less_stays, number_below, version_stays}

-- stopping leaves the range unchanged
abbrev Stays : VersionRange → Type 0
Stays range = clamped everything range ≡ range

abbrev partial : XRange → XRange → XRange → List (List ℕ) → List (List ℕ) → Partial
partial major minor patch pre build = record { major = major; minor = minor; patch = patch; pre = pre; build = build }

below_stays : (s e : Version) → precedence_cmp s e ≡ Less → Stays (between (from s) (to_below e))
below_stays s e less = less_stays kind.Inclusive kind.Exclusive s e less

tilde_stays : (major minor patch : XRange) (pre build : List (List ℕ)) → Stays (tilde (partial major minor patch pre build)).range
tilde_stays Wildcard minor patch pre build = refl
tilde_stays (Val major) Wildcard patch pre build = below_stays _ _ (below_major (lowest (partial (Val major) Wildcard patch pre build)))
tilde_stays (Val major) (Val minor) patch pre build = below_stays _ _ (below_minor (lowest (partial (Val major) (Val minor) patch pre build)))

zero_from : (n : ℕ) → nat_lt 0 n ≡ false → n ≡ 0
zero_from n e = grind (arith, nat_tests)

caret_patch_stays : (major minor : ℕ) (patch : XRange) (pre build : List (List ℕ)) → major ≡ 0 → minor ≡ 0 → Stays (caret_patch (partial (Val major) (Val minor) patch pre build) patch).range
caret_patch_stays major minor Wildcard pre build h k = below_stays _ _ (rw (h, k) (below_minor (lowest (partial (Val 0) (Val 0) Wildcard pre build))))
caret_patch_stays major minor (Val patch) pre build h k = below_stays _ _ (rw (h, k) (below_patch (lowest (partial (Val 0) (Val 0) (Val patch) pre build)) refl refl))

caret_stays : (major minor patch : XRange) (pre build : List (List ℕ)) → Stays (caret (partial major minor patch pre build)).range
caret_stays Wildcard minor patch pre build = refl
caret_stays (Val major) Wildcard patch pre build = below_stays _ _ (below_major (lowest (partial (Val major) Wildcard patch pre build)))
caret_stays (Val major) (Val minor) patch pre build = go (nat_lt 0 major) (nat_lt 0 minor) refl refl
  where
    p : Partial
    p = partial (Val major) (Val minor) patch pre build

    go : (a b : Bool) → nat_lt 0 major ≡ a → nat_lt 0 minor ≡ b → Stays (
        if a then lower_to_below p (release (major + 1) 0 0) ((major + 1) ∷ [])
        else if b then lower_to_below p (release 0 (minor + 1) 0) ((minor + 1) ∷ [])
        else caret_patch p patch
        ).range
    go true b h k = below_stays _ _ (below_major (lowest p))
    go false true h k = below_stays _ _ (rw (zero_from major h) (below_minor (lowest (partial (Val 0) (Val minor) patch pre build))))
    go false false h k = caret_patch_stays major minor patch pre build (zero_from major h) (zero_from minor k)

next_major : (major patch : ℕ) → precedence_cmp (release major 0 patch) (release (major + 1) 0 patch) ≡ Less
next_major major patch = rw (number_below major (major + 1) (omega arith)) refl

equal_stays : (major minor patch : XRange) (pre build : List (List ℕ)) → Stays (equal (partial major minor patch pre build)).range
equal_stays Wildcard minor patch pre build = refl
equal_stays (Val major) Wildcard patch pre build = below_stays _ _ (next_major major (or_zero patch))
equal_stays (Val major) (Val minor) Wildcard pre build = below_stays _ _ (below_minor (release major minor 0))
equal_stays (Val major) (Val minor) (Val patch) pre build = version_stays (lowest (partial (Val major) (Val minor) (Val patch) pre build))

-- ---- comparators of the strict parser

-- without a leading comparison operator
abbrev pub is_non_primitive : Comparator → Bool
is_non_primitive (OfPrimitive primitive_kind p) = false
is_non_primitive c = true

pub kind_non_primitive : (f : Flavour) (text : List ℕ) (c : Comparator) → IsNonPrimitive f text c → is_non_primitive c ≡ true
kind_non_primitive f text c (this h) = elim (at_operator f text c h) [ at_tilde b e s k is ↦ ap is_non_primitive is | at_caret b e s k is ↦ ap is_non_primitive is ]
kind_non_primitive f text c (that m) = ap is_non_primitive m.is

pub non_primitive_retained : (c : Comparator) → is_non_primitive c ≡ true → retained_range (c ∷ []) ≡ comparator_range c
non_primitive_retained (Tilde p) h = tilde_stays p.major p.minor p.patch p.pre p.build
non_primitive_retained (Caret p) h = caret_stays p.major p.minor p.patch p.pre p.build
non_primitive_retained (OfPrimitive primitive_kind p) h = cc h
non_primitive_retained (Bare p) h = equal_stays p.major p.minor p.patch p.pre p.build
non_primitive_retained (Hyphen p q) h = refl

pub non_primitive_ends : (c : Comparator) → is_non_primitive c ≡ true → ends_at_zero (comparator_range c).end ≡ false
non_primitive_ends (Tilde p) h = tilde_ends p p.major p.minor
non_primitive_ends (Caret p) h = caret_ends p p.major p.minor p.patch
non_primitive_ends (OfPrimitive primitive_kind p) h = cc h
non_primitive_ends (Bare p) h = equal_ends p p.major p.minor p.patch
non_primitive_ends (Hyphen p q) h = upper_ends q q.major q.minor q.patch

-- what is kept of it is its own range
pub specifier_retained : {text : List ℕ} {c : Comparator} → IsSpecifierRange text c → retained_range (c ∷ []) ≡ comparator_range c
specifier_retained {c = c} s = non_primitive_retained c (kind_non_primitive Specifier _ c s)

-- which doesn't end below 0.0.0
pub specifier_ends : {text : List ℕ} {c : Comparator} → IsSpecifierRange text c → ends_at_zero (retained_range (c ∷ [])).end ≡ false
specifier_ends {c = c} s = ap (λ (range : VersionRange). ends_at_zero range.end) (specifier_retained s) ∙ non_primitive_ends c (kind_non_primitive Specifier _ c s)
