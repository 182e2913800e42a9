-- The canonical forms, row by row.
use Rattle.std.proofs.Common.{◌≡◌, ◌<◌, ◌+◌, ℕ, Bool, true, false, List, [], ◌∷◌, ◌++◌, refl, ap, ◌∙◌, arith, inl, inr, append-nil, ◌==◌, codes, if◌then◌else◌, nat_lt}
use Rattle.std.proofs.lemmas.Bool.{and_from, and_left, and_parts, and_right, cases_lt, eq-eqb, eqb-true, lt-ltb, ltb-true}
use Rattle.std.proofs.lemmas.Bool.Decides.{nat_tests}
use Rattle.semver_base.specs.Comparators.{Comparator, Tilde, Caret, Bare}
use Rattle.semver_base.specs.Meaning.{release}
use Rattle.semver_base.specs.NormalTable.{IsNormalTable, zero_version}
use Rattle.semver_base.specs.NormalText.{comparator_text, comparators_text}
use Rattle.semver_base.specs.PrecedenceLaws.{version_eq, version_reported}
use Rattle.semver_base.specs.Shortest.{ending, is_release_of, numbered, shortest_between, starting, whole}
use Rattle.semver_base.specs.declared.partial.XRange.TheVariants.{Wildcard, Val}
use Rattle.semver_base.specs.declared.range.VersionBoundKind.TheVariants as kind
use Rattle.semver_base.specs.declared.version.Version.{Version}
use Rattle.semver_base.specs.ShortLaws.{short_is}

-- ---- which versions are the same

fails : (b : Bool) → ¬ (b ≡ true) → b ≡ false
fails true never = absurd (never refl)
fails false never = refl

differs : (v w : Version) → ¬ (v ≡ w) → version_eq v w ≡ false
differs v w other = fails (version_eq v w) (λ e. other ((version_reported v w).0 e))

bare_release : (major minor patch : ℕ) → is_release_of (release major minor patch) major minor patch ≡ true
bare_release major minor patch = and_from (major == major) _ (eq-eqb major major refl) (and_from (minor == minor) _ (eq-eqb minor minor refl) (and_from (patch == patch) _ (eq-eqb patch patch refl) refl))

bare_of : (v : Version) (major minor patch : ℕ) → v ≡ release major minor patch → is_release_of v major minor patch ≡ true
bare_of v major minor patch e = ap (λ (w : Version). is_release_of w major minor patch) e ∙ bare_release major minor patch

not_bare : (v : Version) (major minor patch : ℕ) → ¬ (v ≡ release major minor patch) → is_release_of v major minor patch ≡ false
not_bare v major minor patch other = fails (is_release_of v major minor patch) (λ e. other (short_is v major minor patch e))

-- ---- steps down the table

taken : (b : Bool) (x y : List Comparator) → b ≡ true → Path (List Comparator) (if b then x else y) x
taken b x y e = rw e refl

passed : (b : Bool) (x y : List Comparator) → b ≡ false → Path (List Comparator) (if b then x else y) y
passed b x y e = rw e refl

one_text : (cs : List Comparator) (c : Comparator) → cs ≡ c ∷ [] → comparators_text cs ≡ comparator_text c
one_text cs c e = rw e (append-nil (comparator_text c))

two_texts : (cs : List Comparator) (c d : Comparator) → cs ≡ c ∷ d ∷ [] → comparators_text cs ≡ comparator_text c ++ (codes " " ++ comparator_text d)
two_texts cs c d e = rw e (ap (λ t. comparator_text c ++ (codes " " ++ t)) (append-nil (comparator_text d)))

-- ---- two inclusive ends

one_version : (s : Version) → Path (List Comparator) (shortest_between kind.Inclusive kind.Inclusive s s) (Bare (whole s) ∷ [])
one_version s = taken (version_eq s s) _ _ ((version_reported s s).1 refl)

from_zero_up_to : (s e : Version) → s ≡ zero_version → ¬ (s ≡ e) → Path (List Comparator) (shortest_between kind.Inclusive kind.Inclusive s e) (ending kind.Inclusive e ∷ [])
from_zero_up_to s e zero some = passed (version_eq s e) _ _ (differs s e some) ∙ taken (is_release_of s 0 0 0) _ _ (bare_of s 0 0 0 zero)

closed : (s e : Version) → ¬ (s ≡ e) → ¬ (s ≡ zero_version) → Path (List Comparator) (shortest_between kind.Inclusive kind.Inclusive s e) (starting kind.Inclusive s ∷ ending kind.Inclusive e ∷ [])
closed s e differ some = passed (version_eq s e) _ _ (differs s e differ) ∙ passed (is_release_of s 0 0 0) _ _ (not_bare s 0 0 0 some)

-- ---- an inclusive and an exclusive end

other_major : (v : Version) (major minor patch : ℕ) → ¬ (v.major ≡ major) → is_release_of v major minor patch ≡ false
other_major v major minor patch differ = not_bare v major minor patch (λ e. differ (ap (λ (w : Version). w.major) e))

other_minor : (v : Version) (major minor patch : ℕ) → ¬ (v.minor ≡ minor) → is_release_of v major minor patch ≡ false
other_minor v major minor patch differ = not_bare v major minor patch (λ e. differ (ap (λ (w : Version). w.minor) e))

not_next : (n : ℕ) → ¬ (n ≡ n + 1)
not_next n e = omega (arith, e)

not_zero : (n : ℕ) → ¬ (0 ≡ n + 1)
not_zero n e = omega (arith, e)

one_major : (major : ℕ) → Path (List Comparator) (shortest_between kind.Inclusive kind.Exclusive (release major 0 0) (release (major + 1) 0 0)) (Bare (numbered (Val major) Wildcard) ∷ [])
one_major major = taken _ _ _ (and_from _ _ (bare_release major 0 0) (bare_release (major + 1) 0 0))

one_minor : (major minor : ℕ) → Path (List Comparator) (shortest_between kind.Inclusive kind.Exclusive (release major minor 0) (release major (minor + 1) 0)) (Bare (numbered (Val major) (Val minor)) ∷ [])
one_minor major minor =
    passed _ _ _ (and_right _ _ (other_major (release major (minor + 1) 0) (major + 1) 0 0 (not_next major)))
    ∙ taken _ _ _ (and_from _ _ (bare_release major minor 0) (bare_release major (minor + 1) 0))

tilde : (s : Version) → ¬ (s ≡ release s.major s.minor 0) → Path (List Comparator) (shortest_between kind.Inclusive kind.Exclusive s (release s.major (s.minor + 1) 0)) (Tilde (whole s) ∷ [])
tilde s more =
    passed _ _ _ (and_right _ _ (other_major (release s.major (s.minor + 1) 0) (s.major + 1) 0 0 (not_next s.major)))
    ∙ (passed _ _ _ (and_left _ _ (not_bare s s.major s.minor 0 more))
    ∙ taken _ _ _ (bare_release s.major (s.minor + 1) 0))

caret_patch : (s : Version) → s.major ≡ 0 → s.minor ≡ 0 → Path (List Comparator) (shortest_between kind.Inclusive kind.Exclusive s (release 0 0 (s.patch + 1))) (Caret (whole s) ∷ [])
caret_patch s a b =
    passed _ _ _ (and_right _ _ (other_major (release 0 0 (s.patch + 1)) (s.major + 1) 0 0 (not_zero s.major)))
    ∙ (passed _ _ _ (and_right _ _ (other_minor (release 0 0 (s.patch + 1)) s.major (s.minor + 1) 0 (not_zero s.minor)))
    ∙ (passed _ _ _ (other_minor (release 0 0 (s.patch + 1)) s.major (s.minor + 1) 0 (not_zero s.minor))
    ∙ taken _ _ _ (and_from _ _ (eq-eqb s.major 0 a) (and_from _ _ (eq-eqb s.minor 0 b) (bare_release 0 0 (s.patch + 1))))))

caret_major : (s : Version) → 0 < s.major → ¬ (s ≡ release s.major 0 0) → Path (List Comparator) (shortest_between kind.Inclusive kind.Exclusive s (release (s.major + 1) 0 0)) (Caret (whole s) ∷ [])
caret_major s some more =
    passed _ _ _ (and_left _ _ (not_bare s s.major 0 0 more))
    ∙ (passed _ _ _ (and_right _ _ (other_minor (release (s.major + 1) 0 0) s.major (s.minor + 1) 0 (not_zero s.minor)))
    ∙ (passed _ _ _ (other_minor (release (s.major + 1) 0 0) s.major (s.minor + 1) 0 (not_zero s.minor))
    ∙ (passed _ _ _ (and_left _ _ (positive s.major some))
    ∙ taken _ _ _ (and_from _ _ (lt-ltb 0 s.major some) (bare_release (s.major + 1) 0 0)))))
  where
    positive : (n : ℕ) → 0 < n → (n == 0) ≡ false
    positive n h = grind (arith, nat_tests)

below : (s e : Version) → s ≡ zero_version → ¬ (e ≡ release (s.major + 1) 0 0) → ¬ (e ≡ release s.major (s.minor + 1) 0) → ¬ (e ≡ release 0 0 (s.patch + 1))
    → Path (List Comparator) (shortest_between kind.Inclusive kind.Exclusive s e) (ending kind.Exclusive e ∷ [])
below s e zero major minor patch =
    passed _ _ _ (and_right _ _ (not_bare e (s.major + 1) 0 0 major))
    ∙ (passed _ _ _ (and_right _ _ (not_bare e s.major (s.minor + 1) 0 minor))
    ∙ (passed _ _ _ (not_bare e s.major (s.minor + 1) 0 minor)
    ∙ (passed _ _ _ (and_right _ _ (and_right _ _ (not_bare e 0 0 (s.patch + 1) patch)))
    ∙ (passed _ _ _ (and_left _ _ (ap (λ (v : Version). nat_lt 0 v.major) zero))
    ∙ taken _ _ _ (bare_of s 0 0 0 zero)))))

half_open : (s e : Version) → ¬ (s ≡ zero_version) → ¬ (e ≡ release s.major (s.minor + 1) 0)
    → (s.major ≡ 0 → s.minor ≡ 0 → ¬ (e ≡ release 0 0 (s.patch + 1))) → (0 < s.major → ¬ (e ≡ release (s.major + 1) 0 0))
    → Path (List Comparator) (shortest_between kind.Inclusive kind.Exclusive s e) (starting kind.Inclusive s ∷ ending kind.Exclusive e ∷ [])
half_open s e some minor patch major =
    passed _ _ _ (fails _ (λ t. let both = and_parts _ _ t in no_major (short_is s s.major 0 0 both.0) (short_is e (s.major + 1) 0 0 both.1)))
    ∙ (passed _ _ _ (and_right _ _ (not_bare e s.major (s.minor + 1) 0 minor))
    ∙ (passed _ _ _ (not_bare e s.major (s.minor + 1) 0 minor)
    ∙ (passed _ _ _ (fails _ (λ t. let both = and_parts _ _ t in let more = and_parts _ _ both.1 in patch (eqb-true s.major 0 both.0) (eqb-true s.minor 0 more.0) (short_is e 0 0 (s.patch + 1) more.1)))
    ∙ (passed _ _ _ (fails _ (λ t. let both = and_parts _ _ t in major (ltb-true 0 s.major both.0) (short_is e (s.major + 1) 0 0 both.1)))
    ∙ passed _ _ _ (not_bare s 0 0 0 some)))))
  where
    no_major : s ≡ release s.major 0 0 → ¬ (e ≡ release (s.major + 1) 0 0)
    no_major p q = elim (cases_lt 0 s.major) [
      | inl above ↦ major above q
      | inr none ↦ some (p ∙ ap (λ n. release n 0 0) (omega (arith, none)))
    ]

-- ---- the table

pub normal_table : IsNormalTable
normal_table = record {
  no_bounds = refl;
  end_alone = λ e. append-nil _;
  below_alone = λ e. append-nil _;
  start_alone = λ s. append-nil _;
  above_alone = λ s. append-nil _;
  one_version = λ s. one_text _ _ (one_version s);
  from_zero_up_to = λ e some. one_text _ _ (from_zero_up_to zero_version e refl some);
  closed = λ s e differ some. two_texts _ _ _ (closed s e differ some);
  one_major = λ major. one_text _ _ (one_major major);
  one_minor = λ major minor. one_text _ _ (one_minor major minor);
  tilde = λ s more. one_text _ _ (tilde s more);
  caret_patch = λ s a b. one_text _ _ (caret_patch s a b);
  caret_major = λ s some more. one_text _ _ (caret_major s some more);
  below = λ e a b c. one_text _ _ (below zero_version e refl a b c);
  half_open = λ s e some minor patch major. two_texts _ _ _ (half_open s e some minor patch major);
  above_at_most = λ s e. two_texts _ (starting kind.Exclusive s) (ending kind.Inclusive e) refl;
  above_below = λ s e. two_texts _ (starting kind.Exclusive s) (ending kind.Exclusive e) refl;
}
