-- The shortest form of a range matches what the range matches.
use Rattle.std.proofs.Common.{◌≡◌, ◌&&◌, ◌||◌, ◌==◌, ◌+◌, ℕ, List, [], ◌∷◌, length, Bool, true, false, map, not, refl, sym, ap, ap₂, ◌∙◌, inl, inr, arith, if◌then◌else◌, nat_lt, Ordering, Less, Equal, Greater}
use Rattle.std.proofs.lemmas.Bool.Decides.{nat_tests}
use Rattle.std.specs.FinMap.{nat_cmp-IsAntisymmetric}
use Rattle.std.specs.Ordering.{is_ge, is_le, nat_cmp}
use Rattle.std.proofs.lemmas.Bool.{and_from, and_parts, eq-eqb, eqb-true, or_cases, or_left, or_right}
use Rattle.semver_base.specs.Comparators.{Caret, Comparator, Bare, Tilde, comparator_range}
use Rattle.semver_base.specs.Meaning.{alternative_means_with, bound_at, from, is_above, release, to_below, above_ge}
use Rattle.semver_base.specs.PartialTable.{up_to, between, caret}
use Rattle.semver_base.specs.Precedence.{precedence_cmp, pre_cmp}
use Rattle.semver_base.specs.PrecedenceLaws.{precedence_total, version_eq, version_reported, turned, le_le, le_turned}
use Rattle.semver_base.specs.Shortest.{ending, has_short_form, is_caret_major, is_caret_patch, is_major, is_minor, is_release_of, is_tilde, numbered, shortest, shortest_between, shortest_of, starting, whole}
use Rattle.semver_base.specs.declared.partial.XRange.TheVariants.{Wildcard, Val}
use Rattle.semver_base.specs.declared.range.PreRelease.{PreRelease}
use Rattle.semver_base.specs.declared.range.RangeBound.{RangeBound}
use Rattle.semver_base.specs.declared.range.RangeBound.TheVariants as bound
use Rattle.semver_base.specs.declared.range.VersionBoundKind.{VersionBoundKind}
use Rattle.semver_base.specs.declared.range.VersionBoundKind.TheVariants as kind
use Rattle.semver_base.specs.declared.range.VersionRange.{VersionRange}
use Rattle.semver_base.specs.declared.version.Version.{Version}
use Rattle.semver_base.specs.ShortLaws.{short_is}
use Rattle.semver_base.specs.OverlapLaws.{not_none}
use Rattle.semver_base.specs.OrderLaws.{le_then, nat_le_cmp}
use Rattle.semver_req.specs.Rereading.{has_own_form, is_pre_of_zero, keeps_meaning, keeps_start}
use Rattle.semver_req.proofs.Starts.{has_start, starts_or_is_open}

-- the comparators match what the range matches
abbrev Means : List Comparator → VersionRange → Type 0
Means comparators range = (flag : PreRelease) (v : Version) → alternative_means_with flag (map comparator_range comparators) v ≡ alternative_means_with flag (range ∷ []) v

-- the comparators of one line or another, by its test
pub by_test : (P : List Comparator → Type 0) (test : Bool) {xs ys : List Comparator} → (test ≡ true → P xs) → (test ≡ false → P ys) → P (if test then xs else ys)
by_test P true fits other = fits refl
by_test P false fits other = other refl

-- ---- plain versions

-- ---- 0.0.0

zero_tied : (n : ℕ) → nat_cmp 0 n ≡ Equal → (n == 0) ≡ true
zero_tied n e = eq-eqb n 0 (sym (nat_cmp-IsAntisymmetric 0 n e))

release_le : (pre : List (List ℕ)) (zeros : Bool) → (not (length pre == 0) && zeros) ≡ false → zeros ≡ true → is_le (pre_cmp [] pre) ≡ true
release_le [] zeros h k = refl
release_le (x ∷ xs) zeros h k = let none : true ≡ false = rw (not_none x xs, k) at h in cc none

-- a version that isn't a pre-release of 0.0.0 isn't below it
pub zero_le : (s : Version) → is_pre_of_zero s ≡ false → is_le (precedence_cmp (release 0 0 0) s) ≡ true
zero_le s h =
    le_then _ _ (nat_le_cmp 0 s.major (omega arith)) (λ major.
    le_then _ _ (nat_le_cmp 0 s.minor (omega arith)) (λ minor.
    le_then _ _ (nat_le_cmp 0 s.patch (omega arith)) (λ patch.
    release_le s.pre _ h (and_from _ _ (zero_tied s.major major) (and_from _ _ (zero_tied s.minor minor) (zero_tied s.patch patch))))))

pub ge_turned : (r : Ordering) (x y : Version) → precedence_cmp x y ≡ r → is_le r ≡ true → is_ge (precedence_cmp y x) ≡ true
ge_turned Less x y e h = rw (turned precedence_total x y Less e) refl
ge_turned Equal x y e h = rw (turned precedence_total x y Equal e) refl
ge_turned Greater x y e h = cc h

-- what a start that isn't below 0.0.0 includes, 0.0.0 as a start includes
held_from_zero : (k : VersionBoundKind) (s v : Version) → is_pre_of_zero s ≡ false → is_above k (precedence_cmp v s) ≡ true → is_ge (precedence_cmp v (release 0 0 0)) ≡ true
held_from_zero k s v low h = ge_turned _ (release 0 0 0) v refl
    (le_le precedence_total (release 0 0 0) s v (zero_le s low) (le_turned precedence_total v s (above_ge k (precedence_cmp v s) h)))

-- ---- lines with two comparators

-- tests of a comparator from s and one from 0.0.0, and of the range of both
both_tests : (above zero below r first second : Bool) → (above ≡ true → zero ≡ true)
    → (((above && true) && ((zero && below) && true)) && (r || ((first || false) || (second || false)))) ≡ (((above && below) && true) && (r || ((first || second) || false)))
both_tests true zero below r true second h = rw (h refl) refl
both_tests true zero below r false second h = rw (h refl) refl
both_tests false zero below r first second h = refl

both_mean : (k l : VersionBoundKind) (s e : Version) → is_pre_of_zero s ≡ false → Means (starting k s ∷ ending l e ∷ []) (between (bound_at k s) (bound_at l e))
both_mean kind.Inclusive kind.Inclusive s e low flag v = both_tests _ _ _ _ _ _ (held_from_zero kind.Inclusive s v low)
both_mean kind.Inclusive kind.Exclusive s e low flag v = both_tests _ _ _ _ _ _ (held_from_zero kind.Inclusive s v low)
both_mean kind.Exclusive kind.Inclusive s e low flag v = both_tests _ _ _ _ _ _ (held_from_zero kind.Exclusive s v low)
both_mean kind.Exclusive kind.Exclusive s e low flag v = both_tests _ _ _ _ _ _ (held_from_zero kind.Exclusive s v low)

-- ---- lines with one comparator

start_means : (k : VersionBoundKind) (s : Version) → Means (starting k s ∷ []) (between (bound_at k s) bound.Unbounded)
start_means kind.Inclusive s flag v = refl
start_means kind.Exclusive s flag v = refl

end_means : (k : VersionBoundKind) (s e : Version) → is_release_of s 0 0 0 ≡ true → Means (ending k e ∷ []) (between (from s) (bound_at k e))
end_means kind.Inclusive s e h flag v = ap (λ (start : Version). alternative_means_with flag (between (from start) (up_to e) ∷ []) v) (sym (short_is s 0 0 0 h))
end_means kind.Exclusive s e h flag v = ap (λ (start : Version). alternative_means_with flag (between (from start) (to_below e) ∷ []) v) (sym (short_is s 0 0 0 h))

-- a comparator with the range itself
alone_means : (c : Comparator) (range : VersionRange) → comparator_range c ≡ range → Means (c ∷ []) range
alone_means c range same flag v = ap (λ (r : VersionRange). alternative_means_with flag (r ∷ []) v) same

pub version_range : (s e : Version) → version_eq s e ≡ true → comparator_range (Bare (whole s)) ≡ between (from s) (up_to e)
version_range s e h = ap (λ (end : Version). between (from s) (up_to end)) ((version_reported s e).0 h)

-- two plain versions by their numbers
short_range : {start end : Version} (s e : Version) → s ≡ start → e ≡ end → between (from start) (to_below end) ≡ between (from s) (to_below e)
short_range s e p q = ap₂ (λ (start end : Version). between (from start) (to_below end)) (sym p) (sym q)

major_range : (s e : Version) → is_major s e ≡ true → comparator_range (Bare (numbered (Val s.major) Wildcard)) ≡ between (from s) (to_below e)
major_range s e h = short_range s e (short_is s s.major 0 0 (and_parts _ _ h).0) (short_is e (s.major + 1) 0 0 (and_parts (is_release_of s s.major 0 0) _ h).1)

minor_range : (s e : Version) → is_minor s e ≡ true → comparator_range (Bare (numbered (Val s.major) (Val s.minor))) ≡ between (from s) (to_below e)
minor_range s e h = short_range s e (short_is s s.major s.minor 0 (and_parts _ _ h).0) (short_is e s.major (s.minor + 1) 0 (and_parts (is_release_of s s.major s.minor 0) _ h).1)

tilde_range : (s e : Version) → is_tilde s e ≡ true → comparator_range (Tilde (whole s)) ≡ between (from s) (to_below e)
tilde_range s e h = short_range s e refl (short_is e s.major (s.minor + 1) 0 h)

pub none_below : (n : ℕ) → (n == 0) ≡ true → nat_lt 0 n ≡ false
none_below n e = grind (arith, nat_tests)

caret_major : (s : Version) → nat_lt 0 s.major ≡ true → (caret (whole s)).range ≡ between (from s) (to_below (release (s.major + 1) 0 0))
caret_major s h = rw h refl

caret_patch : (s : Version) → nat_lt 0 s.major ≡ false → nat_lt 0 s.minor ≡ false → (caret (whole s)).range ≡ between (from s) (to_below (release 0 0 (s.patch + 1)))
caret_patch s h k = rw (h, k) refl

caret_major_range : (s e : Version) → is_caret_major s e ≡ true → comparator_range (Caret (whole s)) ≡ between (from s) (to_below e)
caret_major_range s e h =
    caret_major s (and_parts (nat_lt 0 s.major) _ h).0
    ∙ short_range s e refl (short_is e (s.major + 1) 0 0 (and_parts (nat_lt 0 s.major) _ h).1)

caret_patch_range : (s e : Version) → is_caret_patch s e ≡ true → comparator_range (Caret (whole s)) ≡ between (from s) (to_below e)
caret_patch_range s e h =
    let h1 = (and_parts (s.major == 0) _ h).1 in
    caret_patch s (none_below s.major (and_parts (s.major == 0) _ h).0) (none_below s.minor (and_parts (s.minor == 0) _ h1).0)
    ∙ short_range s e refl (short_is e 0 0 (s.patch + 1) (and_parts (s.minor == 0) _ h1).1)

-- ---- ranges with a short form

short_by_major : (s e : Version) → is_major s e ≡ true → has_short_form s e ≡ true
short_by_major s e h = or_left (is_major s e) _ h

short_by_tilde : (s e : Version) → is_tilde s e ≡ true → has_short_form s e ≡ true
short_by_tilde s e h = or_right (is_major s e) _ (or_left (is_tilde s e) _ h)

short_by_caret_patch : (s e : Version) → is_caret_patch s e ≡ true → has_short_form s e ≡ true
short_by_caret_patch s e h = or_right (is_major s e) _ (or_right (is_tilde s e) _ (or_left (is_caret_patch s e) _ h))

short_by_caret_major : (s e : Version) → is_caret_major s e ≡ true → has_short_form s e ≡ true
short_by_caret_major s e h = or_right (is_major s e) _ (or_right (is_tilde s e) _ (or_right (is_caret_patch s e) _ h))

-- the comparators from s to below e: one with the range itself, or those of the last two lines
pub by_form : (P : List Comparator → Type 0) (s e : Version)
    → (has_short_form s e ≡ true → (c : Comparator) → comparator_range c ≡ between (from s) (to_below e) → P (c ∷ []))
    → (has_short_form s e ≡ false → P (if is_release_of s 0 0 0 then ending kind.Exclusive e ∷ [] else starting kind.Inclusive s ∷ ending kind.Exclusive e ∷ []))
    → P (shortest_between kind.Inclusive kind.Exclusive s e)
by_form P s e own rest =
    by_test P (is_major s e) (λ fits. own (short_by_major s e fits) _ (major_range s e fits)) (λ no_major.
    by_test P (is_minor s e) (λ fits. own (short_by_tilde s e (and_parts (is_release_of s s.major s.minor 0) _ fits).1) _ (minor_range s e fits)) (λ _.
    by_test P (is_tilde s e) (λ fits. own (short_by_tilde s e fits) _ (tilde_range s e fits)) (λ no_tilde.
    by_test P (is_caret_patch s e) (λ fits. own (short_by_caret_patch s e fits) _ (caret_patch_range s e fits)) (λ no_patch.
    by_test P (is_caret_major s e) (λ fits. own (short_by_caret_major s e fits) _ (caret_major_range s e fits)) (λ no_caret.
    rest (rw (no_major, no_tilde, no_patch, no_caret) refl))))))

-- ---- the premise

not_below : (a b : Bool) → (not a || b) ≡ true → b ≡ false → a ≡ false
not_below true b h k = cc (h, k)
not_below false b h k = refl

-- a range from a pre-release of 0.0.0 to below 0.0.1 or 0.1.0 has a short form
pub short_end : (s e : Version) → is_pre_of_zero s ≡ true → (is_release_of e 0 0 1 || is_release_of e 0 1 0) ≡ true → has_short_form s e ≡ true
short_end s e low h =
    let numbers = (and_parts (not (length s.pre == 0)) _ low).1 in
    let numbers1 = (and_parts (s.major == 0) _ numbers).1 in
    let major : s.major ≡ 0 = eqb-true _ _ (and_parts (s.major == 0) _ numbers).0 in
    let minor : s.minor ≡ 0 = eqb-true _ _ (and_parts (s.minor == 0) _ numbers1).0 in
    let patch : s.patch ≡ 0 = eqb-true _ _ (and_parts (s.minor == 0) _ numbers1).1 in
    elim (or_cases _ _ h) [
      | inl patches ↦ short_by_caret_patch s e (rw (major, minor, patch) patches)
      | inr minors ↦ short_by_tilde s e (rw (major, minor) minors)
    ]

not_short : (s e : Version) → (not (is_pre_of_zero s) || (is_release_of e 0 0 1 || is_release_of e 0 1 0)) ≡ true → has_short_form s e ≡ false → is_pre_of_zero s ≡ false
not_short s e h long = go (is_pre_of_zero s) refl h
  where
    go : (b : Bool) → is_pre_of_zero s ≡ b → (not b || (is_release_of e 0 0 1 || is_release_of e 0 1 0)) ≡ true → b ≡ false
    go false low h = refl
    go true low h = cc (short_end s e low h, long)

-- ---- every line

between_means : (k l : VersionBoundKind) (s e : Version) → (not (is_pre_of_zero s) || has_own_form k l s e) ≡ true → Means (shortest_between k l s e) (between (bound_at k s) (bound_at l e))
between_means kind.Inclusive kind.Inclusive s e h =
    let P : List Comparator → Type 0 = λ cs. Means cs (between (from s) (up_to e)) in
    by_test P (version_eq s e) (λ same. alone_means (Bare (whole s)) _ (version_range s e same)) (λ other.
    by_test P (is_release_of s 0 0 0) (end_means kind.Inclusive s e) (λ _.
    both_mean kind.Inclusive kind.Inclusive s e (not_below _ _ h other)))
between_means kind.Inclusive kind.Exclusive s e h =
    let P : List Comparator → Type 0 = λ cs. Means cs (between (from s) (to_below e)) in
    by_form P s e (λ _ c own. alone_means c _ own) (λ long.
    by_test P (is_release_of s 0 0 0) (end_means kind.Exclusive s e) (λ _.
    both_mean kind.Inclusive kind.Exclusive s e (not_short s e h long)))
between_means kind.Exclusive l s e h = both_mean kind.Exclusive l s e (not_below _ false h refl)

bounds_mean : (start end : RangeBound) → starts_or_is_open start end ≡ true → keeps_start start end ≡ true → Means (shortest_of start end) (between start end)
bounds_mean bound.Unbounded bound.Unbounded h k flag v = refl
bounds_mean bound.Unbounded (bound.Version e) h k flag v = cc h
bounds_mean (bound.Version s) bound.Unbounded h k flag v = start_means s.kind s.version flag v
bounds_mean (bound.Version s) (bound.Version e) h k flag v = between_means s.kind e.kind s.version e.version k flag v

-- the shortest form of a range matches what the range matches
pub shortest_means : (range : VersionRange) → has_start range ≡ true → keeps_meaning range ≡ true
    → (flag : PreRelease) (v : Version) → alternative_means_with flag (map comparator_range (shortest range)) v ≡ alternative_means_with flag (range ∷ []) v
shortest_means range h k flag v = bounds_mean range.start range.end h k flag v
