-- What the shortest form of a set matches, and what it parses back to.
use Rattle.std.proofs.Common.{◌≡◌, ◌&&◌, ◌||◌, ◌==◌, List, [], ◌∷◌, length, Bool, true, false, map, not, refl, sym, ap, ap₂, subst, ◌∙◌, if◌then◌else◌, Ordering, Less, Equal, Greater}
use Rattle.std.proofs.lemmas.List.{nil_from_length}
use Rattle.std.specs.List.{list_all}
use Rattle.std.proofs.lemmas.Bool.{and_from, and_parts, eqb-true}
use Rattle.semver_base.specs.Comparators.{Comparator, comparator_range}
use Rattle.semver_base.specs.Meaning.{alternatives, bound_at, from, release, to_below, tree_means_with}
use Rattle.semver_base.specs.Overlap.{ends_at_zero, lies_within, starts_before}
use Rattle.semver_base.specs.PartialTable.{up_to, between}
use Rattle.semver_base.specs.Precedence.{precedence_cmp}
use Rattle.semver_base.specs.PrecedenceLaws.{version_eq, version_reported}
use Rattle.semver_base.specs.Shortest.{ending, is_release_of, shortest, shortest_between, shortest_of, shortest_tree, starting}
use Rattle.semver_base.specs.declared.range.PreRelease.{PreRelease}
use Rattle.semver_base.specs.declared.range.RangeBound.{RangeBound}
use Rattle.semver_base.specs.declared.range.RangeBound.TheVariants as bound
use Rattle.semver_base.specs.declared.range.VersionBoundKind.{VersionBoundKind}
use Rattle.semver_base.specs.declared.range.VersionBoundKind.TheVariants as kind
use Rattle.semver_base.specs.declared.range.VersionRange.{VersionRange}
use Rattle.semver_base.specs.declared.version.Version.{Version}
use Rattle.semver_req.specs.RetainedSet.{retained, retained_range}
use Rattle.semver_req.specs.Outcome.{tree_ranges}
use Rattle.semver_req.specs.Rereading.{has_no_build, has_own_form, is_orderly, is_pre_of_zero, keeps_meaning, keeps_start}
use Rattle.semver_req.specs.Stable.{IsStable, all, no_end, one_version, short, ordered, reread, reread_set}
use Rattle.semver_req.specs.declared.common.values.Flavour.TheVariants.{Normal}
use Rattle.semver_req.proofs.Folding.{comparator_empty, retained_means, nothing_means}
use Rattle.semver_req.proofs.RetainedRanges.{is_retained}
use Rattle.semver_req.proofs.Stabilizing.{both_retained, end_retained, form_read, reread_stable, same_version, stable_reread, version_read}
use Rattle.semver_req.proofs.ShortestMeaning.{by_form, by_test, ge_turned, short_end, shortest_means, zero_le}
use Rattle.semver_req.proofs.Starts.{has_start, retained_range_starts, starts_or_is_open}

-- ---- what the form of a set matches

forms_mean : (ranges : List VersionRange) → list_all has_start ranges ≡ true → list_all keeps_meaning ranges ≡ true
    → (flag : PreRelease) (v : Version) → tree_means_with flag (tree_ranges (map shortest ranges)) v ≡ tree_means_with flag (alternatives ranges) v
forms_mean [] h k flag v = refl
forms_mean (range ∷ ranges) h k flag v = ap₂ (λ (a b : Bool). a || b)
    (shortest_means range (and_parts _ _ h).0 (and_parts _ _ k).0 flag v)
    (forms_mean ranges (and_parts (has_start range) _ h).1 (and_parts (keeps_meaning range) _ k).1 flag v)

-- the shortest form of a set matches what the set matches
pub tree_form_means : (ranges : List VersionRange) → list_all has_start ranges ≡ true → list_all keeps_meaning ranges ≡ true
    → (flag : PreRelease) (v : Version) → tree_means_with flag (tree_ranges (shortest_tree ranges)) v ≡ tree_means_with flag (alternatives ranges) v
tree_form_means [] h k flag v =
    let none = nothing_means flag (comparator_range (ending kind.Exclusive (release 0 0 0))) v (comparator_empty (ending kind.Exclusive (release 0 0 0)) refl) in
    ap (λ (b : Bool). b || false) none
tree_form_means (range ∷ ranges) h k flag v = forms_mean (range ∷ ranges) h k flag v

-- what is kept of it matches what the set matches
pub reread_set_means : (ranges : List VersionRange) → list_all has_start ranges ≡ true → list_all keeps_meaning ranges ≡ true
    → (flag : PreRelease) (v : Version) → tree_means_with flag (alternatives (reread_set ranges)) v ≡ tree_means_with flag (alternatives ranges) v
reread_set_means ranges h k flag v = retained_means Normal (shortest_tree ranges) flag v ∙ tree_form_means ranges h k flag v

-- ---- no range is dropped

-- the comparators parse back with an end at 0.0.0 exactly if the given one is
abbrev EndsAs : RangeBound → List Comparator → Type 0
EndsAs end cs = ends_at_zero (retained_range cs).end ≡ ends_at_zero end

ends_by : (cs : List Comparator) {range : VersionRange} → retained_range cs ≡ range → ends_at_zero (retained_range cs).end ≡ ends_at_zero range.end
ends_by cs same = ap (λ (range : VersionRange). ends_at_zero range.end) same

between_ends : (k l : VersionBoundKind) (s e : Version) → EndsAs (bound_at l e) (shortest_between k l s e)
between_ends kind.Inclusive kind.Inclusive s e =
    let P : List Comparator → Type 0 = EndsAs (up_to e) in
    by_test P (version_eq s e) (λ same. ap (λ (range : VersionRange). ends_at_zero range.end) (version_read s e same)) (λ _.
    by_test P (is_release_of s 0 0 0) (λ _. ends_by (ending kind.Inclusive e ∷ []) (end_retained kind.Inclusive e)) (λ _.
    ends_by (starting kind.Inclusive s ∷ ending kind.Inclusive e ∷ []) (both_retained kind.Inclusive kind.Inclusive s e)))
between_ends kind.Inclusive kind.Exclusive s e =
    let P : List Comparator → Type 0 = EndsAs (to_below e) in
    by_form P s e (λ form c own. ends_by (c ∷ []) (form_read s e form c own)) (λ _.
    by_test P (is_release_of s 0 0 0) (λ _. ends_by (ending kind.Exclusive e ∷ []) (end_retained kind.Exclusive e)) (λ _.
    ends_by (starting kind.Inclusive s ∷ ending kind.Exclusive e ∷ []) (both_retained kind.Inclusive kind.Exclusive s e)))
between_ends kind.Exclusive l s e = ends_by (starting kind.Exclusive s ∷ ending l e ∷ []) (both_retained kind.Exclusive l s e)

start_ends : (k : VersionBoundKind) (s : Version) → EndsAs bound.Unbounded (starting k s ∷ [])
start_ends kind.Inclusive s = refl
start_ends kind.Exclusive s = refl

bounds_end : (start end : RangeBound) → starts_or_is_open start end ≡ true → EndsAs end (shortest_of start end)
bounds_end bound.Unbounded bound.Unbounded h = refl
bounds_end bound.Unbounded (bound.Version e) h = cc h
bounds_end (bound.Version s) bound.Unbounded h = start_ends s.kind s.version
bounds_end (bound.Version s) (bound.Version e) h = between_ends s.kind e.kind s.version e.version

reread_retained : (range : VersionRange) → is_retained range ≡ true → not (ends_at_zero (reread range).end) ≡ true
reread_retained range h = ap not (bounds_end range.start range.end (and_parts (has_start range) _ h).0) ∙ (and_parts (has_start range) _ h).1

forms_retained : (ranges : List VersionRange) → list_all is_retained ranges ≡ true → retained Normal (map shortest ranges) ≡ map reread ranges
forms_retained [] h = refl
forms_retained (range ∷ ranges) h = go (not (ends_at_zero (reread range).end)) (reread_retained range (and_parts _ _ h).0) (forms_retained ranges (and_parts (is_retained range) _ h).1)
  where
    go : (b : Bool) → b ≡ true → retained Normal (map shortest ranges) ≡ map reread ranges
        → (if b then reread range ∷ retained Normal (map shortest ranges) else retained Normal (map shortest ranges)) ≡ map reread (range ∷ ranges)
    go true e later = ap (λ (rest : List VersionRange). reread range ∷ rest) later
    go false e later = cc e

-- each of the kept ranges parses back, in order
pub set_reread : (ranges : List VersionRange) → list_all is_retained ranges ≡ true → reread_set ranges ≡ map reread ranges
set_reread [] h = refl
set_reread (range ∷ ranges) h = forms_retained (range ∷ ranges) h

-- ---- reaching a fixed point

rereads_retained : (ranges : List VersionRange) → list_all is_retained ranges ≡ true → list_all is_retained (map reread ranges) ≡ true
rereads_retained [] h = refl
rereads_retained (range ∷ ranges) h = and_from _ _
    (and_from _ _ (retained_range_starts (shortest range)) (reread_retained range (and_parts _ _ h).0))
    (rereads_retained ranges (and_parts (is_retained range) _ h).1)

twice : (ranges : List VersionRange) → list_all is_retained ranges ≡ true → map reread (map reread ranges) ≡ map reread ranges
twice [] h = refl
twice (range ∷ ranges) h = ap₂ (λ (r : VersionRange) (rest : List VersionRange). r ∷ rest)
    (stable_reread (reread range) (reread_stable range (and_parts (has_start range) _ (and_parts _ _ h).0).0))
    (twice ranges (and_parts (is_retained range) _ h).1)

-- what a kept set parses back to parses back to itself
pub set_stabilizes : (ranges : List VersionRange) → list_all is_retained ranges ≡ true → reread_set (reread_set ranges) ≡ reread_set ranges
set_stabilizes ranges h =
    let once = set_reread ranges h in
    ap reread_set once ∙ set_reread (map reread ranges) (rereads_retained ranges h) ∙ twice ranges h ∙ sym once

-- ---- ranges that are stable as parsed

no_build : (v : Version) → (length v.build == 0) ≡ true → v.build ≡ []
no_build v h = nil_from_length v.build (eqb-true _ _ h)

-- a start below its end
less_stable : (k l : VersionBoundKind) (s e : Version) → s.build ≡ [] → e.build ≡ [] → precedence_cmp s e ≡ Less → keeps_start (bound_at k s) (bound_at l e) ≡ true
    → IsStable (between (bound_at k s) (bound_at l e))
less_stable k l s e first second less h = go (is_pre_of_zero s) refl k l h
  where
    go : (b : Bool) → is_pre_of_zero s ≡ b → (k l : VersionBoundKind) → (not b || has_own_form k l s e) ≡ true → IsStable (between (bound_at k s) (bound_at l e))
    go false above k l h = ordered first second (ge_turned _ (release 0 0 0) s refl (zero_le s above)) less
    go true low kind.Inclusive kind.Inclusive h = subst (λ (end : Version). IsStable (between (from s) (up_to end))) ((version_reported s e).0 h) one_version
    go true low kind.Inclusive kind.Exclusive h = short (short_end s e low h)
    go true low kind.Exclusive l h = cc h

-- a start at its end, both inclusive
tied_stable : (k l : VersionBoundKind) (s e : Version) → s ≡ e → lies_within k l Equal ≡ true → IsStable (between (bound_at k s) (bound_at l e))
tied_stable kind.Inclusive kind.Inclusive s e same h = subst (λ (end : Version). IsStable (between (from s) (up_to end))) same one_version
tied_stable kind.Inclusive kind.Exclusive s e same h = cc h
tied_stable kind.Exclusive l s e same h = cc h

never_passed : (k l : VersionBoundKind) → lies_within k l Greater ≡ true → ⊥
never_passed kind.Inclusive kind.Inclusive h = cc h
never_passed kind.Inclusive kind.Exclusive h = cc h
never_passed kind.Exclusive l h = cc h

orderly_between : (k l : VersionBoundKind) (s e : Version) → s.build ≡ [] → e.build ≡ [] → lies_within k l (precedence_cmp s e) ≡ true → keeps_start (bound_at k s) (bound_at l e) ≡ true
    → IsStable (between (bound_at k s) (bound_at l e))
orderly_between k l s e first second below h = go (precedence_cmp s e) refl below
  where
    go : (r : Ordering) → precedence_cmp s e ≡ r → lies_within k l r ≡ true → IsStable (between (bound_at k s) (bound_at l e))
    go Less less below = less_stable k l s e first second less h
    go Equal tie below = tied_stable k l s e (same_version s e first second tie) below
    go Greater passed below = absurd (never_passed k l below)

orderly_bounds : (start end : RangeBound) → starts_or_is_open start end ≡ true → (has_no_build start && has_no_build end) ≡ true → starts_before start end ≡ true → keeps_start start end ≡ true
    → IsStable (between start end)
orderly_bounds bound.Unbounded bound.Unbounded h built below k = all
orderly_bounds bound.Unbounded (bound.Version e) h built below k = cc h
orderly_bounds (bound.Version s) bound.Unbounded h built below k = no_end (no_build s.version (and_parts _ _ built).0)
orderly_bounds (bound.Version s) (bound.Version e) h built below k =
    orderly_between s.kind e.kind s.version e.version (no_build s.version (and_parts _ _ built).0) (no_build e.version (and_parts (has_no_build (bound.Version s)) _ built).1) below k

-- a range without builds that starts below its end is stable, under the premise
pub orderly_stable : (range : VersionRange) → has_start range ≡ true → is_orderly range ≡ true → keeps_meaning range ≡ true → IsStable range
orderly_stable range h orderly k = orderly_bounds range.start range.end h (and_parts _ _ orderly).0 (and_parts (has_no_build range.start && has_no_build range.end) _ orderly).1 k

orderly_twice : (ranges : List VersionRange) → list_all is_retained ranges ≡ true → list_all is_orderly ranges ≡ true → list_all keeps_meaning ranges ≡ true → map reread ranges ≡ ranges
orderly_twice [] h orderly k = refl
orderly_twice (range ∷ ranges) h orderly k = ap₂ (λ (r : VersionRange) (rest : List VersionRange). r ∷ rest)
    (stable_reread range (orderly_stable range (and_parts (has_start range) _ (and_parts _ _ h).0).0 (and_parts _ _ orderly).0 (and_parts _ _ k).0))
    (orderly_twice ranges (and_parts (is_retained range) _ h).1 (and_parts (is_orderly range) _ orderly).1 (and_parts (keeps_meaning range) _ k).1)

-- a kept set of such ranges parses back to itself
pub orderly_reread : (ranges : List VersionRange) → list_all is_retained ranges ≡ true → list_all is_orderly ranges ≡ true → list_all keeps_meaning ranges ≡ true → reread_set ranges ≡ ranges
orderly_reread ranges h orderly k = set_reread ranges h ∙ orderly_twice ranges h orderly k
