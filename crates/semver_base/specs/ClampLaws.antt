-- What the bounds of a clamped range include, and which versions it matches.
use Rattle.std.proofs.Common.{◌≡◌, ◌&&◌, Bool, true, false, refl, sym, ◌∙◌, inl, inr, is_le, ◌⊎◌, Ordering, Less, Equal, Greater, ◌||◌, [], ◌∷◌, ap}
use Rattle.std.proofs.lemmas.Cmp.{alike_right}
use Rattle.semver_base.specs.Clamp.{clamped, clamped_end, clamped_start, greater_of, lesser_of, of_tied, stopped_at, stopped_by, HasPassed, HaveCrossed, HoldsBoth, HoldsNothing, AdmitsBoth, MatchesBoth, MeansBoth}
use Rattle.semver_base.specs.Meaning.{above_ge, bound_at, bounds_hold, end_holds, is_above, is_below, start_holds, admits_pre, alternative_means, alternative_means_with, has_pre_of, is_release, is_unrestricted}
use Rattle.semver_base.specs.Precedence.{precedence_cmp}
use Rattle.semver_base.specs.PrecedenceLaws.{precedence_total, turned, le_less, less_le, le_turned}
use Rattle.semver_base.specs.declared.version.Version.{Version}
use Rattle.semver_base.specs.declared.range.RangeBound.{RangeBound}
use Rattle.semver_base.specs.declared.range.RangeBound.TheVariants as bound
use Rattle.semver_base.specs.declared.range.VersionBoundKind.{VersionBoundKind}
use Rattle.semver_base.specs.declared.range.VersionBoundKind.TheVariants as kind
use Rattle.semver_base.specs.declared.range.VersionRange.{VersionRange}
use Rattle.std.proofs.Math.Bool.{and-true, and-false, or-false}
use Rattle.semver_base.specs.OrderLaws.{implied_first, implied_second, never_both, same_where, end_between, start_between}
use Rattle.std.proofs.lemmas.Bool.{and_from, and_parts, cases_Bool, or_cases, or_left, or_right}
use Rattle.std.specs.Cmp.{both_ways}
use Rattle.semver_base.specs.declared.range.PreRelease.{PreRelease}
use Rattle.semver_base.specs.declared.range.PreRelease.TheVariants.{Restricted, Admitted}
use Rattle.semver_base.specs.declared.range.VersionBound.{VersionBound}

-- ---- bounds and comparisons

-- what is above a start's version is included, and what an end includes isn't above it
pub above_from : (k : VersionBoundKind) (r : Ordering) → r ≡ Greater → is_above k r ≡ true
above_from kind.Inclusive r e = rw e refl
above_from kind.Exclusive r e = rw e refl

pub below_le : (k : VersionBoundKind) (r : Ordering) → is_below k r ≡ true → is_le r ≡ true
below_le kind.Inclusive r h = h
below_le kind.Exclusive Less h = refl
below_le kind.Exclusive Equal h = refl
below_le kind.Exclusive Greater h = h

below_from : (k : VersionBoundKind) (r : Ordering) → r ≡ Less → is_below k r ≡ true
below_from kind.Inclusive r e = rw e refl
below_from kind.Exclusive r e = rw e refl

not_below : (k : VersionBoundKind) (r : Ordering) → r ≡ Greater → is_below k r ≡ false
not_below kind.Inclusive r e = rw e refl
not_below kind.Exclusive r e = rw e refl

-- what a start above y includes is above y
over : (k : VersionBoundKind) (x y v : Version) → precedence_cmp x y ≡ Greater → is_above k (precedence_cmp v x) ≡ true → precedence_cmp v y ≡ Greater
over k x y v e h =
    let below : precedence_cmp y x ≡ Less = turned precedence_total x y Greater e in
    let held : is_le (precedence_cmp x v) ≡ true = le_turned precedence_total v x (above_ge k (precedence_cmp v x) h) in
    turned precedence_total y v Less (less_le precedence_total y x v below held)

-- what an end below y includes is below y
under : (k : VersionBoundKind) (x y v : Version) → precedence_cmp x y ≡ Less → is_below k (precedence_cmp v x) ≡ true → precedence_cmp v y ≡ Less
under k x y v e h = le_less precedence_total v x y (below_le k (precedence_cmp v x) h) e

-- ---- the higher start and the lower end

exclusive_above : (k : VersionBoundKind) (r : Ordering) → is_above kind.Exclusive r ≡ (is_above kind.Exclusive r && is_above k r)
exclusive_above k Less = refl
exclusive_above k Equal = refl
exclusive_above kind.Inclusive Greater = refl
exclusive_above kind.Exclusive Greater = refl

inclusive_above : (k : VersionBoundKind) (r : Ordering) → is_above k r ≡ (is_above kind.Inclusive r && is_above k r)
inclusive_above kind.Inclusive Less = refl
inclusive_above kind.Exclusive Less = refl
inclusive_above k Equal = refl
inclusive_above k Greater = refl

exclusive_below : (k : VersionBoundKind) (r : Ordering) → is_below kind.Exclusive r ≡ (is_below kind.Exclusive r && is_below k r)
exclusive_below kind.Inclusive Less = refl
exclusive_below kind.Exclusive Less = refl
exclusive_below k Equal = refl
exclusive_below k Greater = refl

inclusive_below : (k : VersionBoundKind) (r : Ordering) → is_below k r ≡ (is_below kind.Inclusive r && is_below k r)
inclusive_below k Less = refl
inclusive_below k Equal = refl
inclusive_below kind.Inclusive Greater = refl
inclusive_below kind.Exclusive Greater = refl

tied_starts : (k l : VersionBoundKind) (x y v : Version) → precedence_cmp v x ≡ precedence_cmp v y
    → start_holds (of_tied k (bound_at k x) (bound_at l y)) v ≡ (is_above k (precedence_cmp v x) && is_above l (precedence_cmp v y))
tied_starts kind.Exclusive l x y v e = rw (← e) (exclusive_above l (precedence_cmp v x))
tied_starts kind.Inclusive l x y v e = rw e (inclusive_above l (precedence_cmp v y))

tied_ends : (k l : VersionBoundKind) (x y v : Version) → precedence_cmp v x ≡ precedence_cmp v y
    → end_holds (of_tied k (bound_at k x) (bound_at l y)) v ≡ (is_below k (precedence_cmp v x) && is_below l (precedence_cmp v y))
tied_ends kind.Exclusive l x y v e = rw (← e) (exclusive_below l (precedence_cmp v x))
tied_ends kind.Inclusive l x y v e = rw e (inclusive_below l (precedence_cmp v y))

-- a clamped start includes what both starts include
pub start_both : (s t : RangeBound) (v : Version) → start_holds (clamped_start s t) v ≡ (start_holds s v && start_holds t v)
start_both bound.Unbounded t v = refl
start_both (bound.Version x) bound.Unbounded v = sym (and-true (start_holds (bound.Version x) v))
start_both (bound.Version x) (bound.Version y) v = go (precedence_cmp x.version y.version) refl
  where
    go : (r : Ordering) → precedence_cmp x.version y.version ≡ r
        → start_holds (greater_of r x.kind (bound.Version x) (bound.Version y)) v ≡ (start_holds (bound.Version x) v && start_holds (bound.Version y) v)
    go Less e = implied_first _ _ (λ h. above_from x.kind (precedence_cmp v x.version) (over y.kind y.version x.version v (turned precedence_total x.version y.version Less e) h))
    go Equal e = tied_starts x.kind y.kind x.version y.version v (alike_right precedence_total x.version y.version v e)
    go Greater e = implied_second _ _ (λ h. above_from y.kind (precedence_cmp v y.version) (over x.kind x.version y.version v e h))

-- a clamped end includes what both ends include
pub end_both : (s t : RangeBound) (v : Version) → end_holds (clamped_end s t) v ≡ (end_holds s v && end_holds t v)
end_both bound.Unbounded t v = refl
end_both (bound.Version x) bound.Unbounded v = sym (and-true (end_holds (bound.Version x) v))
end_both (bound.Version x) (bound.Version y) v = go (precedence_cmp x.version y.version) refl
  where
    go : (r : Ordering) → precedence_cmp x.version y.version ≡ r
        → end_holds (lesser_of r x.kind (bound.Version x) (bound.Version y)) v ≡ (end_holds (bound.Version x) v && end_holds (bound.Version y) v)
    go Less e = implied_second _ _ (λ h. below_from y.kind (precedence_cmp v y.version) (under x.kind x.version y.version v e h))
    go Equal e = tied_ends x.kind y.kind x.version y.version v (alike_right precedence_total x.version y.version v e)
    go Greater e = implied_first _ _ (λ h. below_from x.kind (precedence_cmp v x.version) (under y.kind y.version x.version v (turned precedence_total x.version y.version Greater e) h))

-- ---- a start that stops at the end

beyond : (k : VersionBoundKind) (r : Ordering) → (is_above kind.Exclusive r && is_below k r) ≡ false
beyond k Less = refl
beyond k Equal = refl
beyond kind.Inclusive Greater = refl
beyond kind.Exclusive Greater = refl

at_end : (k : VersionBoundKind) (r : Ordering) → (is_above k r && is_below k r) ≡ (is_above kind.Inclusive r && is_below k r)
at_end kind.Inclusive r = refl
at_end kind.Exclusive Less = refl
at_end kind.Exclusive Equal = refl
at_end kind.Exclusive Greater = refl

-- a start past the end includes nothing with it
pub passed_holds : (k l : VersionBoundKind) (x y v : Version) → precedence_cmp x y ≡ Greater → (is_above k (precedence_cmp v x) && is_below l (precedence_cmp v y)) ≡ false
passed_holds k l x y v e = never_both _ _ (λ h. not_below l (precedence_cmp v y) (over k x y v e h))

stopped_tied : (k l : VersionBoundKind) (x y v : Version) → precedence_cmp v x ≡ precedence_cmp v y
    → (start_holds (of_tied k (bound_at k x) (bound_at l y)) v && is_below l (precedence_cmp v y)) ≡ (is_above k (precedence_cmp v x) && is_below l (precedence_cmp v y))
stopped_tied kind.Exclusive l x y v e = refl
stopped_tied kind.Inclusive l x y v e = rw e (at_end l (precedence_cmp v y))

-- stopping the start doesn't change what the two include together
stopped_holds : (s e : RangeBound) (v : Version) → (start_holds (stopped_at s e) v && end_holds e v) ≡ (start_holds s v && end_holds e v)
stopped_holds bound.Unbounded e v = refl
stopped_holds (bound.Version x) bound.Unbounded v = refl
stopped_holds (bound.Version x) (bound.Version y) v = go (precedence_cmp x.version y.version) refl
  where
    go : (r : Ordering) → precedence_cmp x.version y.version ≡ r
        → (start_holds (stopped_by r x y) v && end_holds (bound.Version y) v) ≡ (start_holds (bound.Version x) v && end_holds (bound.Version y) v)
    go Less e = refl
    go Equal e = stopped_tied x.kind y.kind x.version y.version v (alike_right precedence_total x.version y.version v e)
    go Greater e = beyond y.kind (precedence_cmp v y.version) ∙ sym (passed_holds x.kind y.kind x.version y.version v e)

grouped : (a b c d : Bool) → ((a && b) && (c && d)) ≡ ((a && c) && (b && d))
grouped true b true d = refl
grouped true true false d = refl
grouped true false false d = refl
grouped false b c d = refl

-- the bounds of a clamped range include what the bounds of both include
pub clamped_bounds : (a b : VersionRange) → HoldsBoth a b (clamped a b)
clamped_bounds a b v =
    stopped_holds (clamped_start a.start b.start) (clamped_end a.end b.end) v
    ∙ rw (start_both a.start b.start v, end_both a.end b.end v) (grouped (start_holds a.start v) (start_holds b.start v) (end_holds a.end v) (end_holds b.end v))

-- a clamped range whose start is past its end includes nothing
pub clamped_crossed : (a b : VersionRange) → HaveCrossed a b → HoldsNothing (clamped a b)
clamped_crossed a b crossed v = stopped_holds (clamped_start a.start b.start) (clamped_end a.end b.end) v ∙ go (clamped_start a.start b.start) (clamped_end a.end b.end) crossed
  where
    go : (s e : RangeBound) → HasPassed s e → (start_holds s v && end_holds e v) ≡ false
    go bound.Unbounded e h = absurd h
    go (bound.Version x) bound.Unbounded h = absurd h
    go (bound.Version x) (bound.Version y) h = passed_holds x.kind y.kind x.version y.version v h

-- a range clamped to one that includes nothing includes nothing
pub clamped_empty : (a b : VersionRange) → HoldsNothing a ⊎ HoldsNothing b → HoldsNothing (clamped a b)
clamped_empty a b (inl none) v = clamped_bounds a b v ∙ rw (none v) refl
clamped_empty a b (inr none) v = clamped_bounds a b v ∙ rw (none v) (and-false (bounds_hold a v))

-- ---- which versions a clamped range matches

-- ---- a bound that admits a version, once dropped

start_le : (x : VersionBound) (v : Version) → start_holds (bound.Version x) v ≡ true → is_le (precedence_cmp x.version v) ≡ true
start_le x v h = le_turned precedence_total v x.version (above_ge x.kind (precedence_cmp v x.version) h)

end_le : (x : VersionBound) (v : Version) → end_holds (bound.Version x) v ≡ true → is_le (precedence_cmp v x.version) ≡ true
end_le x v h = below_le x.kind (precedence_cmp v x.version) h

le_by : (r : Ordering) → r ≡ Less → is_le r ≡ true
le_by r e = rw e refl

le_tied : (r : Ordering) → r ≡ Equal → is_le r ≡ true
le_tied r e = rw e refl

tied_admits : (k : VersionBoundKind) (first second : RangeBound) (v : Version) → has_pre_of first v ≡ true → has_pre_of second v ≡ true → has_pre_of (of_tied k first second) v ≡ true
tied_admits kind.Exclusive first second v h k = h
tied_admits kind.Inclusive first second v h k = k

tied_from : (k : VersionBoundKind) (first second : RangeBound) (v : Version) → has_pre_of (of_tied k first second) v ≡ true → (has_pre_of first v || has_pre_of second v) ≡ true
tied_from kind.Exclusive first second v h = or_left _ _ h
tied_from kind.Inclusive first second v h = or_right _ _ h

-- if the first of two starts that include the pre-release v admits it, so does the higher
start_retained_first : (s t : RangeBound) (v : Version) → is_release v ≡ false → start_holds t v ≡ true → has_pre_of s v ≡ true → has_pre_of (clamped_start s t) v ≡ true
start_retained_first bound.Unbounded t v pre held h = cc h
start_retained_first (bound.Version x) bound.Unbounded v pre held h = h
start_retained_first (bound.Version x) (bound.Version y) v pre held h = go (precedence_cmp x.version y.version) refl
  where
    go : (r : Ordering) → precedence_cmp x.version y.version ≡ r → has_pre_of (greater_of r x.kind (bound.Version x) (bound.Version y)) v ≡ true
    go Less e = start_between x.version y.version v pre h (le_by _ e) (start_le y v held)
    go Equal e = tied_admits x.kind (bound.Version x) (bound.Version y) v h (start_between x.version y.version v pre h (le_tied _ e) (start_le y v held))
    go Greater e = h

start_retained_second : (s t : RangeBound) (v : Version) → is_release v ≡ false → start_holds s v ≡ true → has_pre_of t v ≡ true → has_pre_of (clamped_start s t) v ≡ true
start_retained_second bound.Unbounded t v pre held h = h
start_retained_second (bound.Version x) bound.Unbounded v pre held h = cc h
start_retained_second (bound.Version x) (bound.Version y) v pre held h = go (precedence_cmp x.version y.version) refl
  where
    go : (r : Ordering) → precedence_cmp x.version y.version ≡ r → has_pre_of (greater_of r x.kind (bound.Version x) (bound.Version y)) v ≡ true
    go Less e = h
    go Equal e = tied_admits x.kind (bound.Version x) (bound.Version y) v (start_between y.version x.version v pre h (le_tied _ (turned precedence_total x.version y.version Equal e)) (start_le x v held)) h
    go Greater e = start_between y.version x.version v pre h (le_by _ (turned precedence_total x.version y.version Greater e)) (start_le x v held)

-- if the first of two ends that include v admits it, so does the lower
end_retained_first : (s t : RangeBound) (v : Version) → end_holds t v ≡ true → has_pre_of s v ≡ true → has_pre_of (clamped_end s t) v ≡ true
end_retained_first bound.Unbounded t v held h = cc h
end_retained_first (bound.Version x) bound.Unbounded v held h = h
end_retained_first (bound.Version x) (bound.Version y) v held h = go (precedence_cmp x.version y.version) refl
  where
    go : (r : Ordering) → precedence_cmp x.version y.version ≡ r → has_pre_of (lesser_of r x.kind (bound.Version x) (bound.Version y)) v ≡ true
    go Less e = h
    go Equal e = tied_admits x.kind (bound.Version x) (bound.Version y) v h (end_between x.version y.version v h (end_le y v held) (le_tied _ (turned precedence_total x.version y.version Equal e)))
    go Greater e = end_between x.version y.version v h (end_le y v held) (le_by _ (turned precedence_total x.version y.version Greater e))

end_retained_second : (s t : RangeBound) (v : Version) → end_holds s v ≡ true → has_pre_of t v ≡ true → has_pre_of (clamped_end s t) v ≡ true
end_retained_second bound.Unbounded t v held h = h
end_retained_second (bound.Version x) bound.Unbounded v held h = cc h
end_retained_second (bound.Version x) (bound.Version y) v held h = go (precedence_cmp x.version y.version) refl
  where
    go : (r : Ordering) → precedence_cmp x.version y.version ≡ r → has_pre_of (lesser_of r x.kind (bound.Version x) (bound.Version y)) v ≡ true
    go Less e = end_between y.version x.version v h (end_le x v held) (le_by _ e)
    go Equal e = tied_admits x.kind (bound.Version x) (bound.Version y) v (end_between y.version x.version v h (end_le x v held) (le_tied _ e)) h
    go Greater e = h

-- a stopped start admits what it did, of what both bounds include
stop_retained : (s e : RangeBound) (v : Version) → is_release v ≡ false → start_holds s v ≡ true → end_holds e v ≡ true → has_pre_of s v ≡ true → has_pre_of (stopped_at s e) v ≡ true
stop_retained bound.Unbounded e v pre above below h = cc h
stop_retained (bound.Version x) bound.Unbounded v pre above below h = h
stop_retained (bound.Version x) (bound.Version y) v pre above below h = go (precedence_cmp x.version y.version) refl
  where
    go : (r : Ordering) → precedence_cmp x.version y.version ≡ r → has_pre_of (stopped_by r x y) v ≡ true
    go Less e = h
    go Equal e =
        let reached : is_le (precedence_cmp y.version v) ≡ true = sym (ap is_le (precedence_total.congr x.version y.version v e)) ∙ start_le x v above in
        tied_admits x.kind (bound.Version x) (bound.Version y) v h (start_between x.version y.version v pre h (le_tied _ e) reached)
    go Greater e =
        let none = rw (above, below) at (passed_holds x.kind y.kind x.version y.version v e) in
        cc none

-- ---- what the chosen bound admits, one of the two admits

start_from : (s t : RangeBound) (v : Version) → has_pre_of (clamped_start s t) v ≡ true → (has_pre_of s v || has_pre_of t v) ≡ true
start_from bound.Unbounded t v h = h
start_from (bound.Version x) bound.Unbounded v h = or_left _ _ h
start_from (bound.Version x) (bound.Version y) v h = go (precedence_cmp x.version y.version) h
  where
    go : (r : Ordering) → has_pre_of (greater_of r x.kind (bound.Version x) (bound.Version y)) v ≡ true → (has_pre_of (bound.Version x) v || has_pre_of (bound.Version y) v) ≡ true
    go Less h = or_right _ _ h
    go Equal h = tied_from x.kind (bound.Version x) (bound.Version y) v h
    go Greater h = or_left _ _ h

end_from : (s t : RangeBound) (v : Version) → has_pre_of (clamped_end s t) v ≡ true → (has_pre_of s v || has_pre_of t v) ≡ true
end_from bound.Unbounded t v h = h
end_from (bound.Version x) bound.Unbounded v h = or_left _ _ h
end_from (bound.Version x) (bound.Version y) v h = go (precedence_cmp x.version y.version) h
  where
    go : (r : Ordering) → has_pre_of (lesser_of r x.kind (bound.Version x) (bound.Version y)) v ≡ true → (has_pre_of (bound.Version x) v || has_pre_of (bound.Version y) v) ≡ true
    go Less h = or_left _ _ h
    go Equal h = tied_from x.kind (bound.Version x) (bound.Version y) v h
    go Greater h = or_right _ _ h

stop_from : (s e : RangeBound) (v : Version) → has_pre_of (stopped_at s e) v ≡ true → (has_pre_of s v || has_pre_of e v) ≡ true
stop_from bound.Unbounded e v h = cc h
stop_from (bound.Version x) bound.Unbounded v h = or_left _ _ h
stop_from (bound.Version x) (bound.Version y) v h = go (precedence_cmp x.version y.version) h
  where
    go : (r : Ordering) → has_pre_of (stopped_by r x y) v ≡ true → (has_pre_of (bound.Version x) v || has_pre_of (bound.Version y) v) ≡ true
    go Less h = or_left _ _ h
    go Equal h = tied_from x.kind (bound.Version x) (bound.Version y) v h
    go Greater h = or_right _ _ h

-- ---- ranges

-- one of two starts, or one of two ends, among all four bounds
by_starts : (a b c d : Bool) → (a || c) ≡ true → ((a || b) || ((c || d) || false)) ≡ true
by_starts true b c d h = refl
by_starts false b c d h = or_right b _ (or_left _ _ (or_left c d h))

by_ends : (a b c d : Bool) → (b || d) ≡ true → ((a || b) || ((c || d) || false)) ≡ true
by_ends a true c d h = or_left _ _ (or_right a true refl)
by_ends a false c d h = or_right _ _ (or_left _ _ (or_right c d h))

admits_from : (a b : VersionRange) (v : Version) → admits_pre (clamped a b) v ≡ true → (admits_pre a v || (admits_pre b v || false)) ≡ true
admits_from a b v h = elim (or_cases _ _ h) [
  | inl start ↦ elim (or_cases _ _ (stop_from (clamped_start a.start b.start) (clamped_end a.end b.end) v start)) [
    | inl first ↦ by_starts _ (has_pre_of a.end v) _ (has_pre_of b.end v) (start_from a.start b.start v first)
    | inr second ↦ by_ends (has_pre_of a.start v) _ (has_pre_of b.start v) _ (end_from a.end b.end v second)
  ]
  | inr end ↦ by_ends (has_pre_of a.start v) _ (has_pre_of b.start v) _ (end_from a.end b.end v end)
]

admits_retained : (a b : VersionRange) (v : Version) → is_release v ≡ false → bounds_hold a v ≡ true → bounds_hold b v ≡ true
    → (admits_pre a v || (admits_pre b v || false)) ≡ true → admits_pre (clamped a b) v ≡ true
admits_retained a b v pre ha hb h = elim (or_cases _ _ h) [
  | inl first ↦ elim (or_cases _ _ first) [
    | inl start ↦ starts (start_retained_first a.start b.start v pre (and_parts _ _ hb).0 start)
    | inr end ↦ ends (end_retained_first a.end b.end v (and_parts _ _ hb).1 end)
  ]
  | inr second ↦ elim (or_cases _ _ (sym (or-false (admits_pre b v)) ∙ second)) [
    | inl start ↦ starts (start_retained_second a.start b.start v pre (and_parts _ _ ha).0 start)
    | inr end ↦ ends (end_retained_second a.end b.end v (and_parts _ _ ha).1 end)
  ]
]
  where
    starts : has_pre_of (clamped_start a.start b.start) v ≡ true → admits_pre (clamped a b) v ≡ true
    starts k =
        let above : (start_holds a.start v && start_holds b.start v) ≡ true = and_from _ _ (and_parts _ (end_holds a.end v) ha).0 (and_parts _ (end_holds b.end v) hb).0 in
        let below : (end_holds a.end v && end_holds b.end v) ≡ true = and_from _ _ (and_parts (start_holds a.start v) _ ha).1 (and_parts (start_holds b.start v) _ hb).1 in
        or_left _ _ (stop_retained (clamped_start a.start b.start) (clamped_end a.end b.end) v pre (start_both a.start b.start v ∙ above) (end_both a.end b.end v ∙ below) k)

    ends : has_pre_of (clamped_end a.end b.end) v ≡ true → admits_pre (clamped a b) v ≡ true
    ends k = or_right _ _ k

-- a clamped range matches what the two match as comparators of one alternative
pub clamped_means : (a b : VersionRange) → MeansBoth a b (clamped a b)
clamped_means a b flag v = same_where _ _ _ _ held (admitted flag)
  where
    held : (bounds_hold (clamped a b) v && true) ≡ (bounds_hold a v && (bounds_hold b v && true))
    held = and-true (bounds_hold (clamped a b) v) ∙ clamped_bounds a b v ∙ ap (λ (w : Bool). bounds_hold a v && w) (sym (and-true (bounds_hold b v)))

    admitted : (flag : PreRelease) → (bounds_hold a v && (bounds_hold b v && true)) ≡ true
        → (is_unrestricted flag v || (admits_pre (clamped a b) v || false)) ≡ (is_unrestricted flag v || (admits_pre a v || (admits_pre b v || false)))
    admitted Admitted both = refl
    admitted Restricted both = elim (cases_Bool (is_release v)) [
      | inl release ↦ rw release refl
      | inr pre ↦ rw pre (or-false (admits_pre (clamped a b) v) ∙ both_ways _ _ (admits_from a b v) (admits_retained a b v pre (and_parts _ _ both).0 (and_parts _ _ (and_parts _ _ both).1).0))
    ]

alone : (range : VersionRange) (v : Version) → is_release v ≡ true → alternative_means (range ∷ []) v ≡ bounds_hold range v
alone range v release = rw release (and-true (bounds_hold range v && true) ∙ and-true (bounds_hold range v))

held_alone : (range : VersionRange) (v : Version) → alternative_means_with Admitted (range ∷ []) v ≡ bounds_hold range v
held_alone range v = and-true (bounds_hold range v && true) ∙ and-true (bounds_hold range v)

-- if pre-releases are admitted, a version matches a clamped range exactly if it matches both
pub clamped_admits : (a b : VersionRange) → AdmitsBoth a b (clamped a b)
clamped_admits a b v = held_alone (clamped a b) v ∙ clamped_bounds a b v ∙ sym (rw (held_alone a v, held_alone b v) refl)

-- a release matches a clamped range exactly if it matches both
pub clamped_matches : (a b : VersionRange) → MatchesBoth a b (clamped a b)
clamped_matches a b v release = alone (clamped a b) v release ∙ clamped_bounds a b v ∙ sym (rw (alone a v release, alone b v release) refl)
