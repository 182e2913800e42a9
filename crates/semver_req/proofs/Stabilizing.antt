-- What the shortest form of a range parses back to.
use Rattle.std.proofs.Common.{◌≡◌, ◌&&◌, ◌==◌, ◌+◌, ◌<◌, ℕ, List, [], ◌∷◌, true, false, refl, sym, ap, ap₂, ◌∙◌, inl, inr, arith, subst, is_ge, nat_cmp, nat_lt, Ordering, Less, Equal, Greater}
use Rattle.std.proofs.lemmas.Cmp.{nat_cmp_total, tied_itself}
use Rattle.std.specs.Cmp.{nat_cmp_is}
use Rattle.std.proofs.lemmas.Bool.{and_parts, eqb-true, or_cases}
use Rattle.semver_base.specs.Clamp.{clamped, greater_of, of_tied, stopped_at, stopped_by}
use Rattle.semver_base.specs.Comparators.{Caret, Comparator, Hyphen, OfPrimitive, Bare, Tilde, comparator_range}
use Rattle.semver_base.specs.Meaning.{bound_at, everything, from, release, to_below}
use Rattle.semver_base.specs.PartialTable.{up_to, between, without_build}
use Rattle.semver_base.specs.Precedence.{precedence_cmp}
use Rattle.semver_base.specs.PrecedenceLaws.{precedence-anti, precedence_total, version_eq, version_with, version_reported, turned}
use Rattle.semver_base.specs.Shortest.{ending, has_short_form, is_caret_patch, is_major, is_release_of, is_tilde, shortest_between, shortest_of, starting, whole}
use Rattle.semver_base.specs.declared.range.RangeBound.{RangeBound}
use Rattle.semver_base.specs.declared.range.RangeBound.TheVariants as bound
use Rattle.semver_base.specs.declared.range.VersionBoundKind.{VersionBoundKind}
use Rattle.semver_base.specs.declared.range.VersionBoundKind.TheVariants as kind
use Rattle.semver_base.specs.declared.range.VersionRange.{VersionRange}
use Rattle.semver_base.specs.declared.version.Version.{Version}
use Rattle.semver_base.specs.ShortLaws.{short_is}
use Rattle.semver_req.specs.RetainedSet.{retained_range}
use Rattle.semver_req.specs.Stable.{IsStable, all, no_end, one_version, short, ordered, empty_at_end, reread}
use Rattle.semver_req.proofs.ShortestMeaning.{by_form, by_test}
use Rattle.semver_req.proofs.Starts.{has_start, starts_or_is_open}

-- ---- versions without builds

abbrev pub unbuilt : Version → Version
unbuilt v = without_build (whole v)

unbuilt_same : (v : Version) → v.build ≡ [] → unbuilt v ≡ v
unbuilt_same v e = ap (λ (build : List (List ℕ)). version_with v.major v.minor v.patch v.pre build) (sym e)

-- versions without builds that tie are the same
pub same_version : (s e : Version) → s.build ≡ [] → e.build ≡ [] → precedence_cmp s e ≡ Equal → s ≡ e
same_version s e h k tie =
    let same = precedence-anti s e tie in
    let builds : s.build ≡ e.build = h ∙ sym k in
    let whole : version_with s.major s.minor s.patch s.pre s.build ≡ version_with e.major e.minor e.patch e.pre e.build = rw (same.major, same.minor, same.patch, same.pre, builds) refl in
    whole

-- ---- short forms start below their end

pub number_below : (m n : ℕ) → m < n → nat_cmp m n ≡ Less
number_below m n h = sym (nat_cmp_is m n Less h)

pub below_major : (s : Version) → precedence_cmp s (release (s.major + 1) 0 0) ≡ Less
below_major s = rw (number_below s.major (s.major + 1) (omega arith)) refl

pub below_minor : (s : Version) → precedence_cmp s (release s.major (s.minor + 1) 0) ≡ Less
below_minor s = rw (tied_itself nat_cmp_total s.major, number_below s.minor (s.minor + 1) (omega arith)) refl

pub below_patch : (s : Version) → (s.major == 0) ≡ true → (s.minor == 0) ≡ true → precedence_cmp s (release 0 0 (s.patch + 1)) ≡ Less
below_patch s h k =
    rw (eqb-true _ _ h, eqb-true _ _ k, number_below s.patch (s.patch + 1) (omega arith)) refl

short_less : (s e : Version) → has_short_form s e ≡ true → precedence_cmp s e ≡ Less
short_less s e h = elim (or_cases (is_major s e) _ h) [
  | inl major ↦ rw (short_is e (s.major + 1) 0 0 (and_parts (is_release_of s s.major 0 0) _ major).1) (below_major s)
  | inr h1 ↦ elim (or_cases (is_tilde s e) _ h1) [
    | inl tilde ↦ rw (short_is e s.major (s.minor + 1) 0 tilde) (below_minor s)
    | inr h2 ↦ elim (or_cases (is_caret_patch s e) _ h2) [
      | inl patch ↦ patch_less (and_parts (s.major == 0) _ patch).0 (and_parts (s.major == 0) _ patch).1
      | inr major ↦ rw (short_is e (s.major + 1) 0 0 (and_parts (nat_lt 0 s.major) _ major).1) (below_major s)
    ]
  ]
]
  where
    patch_less : (s.major == 0) ≡ true → ((s.minor == 0) && is_release_of e 0 0 (s.patch + 1)) ≡ true → precedence_cmp s e ≡ Less
    patch_less zero rest = rw (short_is e 0 0 (s.patch + 1) (and_parts (s.minor == 0) _ rest).1) (below_patch s zero (and_parts (s.minor == 0) _ rest).0)

-- ---- what is kept of one comparator, or of two

-- a comparator whose range stopping leaves unchanged
alone_retained : (c : Comparator) (range : VersionRange) → comparator_range c ≡ range → clamped everything range ≡ range → retained_range (c ∷ []) ≡ range
alone_retained (Tilde p) range own same = ap (λ (r : VersionRange). clamped everything r) own ∙ same
alone_retained (Caret p) range own same = ap (λ (r : VersionRange). clamped everything r) own ∙ same
alone_retained (OfPrimitive primitive_kind p) range own same = ap (λ (r : VersionRange). clamped everything r) own ∙ same
alone_retained (Bare p) range own same = ap (λ (r : VersionRange). clamped everything r) own ∙ same
alone_retained (Hyphen p q) range own same = own

-- a start below its end stays
pub less_stays : (k l : VersionBoundKind) (s e : Version) → precedence_cmp s e ≡ Less → clamped everything (between (bound_at k s) (bound_at l e)) ≡ between (bound_at k s) (bound_at l e)
less_stays k l s e less = rw less refl

pub version_stays : (s : Version) → clamped everything (between (from s) (up_to s)) ≡ between (from s) (up_to s)
version_stays s = rw (tied_itself precedence_total s) refl

-- a start that stops at the end
abbrev pub stopped : RangeBound → RangeBound → VersionRange
stopped start end = between (stopped_at start end) end

start_retained : (k : VersionBoundKind) (s : Version) → retained_range (starting k s ∷ []) ≡ between (bound_at k (unbuilt s)) bound.Unbounded
start_retained kind.Inclusive s = refl
start_retained kind.Exclusive s = refl

pub end_retained : (l : VersionBoundKind) (e : Version) → retained_range (ending l e ∷ []) ≡ stopped (from (release 0 0 0)) (bound_at l (unbuilt e))
end_retained kind.Inclusive e = refl
end_retained kind.Exclusive e = refl

-- the higher of the start and 0.0.0, stopped at the end
abbrev pub of_both : VersionBoundKind → VersionBoundKind → Version → Version → VersionRange
of_both k l s e = stopped (greater_of (precedence_cmp s (release 0 0 0)) k (bound_at k s) (from (release 0 0 0))) (bound_at l e)

pub both_retained : (k l : VersionBoundKind) (s e : Version) → retained_range (starting k s ∷ ending l e ∷ []) ≡ of_both k l (unbuilt s) (unbuilt e)
both_retained kind.Inclusive kind.Inclusive s e = refl
both_retained kind.Inclusive kind.Exclusive s e = refl
both_retained kind.Exclusive kind.Inclusive s e = refl
both_retained kind.Exclusive kind.Exclusive s e = refl

-- ---- a range whose form parses back is of some kind

tied_stable : (j l : VersionBoundKind) (t e : Version) → e.build ≡ [] → t ≡ e → IsStable (between (of_tied j (bound_at j t) (bound_at l e)) (bound_at l e))
tied_stable kind.Exclusive l t e built same = subst (λ (x : Version). IsStable (between (bound_at kind.Exclusive x) (bound_at l e))) (sym same) (empty_at_end built)
tied_stable kind.Inclusive kind.Inclusive t e built same = one_version
tied_stable kind.Inclusive kind.Exclusive t e built same = empty_at_end built

-- a start that isn't below 0.0.0, stopped at the end
stopped_stable : (j l : VersionBoundKind) (t e : Version) → t.build ≡ [] → e.build ≡ [] → is_ge (precedence_cmp t (release 0 0 0)) ≡ true → IsStable (stopped (bound_at j t) (bound_at l e))
stopped_stable j l t e no_build built above = go (precedence_cmp t e) refl
  where
    go : (r : Ordering) → precedence_cmp t e ≡ r → IsStable (between (stopped_by r (record { kind = j; version = t }) (record { kind = l; version = e })) (bound_at l e))
    go Less less = ordered no_build built above less
    go Equal tie = tied_stable j l t e built (same_version t e no_build built tie)
    go Greater passed = empty_at_end built

both_stable : (k l : VersionBoundKind) (s e : Version) → s.build ≡ [] → e.build ≡ [] → IsStable (of_both k l s e)
both_stable k l s e no_build built = go k (precedence_cmp s (release 0 0 0)) refl
  where
    go : (k : VersionBoundKind) (r : Ordering) → precedence_cmp s (release 0 0 0) ≡ r → IsStable (stopped (greater_of r k (bound_at k s) (from (release 0 0 0))) (bound_at l e))
    go k Less less = stopped_stable kind.Inclusive l (release 0 0 0) e refl built refl
    go kind.Inclusive Equal tie = stopped_stable kind.Inclusive l (release 0 0 0) e refl built refl
    go kind.Exclusive Equal tie = stopped_stable kind.Exclusive l s e no_build built (rw tie refl)
    go k Greater above = stopped_stable k l s e no_build built (rw above refl)

-- the comparators parse back to a range of some kind
abbrev Stabilizes : List Comparator → Type 0
Stabilizes cs = IsStable (retained_range cs)

stabilizes_by : (cs : List Comparator) {range : VersionRange} → retained_range cs ≡ range → IsStable range → Stabilizes cs
stabilizes_by cs same stable = subst IsStable (sym same) stable

both_stabilize : (k l : VersionBoundKind) (s e : Version) → Stabilizes (starting k s ∷ ending l e ∷ [])
both_stabilize k l s e = stabilizes_by (starting k s ∷ ending l e ∷ []) (both_retained k l s e) (both_stable k l (unbuilt s) (unbuilt e) refl refl)

end_stabilizes : (l : VersionBoundKind) (e : Version) → Stabilizes (ending l e ∷ [])
end_stabilizes l e = stabilizes_by (ending l e ∷ []) (end_retained l e) (stopped_stable kind.Inclusive l (release 0 0 0) (unbuilt e) refl refl refl)

between_stabilizes : (k l : VersionBoundKind) (s e : Version) → Stabilizes (shortest_between k l s e)
between_stabilizes kind.Inclusive kind.Inclusive s e =
    by_test Stabilizes (version_eq s e) (λ _. stabilizes_by (Bare (whole s) ∷ []) (version_stays s) one_version) (λ _.
    by_test Stabilizes (is_release_of s 0 0 0) (λ _. end_stabilizes kind.Inclusive e) (λ _.
    both_stabilize kind.Inclusive kind.Inclusive s e))
between_stabilizes kind.Inclusive kind.Exclusive s e =
    by_form Stabilizes s e (λ form c own. stabilizes_by (c ∷ []) (alone_retained c _ own (less_stays kind.Inclusive kind.Exclusive s e (short_less s e form))) (short form)) (λ _.
    by_test Stabilizes (is_release_of s 0 0 0) (λ _. end_stabilizes kind.Exclusive e) (λ _.
    both_stabilize kind.Inclusive kind.Exclusive s e))
between_stabilizes kind.Exclusive l s e = both_stabilize kind.Exclusive l s e

bounds_stabilize : (start end : RangeBound) → starts_or_is_open start end ≡ true → Stabilizes (shortest_of start end)
bounds_stabilize bound.Unbounded bound.Unbounded h = all
bounds_stabilize bound.Unbounded (bound.Version e) h = cc h
bounds_stabilize (bound.Version s) bound.Unbounded h = stabilizes_by (starting s.kind s.version ∷ []) (start_retained s.kind s.version) (no_end refl)
bounds_stabilize (bound.Version s) (bound.Version e) h = between_stabilizes s.kind e.kind s.version e.version

-- what a range parses back to is of some kind
pub reread_stable : (range : VersionRange) → has_start range ≡ true → IsStable (reread range)
reread_stable range h = bounds_stabilize range.start range.end h

-- ---- a range of some kind parses back to itself

-- the comparators parse back to the range
abbrev pub Reads : VersionRange → List Comparator → Type 0
Reads range cs = retained_range cs ≡ range

-- a start that isn't below 0.0.0 is the higher
greater_start : (k : VersionBoundKind) (s : Version) → s.build ≡ [] → is_ge (precedence_cmp s (release 0 0 0)) ≡ true
    → greater_of (precedence_cmp s (release 0 0 0)) k (bound_at k s) (from (release 0 0 0)) ≡ bound_at k s
greater_start k s no_build above = go k (precedence_cmp s (release 0 0 0)) refl above
  where
    go : (k : VersionBoundKind) (r : Ordering) → precedence_cmp s (release 0 0 0) ≡ r → is_ge r ≡ true → greater_of r k (bound_at k s) (from (release 0 0 0)) ≡ bound_at k s
    go k Less e h = cc h
    go kind.Inclusive Equal e h = ap from (sym (same_version s (release 0 0 0) no_build refl e))
    go kind.Exclusive Equal e h = refl
    go k Greater e h = refl

stopped_less : (k l : VersionBoundKind) (s e : Version) → precedence_cmp s e ≡ Less → stopped (bound_at k s) (bound_at l e) ≡ between (bound_at k s) (bound_at l e)
stopped_less k l s e less = rw less refl

both_read : (k l : VersionBoundKind) (s e : Version) → s.build ≡ [] → e.build ≡ [] → is_ge (precedence_cmp s (release 0 0 0)) ≡ true → precedence_cmp s e ≡ Less
    → Reads (between (bound_at k s) (bound_at l e)) (starting k s ∷ ending l e ∷ [])
both_read k l s e no_build built above less =
    both_retained k l s e
    ∙ ap₂ (of_both k l) (unbuilt_same s no_build) (unbuilt_same e built)
    ∙ ap (λ (start : RangeBound). stopped start (bound_at l e)) (greater_start k s no_build above)
    ∙ stopped_less k l s e less

end_read : (l : VersionBoundKind) (s e : Version) → e.build ≡ [] → precedence_cmp s e ≡ Less → is_release_of s 0 0 0 ≡ true → Reads (between (from s) (bound_at l e)) (ending l e ∷ [])
end_read l s e built less plain =
    end_retained l e
    ∙ ap₂ (λ (start end : Version). stopped (from start) (bound_at l end)) (sym (short_is s 0 0 0 plain)) (unbuilt_same e built)
    ∙ stopped_less kind.Inclusive l s e less

pub version_read : (s e : Version) → version_eq s e ≡ true → Reads (between (from s) (up_to e)) (Bare (whole s) ∷ [])
version_read s e same = version_stays s ∙ ap (λ (end : Version). between (from s) (up_to end)) ((version_reported s e).0 same)

pub form_read : (s e : Version) → has_short_form s e ≡ true → (c : Comparator) → comparator_range c ≡ between (from s) (to_below e) → Reads (between (from s) (to_below e)) (c ∷ [])
form_read s e form c own = alone_retained c _ own (less_stays kind.Inclusive kind.Exclusive s e (short_less s e form))

ordered_read : (k l : VersionBoundKind) (s e : Version) → s.build ≡ [] → e.build ≡ [] → is_ge (precedence_cmp s (release 0 0 0)) ≡ true → precedence_cmp s e ≡ Less
    → Reads (between (bound_at k s) (bound_at l e)) (shortest_between k l s e)
ordered_read kind.Inclusive kind.Inclusive s e no_build built above less =
    let P : List Comparator → Type 0 = Reads (between (from s) (up_to e)) in
    by_test P (version_eq s e) (version_read s e) (λ _.
    by_test P (is_release_of s 0 0 0) (end_read kind.Inclusive s e built less) (λ _.
    both_read kind.Inclusive kind.Inclusive s e no_build built above less))
ordered_read kind.Inclusive kind.Exclusive s e no_build built above less =
    let P : List Comparator → Type 0 = Reads (between (from s) (to_below e)) in
    by_form P s e (form_read s e) (λ _.
    by_test P (is_release_of s 0 0 0) (end_read kind.Exclusive s e built less) (λ _.
    both_read kind.Inclusive kind.Exclusive s e no_build built above less))
ordered_read kind.Exclusive l s e no_build built above less = both_read kind.Exclusive l s e no_build built above less

-- a version that doesn't equal itself
unlike_itself : (s : Version) → version_eq s s ≡ false → ⊥
unlike_itself s other = cc ((version_reported s s).1 refl, other)

version_reread : (s : Version) → reread (between (from s) (up_to s)) ≡ between (from s) (up_to s)
version_reread s = by_test (Reads (between (from s) (up_to s))) (version_eq s s) (version_read s s) (λ other. absurd (unlike_itself s other))

short_reread : (s e : Version) → has_short_form s e ≡ true → reread (between (from s) (to_below e)) ≡ between (from s) (to_below e)
short_reread s e form = by_form (Reads (between (from s) (to_below e))) s e (form_read s e) (λ long. cc (form, long))

start_reread : (k : VersionBoundKind) (s : Version) → s.build ≡ [] → reread (between (bound_at k s) bound.Unbounded) ≡ between (bound_at k s) bound.Unbounded
start_reread k s no_build = start_retained k s ∙ ap (λ (start : Version). between (bound_at k start) bound.Unbounded) (unbuilt_same s no_build)

-- an exclusive start at the end's own version, or 0.0.0 beyond it, stops there
empty_stopped : (l : VersionBoundKind) (e : Version) → of_both kind.Exclusive l e e ≡ between (bound_at kind.Exclusive e) (bound_at l e)
empty_stopped l e = go (precedence_cmp e (release 0 0 0)) refl
  where
    go : (r : Ordering) → precedence_cmp e (release 0 0 0) ≡ r
        → stopped (greater_of r kind.Exclusive (bound_at kind.Exclusive e) (from (release 0 0 0))) (bound_at l e) ≡ between (bound_at kind.Exclusive e) (bound_at l e)
    go Less less = rw (turned precedence_total e (release 0 0 0) Less less) refl
    go Equal tie = rw (tied_itself precedence_total e) refl
    go Greater above = rw (tied_itself precedence_total e) refl

empty_reread : (l : VersionBoundKind) (e : Version) → e.build ≡ [] → reread (between (bound_at kind.Exclusive e) (bound_at l e)) ≡ between (bound_at kind.Exclusive e) (bound_at l e)
empty_reread l e built =
    both_retained kind.Exclusive l e e
    ∙ ap (λ (x : Version). of_both kind.Exclusive l x x) (unbuilt_same e built)
    ∙ empty_stopped l e

-- a range of some kind is what it parses back to
pub stable_reread : (range : VersionRange) → IsStable range → reread range ≡ range
stable_reread range all = refl
stable_reread range (no_end {k} {s} no_build) = start_reread k s no_build
stable_reread range (one_version {s}) = version_reread s
stable_reread range (short {s} {e} form) = short_reread s e form
stable_reread range (ordered {k} {l} {s} {e} no_build built above less) = ordered_read k l s e no_build built above less
stable_reread range (empty_at_end {l} {e} built) = empty_reread l e built
