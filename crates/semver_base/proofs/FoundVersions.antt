-- What is found of several intervals, and of what is asked.
use Rattle.std.proofs.Common.{◌≡◌, ◌&&◌, ◌||◌, ◌<◌, ◌≤◌, ◌+◌, ℕ, arith, Bool, true, false, not, List, [], ◌∷◌, ◌++◌, get_or, length, take, option_to_list, Option, Some, None, Result, refl, sym, subst, ap, ap₂, ◌∙◌, inl, inr, IfOk, IfSome}
use Rattle.std.proofs.lemmas.Bool.{or_cases, or_left, or_parts, or_right}
use Rattle.std.proofs.lemmas.List.Elements.{All-append, All-from_recursion, All-get_or, All-nil, All-same}
use Rattle.std.proofs.lemmas.List.Folds.{list_all_more, list_any-append, list_any_more}
use Rattle.std.proofs.lemmas.Result.{IfOk-weaker}
use Rattle.std.proofs.Math.Bool.{and-false, and-true, or-false}
use Rattle.std.specs.List.{list_all, list_any}
use Rattle.semver_base.specs.Intervals.{has_pre_bound, is_pre_bound, all_match, lesser, passes, some_means}
use Rattle.semver_base.specs.Intervals.{flag_of, hold, is_of, is_within, AreWritableIntervals, AreWritableSets, IsFound, IsWritableInterval}
use Rattle.semver_base.specs.LowestVersion.{HasNoBuild, IsLowestPassing, IsReadable, all_mean_with, set_means_alone_with, sets_mean_with}
use Rattle.semver_base.specs.Meaning.{any_alternatives, bounds_hold, has_pre_of, is_release, range_means_with, set_means_with}
use Rattle.semver_base.specs.NormalText.{AreWritableRanges, IsWritableRange}
use Rattle.semver_base.specs.OrderLaws.{same_where}
use Rattle.semver_base.specs.VersionText.{IsWritable, ReadsBack}
use Rattle.semver_base.specs.declared.version.Version.{Version}
use Rattle.semver_base.specs.declared.range.PreRelease.{PreRelease}
use Rattle.semver_base.specs.declared.range.PreRelease.TheVariants.{Restricted}
use Rattle.semver_base.specs.declared.range.RangeBound.{RangeBound}
use Rattle.semver_base.specs.declared.range.RangeBound.TheVariants as bound
use Rattle.semver_base.specs.declared.range.VersionRange.{VersionRange}
use Rattle.semver_base.specs.declared.range.VersionRangeSet.{VersionRangeSet}
use Rattle.semver_base.specs.declared.range.intervals.Group.{Group}
use Rattle.semver_base.specs.declared.range.intervals.Interval.{Interval}
use Rattle.semver_base.proofs.LowestTests.{lesser_keeps, lesser_reaches_first, lesser_reaches_second, lowest_as, lowest_by, Reaches}

-- ---- of either of two tests

pub found_as : (P Q : Version → Bool) (W V : Type 0) (x : Option Version) → ((v : Version) → P v ≡ Q v) → (V → W) → IsFound P W x → IsFound Q V x
found_as P Q W V x same written h = record { lowest = lowest_as P Q x same h.lowest; no_build = h.no_build; reads_back = λ own. h.reads_back (written own) }

passing : (P Q : Version → Bool) (x : Option Version) → IsLowestPassing P x → ((w : Version) → P w ≡ true → Q w ≡ true) → IfSome x (λ w. Q w ≡ true)
passing P Q None h more = tt
passing P Q (Some w) h more = more w h.0

reached : (P : Version → Bool) (x : Option Version) → IsLowestPassing P x → (v : Version) → IsReadable v → P v ≡ true → Reaches x v
reached P None h v readable own = let none : true ≡ false = sym own ∙ h v readable in cc none
reached P (Some w) h v readable own = h.1 v readable own

pub found_either : (P Q : Version → Bool) (W : Type 0) (x y : Option Version) → IsFound P W x → IsFound Q W y → IsFound (λ v. P v || Q v) W (lesser x y)
found_either P Q W x y h k = record {
  lowest = lowest_by (λ v. P v || Q v) (lesser x y)
      (lesser_keeps (λ w. (P w || Q w) ≡ true) x y (passing P (λ w. P w || Q w) x h.lowest (λ w own. or_left (P w) (Q w) own)) (passing Q (λ w. P w || Q w) y k.lowest (λ w own. or_right (P w) (Q w) own)))
      (λ v readable own. elim (or_cases (P v) (Q v) own) [
        | inl first ↦ lesser_reaches_first x y v (reached P x h.lowest v readable first)
        | inr second ↦ lesser_reaches_second x y v (reached Q y k.lowest v readable second)
      ]);
  no_build = lesser_keeps HasNoBuild x y h.no_build k.no_build;
  reads_back = λ own. lesser_keeps ReadsBack x y (h.reads_back own) (k.reads_back own);
}

-- ---- of the intervals of a list

either_of : (k a b : Bool) → ((k && a) || (k && b)) ≡ (k && (a || b))
either_of true a b = refl
either_of false a b = refl

pub more_found : (g : Group) (xs : List Interval) (i : ℕ) (it : Interval) → i < length xs → it ≡ get_or xs i it → (x y : Option Version)
    → IsFound (λ v. is_of g v && hold (take i xs) v) (AreWritableIntervals xs) x → IsFound (λ v. is_of g v && is_within it v) (IsWritable it.low.version.now) y
    → IsFound (λ v. is_of g v && hold (take (i + 1) xs) v) (AreWritableIntervals xs) (lesser x y)
more_found g xs i it inside at x y h k =
    found_as (λ v. (is_of g v && hold (take i xs) v) || (is_of g v && is_within it v)) (λ v. is_of g v && hold (take (i + 1) xs) v) (AreWritableIntervals xs) (AreWritableIntervals xs) (lesser x y)
    (λ v. either_of (is_of g v) (hold (take i xs) v) (is_within it v) ∙ ap (λ (b : Bool). is_of g v && b) (more v)) (λ own. own)
    (found_either (λ v. is_of g v && hold (take i xs) v) (λ v. is_of g v && is_within it v) (AreWritableIntervals xs) x y h
    (found_as (λ v. is_of g v && is_within it v) (λ v. is_of g v && is_within it v) (IsWritable it.low.version.now) (AreWritableIntervals xs) y (λ v. refl)
    (λ own. (subst IsWritableInterval (sym at) (All-get_or IsWritableInterval xs i it inside own)).0) k))
  where
    more : (v : Version) → (hold (take i xs) v || is_within it v) ≡ hold (take (i + 1) xs) v
    more v = ap (λ (j : Interval). hold (take i xs) v || is_within j v) at ∙ sym (list_any_more (λ (j : Interval). is_within j v) xs i it inside)

-- ---- what a range matches of a group, as one or two intervals

pub two_more : (v : Version) (xs ys zs : List Interval) (first second : Option Interval) → ys ≡ xs ++ option_to_list first → zs ≡ ys ++ option_to_list second
    → hold zs v ≡ (hold xs v || (hold (option_to_list first) v || hold (option_to_list second) v))
two_more v xs ys zs first second e f =
    ap (λ (is : List Interval). hold is v) f ∙ list_any-append (λ (j : Interval). is_within j v) ys (option_to_list second)
    ∙ ap (λ (b : Bool). b || hold (option_to_list second) v) (ap (λ (is : List Interval). hold is v) e ∙ list_any-append (λ (j : Interval). is_within j v) xs (option_to_list first))
    ∙ grouped (hold xs v) (hold (option_to_list first) v) (hold (option_to_list second) v)
  where
    grouped : (a b c : Bool) → ((a || b) || c) ≡ (a || (b || c))
    grouped true b c = refl
    grouped false b c = refl

pub more_matched : (flag : PreRelease) (ranges : List VersionRange) (i : ℕ) (r : VersionRange) → i < length ranges → r ≡ get_or ranges i r → (v : Version) (old new own : Bool)
    → new ≡ (old || own) → old ≡ some_means flag (take i ranges) v → own ≡ range_means_with flag r v → new ≡ some_means flag (take (i + 1) ranges) v
more_matched flag ranges i r inside at v old new own is before this =
    is ∙ ap₂ (λ (a b : Bool). a || b) before this ∙ ap (λ (it : VersionRange). some_means flag (take i ranges) v || range_means_with flag it v) at
    ∙ sym (list_any_more (λ (it : VersionRange). range_means_with flag it v) ranges i r inside)

pub two_writable : (xs ys zs : List Interval) (first second : Option Interval) → ys ≡ xs ++ option_to_list first → zs ≡ ys ++ option_to_list second
    → AreWritableIntervals xs → AreWritableIntervals (option_to_list first) × AreWritableIntervals (option_to_list second) → AreWritableIntervals zs
two_writable xs ys zs first second e f h k =
    All-same IsWritableInterval zs (ys ++ option_to_list second) f (All-append IsWritableInterval ys (option_to_list second)
    (All-same IsWritableInterval ys (xs ++ option_to_list first) e (All-append IsWritableInterval xs (option_to_list first) h k.0)) k.1)

pub one_of_ranges : (ranges : List VersionRange) (i : ℕ) (r : VersionRange) → i < length ranges → r ≡ get_or ranges i r → AreWritableRanges ranges → IsWritableRange r
one_of_ranges ranges i r inside at h = subst IsWritableRange (sym at) (All-get_or IsWritableRange ranges i r inside (All-from_recursion IsWritableRange ranges h))

pub one_of_sets : (sets : List VersionRangeSet) (i : ℕ) (set : VersionRangeSet) → i < length sets → set ≡ get_or sets i set → AreWritableSets sets → AreWritableRanges set.0
one_of_sets sets i set inside at h =
    let writable = λ (s : VersionRangeSet). AreWritableRanges s.0 in
    subst writable (sym at) (All-get_or writable sets i set inside (All-from_recursion writable sets h))

pub none_writable : (xs : List Interval) → xs ≡ [] → AreWritableIntervals xs
none_writable xs e = All-same IsWritableInterval xs [] e (All-nil IsWritableInterval)

-- ---- what is left out

not_both : (a b : Bool) → (not a || not b) ≡ not (a && b)
not_both true b = refl
not_both false b = refl

ranges_out : (p w : Bool) → (not p || w) ≡ not (p && not w)
ranges_out true true = refl
ranges_out true false = refl
ranges_out false w = refl

joined : (o a b : Bool) → (o && (a && b)) ≡ ((o && a) && b)
joined true a b = refl
joined false a b = refl

module _ (flag : PreRelease) (own : List VersionRange) (v : Version) where
  pub more_match : (sets : List VersionRangeSet) (i : ℕ) (set : VersionRangeSet) → i < length sets → set ≡ get_or sets i set → (old other : Bool)
      → old ≡ all_match flag own v (take i sets) → other ≡ some_means flag set.0 v → (old && other) ≡ all_match flag own v (take (i + 1) sets)
  more_match sets i set inside at old other before own_is =
      ap₂ (λ (a b : Bool). a && b) before (own_is ∙ any_alternatives flag set.0 v)
      ∙ sym (joined (some_means flag own v) (list_all (λ (s : VersionRangeSet). set_means_with flag s.0 v) (take i sets)) (set_means_with flag set.0 v))
      ∙ ap (λ (b : Bool). some_means flag own v && b)
      (ap (λ (s : VersionRangeSet). list_all (λ (s : VersionRangeSet). set_means_with flag s.0 v) (take i sets) && set_means_with flag s.0 v) at
      ∙ sym (list_all_more (λ (s : VersionRangeSet). set_means_with flag s.0 v) sets i set inside))

  pub first_out : (start xs : List Interval) (new : Bool) → new ≡ (hold start v || not (hold xs v)) → start ≡ [] → hold xs v ≡ some_means flag own v → new ≡ not (all_match flag own v [])
  first_out start xs new is none own_is =
      is ∙ ap₂ (λ (a : List Interval) (b : Bool). hold a v || not b) none own_is ∙ ap not (sym (and-true (some_means flag own v)))

  pub more_out : (sets : List VersionRangeSet) (i : ℕ) (set : VersionRangeSet) → i < length sets → set ≡ get_or sets i set → (old new other : Bool)
      → new ≡ (old || not other) → old ≡ not (all_match flag own v (take i sets)) → other ≡ some_means flag set.0 v → new ≡ not (all_match flag own v (take (i + 1) sets))
  more_out sets i set inside at old new other is before own_is =
      is ∙ ap (λ (a : Bool). a || not other) before ∙ not_both (all_match flag own v (take i sets)) other
      ∙ ap not (more_match sets i set inside at (all_match flag own v (take i sets)) other refl own_is)

  pub all_out : (sets : List VersionRangeSet) (without : List VersionRange) (out last : List Interval) → hold out v ≡ not (all_match flag own v sets) → hold last v ≡ some_means flag without v
      → hold (out ++ last) v ≡ not (passes flag own sets without v)
  all_out sets without out last h k =
      list_any-append (λ (j : Interval). is_within j v) out last ∙ ap₂ (λ (a b : Bool). a || b) h k ∙ ranges_out (all_match flag own v sets) (some_means flag without v)

twice : (a : Bool) → (false || not (not a)) ≡ a
twice true = refl
twice false = refl

-- the gaps that what is left out leaves
pub gaps_pass : (g : Group) (own : List VersionRange) (others : List VersionRangeSet) (without : List VersionRange) (start inside out : List Interval) → start ≡ []
    → ((v : Version) → hold inside v ≡ (hold start v || not (hold out v)))
    → ((v : Version) → is_of g v ≡ true → hold out v ≡ not (passes (flag_of g) own others without v))
    → (v : Version) → (is_of g v && hold inside v) ≡ (is_of g v && passes (flag_of g) own others without v)
gaps_pass g own others without start inside out none h k v = go (is_of g v) (k v)
  where
    go : (b : Bool) → (b ≡ true → hold out v ≡ not (passes (flag_of g) own others without v)) → (b && hold inside v) ≡ (b && passes (flag_of g) own others without v)
    go false k = refl
    go true k = h v ∙ ap₂ (λ (is : List Interval) (a : Bool). hold is v || not a) none (k refl) ∙ twice (passes (flag_of g) own others without v)

-- without a pre-release bound only releases pass
none_of : (x : RangeBound) (v : Version) → is_pre_bound x ≡ false → has_pre_of x v ≡ false
none_of bound.Unbounded v h = refl
none_of (bound.Version b) v h = rw h refl

no_pre_means : (ranges : List VersionRange) → list_any has_pre_bound ranges ≡ false → (v : Version) → is_release v ≡ false → some_means Restricted ranges v ≡ false
no_pre_means [] h v pre = refl
no_pre_means (r ∷ rs) h v pre =
    let parts = or_parts (has_pre_bound r) (list_any has_pre_bound rs) h in
    let bounds = or_parts (is_pre_bound r.start) (is_pre_bound r.end) parts.0 in
    let this : range_means_with Restricted r v ≡ false = rw (pre, none_of r.start v bounds.0, none_of r.end v bounds.1) (and-false (bounds_hold r v && true)) in
    ap₂ (λ (a b : Bool). a || b) this (no_pre_means rs parts.1 v pre)

pub releases_found : (own : List VersionRange) (others : List VersionRangeSet) (without : List VersionRange) (W : Type 0) (x : Option Version) → list_any has_pre_bound own ≡ false
    → IsFound (λ v. is_release v && passes Restricted own others without v) W x → IsFound (passes Restricted own others without) W x
releases_found own others without W x none = found_as (λ v. is_release v && passes Restricted own others without v) (passes Restricted own others without) W W x (λ v. go v (is_release v) refl) (λ own. own)
  where
    go : (v : Version) (r : Bool) → is_release v ≡ r → (r && passes Restricted own others without v) ≡ passes Restricted own others without v
    go v true e = refl
    go v false e = rw (no_pre_means own none v e) refl

-- a release passes, or a pre-release
of_either : (r p : Bool) → ((r && p) || (not r && p)) ≡ p
of_either true true = refl
of_either true false = refl
of_either false p = refl

pub found_both : (P : Version → Bool) (W : Type 0) (x y : Option Version) → IsFound (λ v. is_release v && P v) W x → IsFound (λ v. not (is_release v) && P v) W y → IsFound P W (lesser x y)
found_both P W x y h k = found_as (λ v. (is_release v && P v) || (not (is_release v) && P v)) P W W (lesser x y) (λ v. of_either (is_release v) (P v)) (λ own. own)
    (found_either (λ v. is_release v && P v) (λ v. not (is_release v) && P v) W x y h k)

-- ---- where each set has one range

pub single_means : (flag : PreRelease) (ranges : List VersionRange) (r : VersionRange) (v : Version) (w : Bool) → ranges ≡ r ∷ [] → ((w || false) || false) ≡ range_means_with flag r v → w ≡ some_means flag ranges v
single_means flag ranges r v w e is = sym (or-false w) ∙ sym (or-false (w || false)) ∙ is ∙ sym (or-false (range_means_with flag r v)) ∙ ap (λ (rs : List VersionRange). some_means flag rs v) (sym e)

pub only_item : {X : Type 0} (xs : List X) (x : X) → 1 ≤ length xs → length xs < 2 → x ≡ get_or xs 0 x → xs ≡ x ∷ []
only_item [] x some few at = absurd (omega (arith, some))
only_item (y ∷ []) x some few at = ap (λ z. z ∷ []) (sym at)
only_item (y ∷ z ∷ zs) x some few at = absurd (omega (arith, few))

-- what two intervals hold
pub two_found : (g : Group) (P : Version → Bool) (W : Type 0) (i j : Interval) (x y : Option Version) → (W → IsWritableInterval i × IsWritableInterval j)
    → ((v : Version) → is_of g v ≡ true → (is_within i v || is_within j v) ≡ P v)
    → IsFound (λ v. is_of g v && is_within i v) (IsWritable i.low.version.now) x → IsFound (λ v. is_of g v && is_within j v) (IsWritable j.low.version.now) y
    → IsFound (λ v. is_of g v && P v) W (lesser x y)
two_found g P W i j x y written same h k =
    found_as (λ v. (is_of g v && is_within i v) || (is_of g v && is_within j v)) (λ v. is_of g v && P v) W W (lesser x y)
    (λ v. either_of (is_of g v) (is_within i v) (is_within j v) ∙ same_where (is_of g v) (is_within i v || is_within j v) (is_of g v) (P v) refl (same v)) (λ own. own)
    (found_either (λ v. is_of g v && is_within i v) (λ v. is_of g v && is_within j v) W x y
    (found_as (λ v. is_of g v && is_within i v) (λ v. is_of g v && is_within i v) (IsWritable i.low.version.now) W x (λ v. refl) (λ own. (written own).0.0) h)
    (found_as (λ v. is_of g v && is_within j v) (λ v. is_of g v && is_within j v) (IsWritable j.low.version.now) W y (λ v. refl) (λ own. (written own).1.0) k))

-- ---- what each call asks for

pub found_if_ok : {E : Type 0} (P Q : Version → Bool) (W V : Type 0) (r : Result (Option Version) E) → IfOk r (IsFound P W) → ((v : Version) → P v ≡ Q v) → (V → W) → IfOk r (IsFound Q V)
found_if_ok P Q W V r h same written = IfOk-weaker r (IsFound P W) (IsFound Q V) (λ x. found_as P Q W V x same written) h

module _ (flag : PreRelease) (v : Version) where
  pub range_asked : (r : VersionRange) → passes flag (r ∷ []) [] [] v ≡ range_means_with flag r v
  range_asked r = and-true (some_means flag (r ∷ []) v && true) ∙ and-true (some_means flag (r ∷ []) v) ∙ or-false (range_means_with flag r v)

  pub set_asked : (own : List VersionRange) → passes flag own [] [] v ≡ set_means_with flag own v
  set_asked own = and-true (some_means flag own v && true) ∙ and-true (some_means flag own v) ∙ any_alternatives flag own v

  pub common_asked : (own : List VersionRange) (other : VersionRangeSet) → passes flag own (other ∷ []) [] v ≡ sets_mean_with flag own other.0 v
  common_asked own other =
      and-true (some_means flag own v && (set_means_with flag other.0 v && true)) ∙ ap₂ (λ (a b : Bool). a && b) (any_alternatives flag own v) (and-true (set_means_with flag other.0 v))

  pub all_asked : (own : List VersionRange) (others : List VersionRangeSet) → passes flag own others [] v ≡ all_mean_with flag own others v
  all_asked own others = and-true (some_means flag own v && all) ∙ ap (λ (a : Bool). a && all) (any_alternatives flag own v)
    where
      all : Bool
      all = list_all (λ (set : VersionRangeSet). set_means_with flag set.0 v) others

  pub outside_asked : (own without : List VersionRange) → passes flag own [] without v ≡ set_means_alone_with flag own without v
  outside_asked own without = ap₂ (λ (a b : Bool). a && not b) (and-true (some_means flag own v) ∙ any_alternatives flag own v) (any_alternatives flag without v)
