-- The order of cuts between versions, and what the gaps between intervals hold.
use Rattle.std.proofs.Common.{◌≡◌, ◌&&◌, ◌||◌, ◌==◌, ◌+◌, ℕ, suc, not, Bool, true, false, List, [], ◌∷◌, ◌++◌, length, Bor, refl, sym, ap, ap₂, ◌∙◌, arith, is_ge, is_gt, is_le, is_lt, IsPermutation, IsSortedBy, IsTrue, Ordering, Less, Equal, Greater}
use Rattle.std.proofs.lemmas.Cmp.{nat_cmp_total}
use Rattle.std.proofs.lemmas.List.Elements.{All-head, All-push, All-same, All-tail}
use Rattle.std.proofs.lemmas.List.Folds.{list_any-append}
use Rattle.std.proofs.lemmas.List.MinMax.{ranks_by}
use Rattle.std.proofs.lemmas.List.Sorted.{All-permutation, list_any-IsPermutation}
use Rattle.std.specs.Cmp.{Equal-is, both_ways, IsStrictWeakOrder, IsTotalOrder, on_total, then_total}
use Rattle.std.specs.Ordering.{is_eq, ordering_reverse, ordering_then}
use Rattle.semver_base.specs.Intervals.{between, cut_cmp, gaps_after, higher, higher_by, hold, is_from, is_past, is_within, level, lower, rank, side, spot_cmp, AreWritableIntervals, IsWhole, IsWritableInterval}
use Rattle.semver_base.specs.Meaning.{bound_at, end_holds, is_release, start_holds}
use Rattle.semver_base.specs.OrderLaws.{implied_first, implied_second, is_pre_of, pre_from, pre_numbers}
use Rattle.semver_base.specs.OverlapLaws.{not_none}
use Rattle.semver_base.specs.Precedence.{numbers_cmp, precedence_cmp, pre_cmp}
use Rattle.semver_base.specs.PrecedenceLaws.{pre_total, precedence_total, le_le, le_turned}
use Rattle.semver_base.specs.VersionText.{IsWritable}
use Rattle.semver_base.specs.declared.version.Version.{Version}
use Rattle.semver_base.specs.declared.range.RangeBound.{RangeBound}
use Rattle.semver_base.specs.declared.range.RangeBound.TheVariants as bound
use Rattle.semver_base.specs.declared.range.VersionBound.{VersionBound}
use Rattle.semver_base.specs.declared.range.VersionBoundKind.{VersionBoundKind}
use Rattle.semver_base.specs.declared.range.VersionBoundKind.TheVariants as kind
use Rattle.semver_base.specs.declared.range.intervals.Cut.{Cut}
use Rattle.semver_base.specs.declared.range.intervals.Interval.{Interval}
use Rattle.semver_base.specs.declared.range.intervals.Place.{Place}
use Rattle.semver_base.specs.declared.range.intervals.Place.TheVariants.{Floor, Before, After, Ceiling, End}
use Rattle.semver_base.proofs.NumbersOrder.{by_numbers, numbers_tied, numbers_total, same_right, tied_numbers}

pub spot_total : IsTotalOrder spot_cmp
unfolding spot_cmp
spot_total = then_total (on_total (λ (s : Place × Version). level s.0) nat_cmp_total)
    (then_total (on_total (λ (s : Place × Version). s.1) numbers_total)
    (then_total (on_total (λ (s : Place × Version). rank s.0) nat_cmp_total)
    (then_total (on_total (λ (s : Place × Version). s.1.pre) pre_total) (on_total (λ (s : Place × Version). side s.0) nat_cmp_total))))

-- ---- which versions are above a cut

not_lower : (n p : Ordering) → ordering_then n (ordering_then p Equal) ≡ ordering_then n p
not_lower Less p = refl
not_lower Equal Less = refl
not_lower Equal Equal = refl
not_lower Equal Greater = refl
not_lower Greater p = refl

strictly : (n p : Ordering) → is_le (ordering_then n (ordering_then p Greater)) ≡ is_lt (ordering_then n p)
strictly Less p = refl
strictly Equal Less = refl
strictly Equal Equal = refl
strictly Equal Greater = refl
strictly Greater p = refl

pub then_less : (n : Ordering) → is_le (ordering_then n Less) ≡ is_le n
then_less Less = refl
then_less Equal = refl
then_less Greater = refl

pub then_greater : (n : Ordering) → is_le (ordering_then n Greater) ≡ is_lt n
then_greater Less = refl
then_greater Equal = refl
then_greater Greater = refl

pub past_before : (t v : Version) → is_past Before t v ≡ is_le (precedence_cmp t v)
unfolding spot_cmp
past_before t v = ap is_le (not_lower (numbers_cmp t v) (pre_cmp t.pre v.pre) ∙ sym (by_numbers t v))

pub past_after : (t v : Version) → is_past After t v ≡ is_lt (precedence_cmp t v)
unfolding spot_cmp
past_after t v = strictly (numbers_cmp t v) (pre_cmp t.pre v.pre) ∙ ap is_lt (sym (by_numbers t v))

pub past_floor : (t v : Version) → is_past Floor t v ≡ is_le (numbers_cmp t v)
unfolding spot_cmp
past_floor t v = then_less (numbers_cmp t v)

pub past_ceiling : (t v : Version) → is_past Ceiling t v ≡ is_lt (numbers_cmp t v)
unfolding spot_cmp
past_ceiling t v = then_greater (numbers_cmp t v)

pub past_end : (t v : Version) → is_past End t v ≡ false
unfolding spot_cmp
past_end t v = refl

le_back : (r : Ordering) → is_le (ordering_reverse r) ≡ is_ge r
le_back Less = refl
le_back Equal = refl
le_back Greater = refl

lt_back : (r : Ordering) → is_lt (ordering_reverse r) ≡ is_gt r
lt_back Less = refl
lt_back Equal = refl
lt_back Greater = refl

not_lt : (r : Ordering) → is_ge r ≡ not (is_lt r)
not_lt Less = refl
not_lt Equal = refl
not_lt Greater = refl

not_le : (r : Ordering) → is_gt r ≡ not (is_le r)
not_le Less = refl
not_le Equal = refl
not_le Greater = refl

-- a start that includes its version is the cut before it, and one that excludes it the cut behind it
pub start_before : (t v : Version) → is_past Before t v ≡ start_holds (bound_at kind.Inclusive t) v
start_before t v = past_before t v ∙ ap is_le (precedence_total.antisymm t v) ∙ le_back (precedence_cmp v t)

pub start_after : (t v : Version) → is_past After t v ≡ start_holds (bound_at kind.Exclusive t) v
start_after t v = past_after t v ∙ ap is_lt (precedence_total.antisymm t v) ∙ lt_back (precedence_cmp v t)

pub end_before : (t v : Version) → is_past Before t v ≡ not (end_holds (bound_at kind.Exclusive t) v)
end_before t v = start_before t v ∙ not_lt (precedence_cmp v t)

pub end_after : (t v : Version) → is_past After t v ≡ not (end_holds (bound_at kind.Inclusive t) v)
end_after t v = start_after t v ∙ not_le (precedence_cmp v t)

-- a bound that a match found
pub start_is : (start : RangeBound) (b : VersionBound) (k : VersionBoundKind) → start ≡ bound.Version b → b.kind ≡ k → (v : Version) → start_holds (bound_at k b.version) v ≡ start_holds start v
start_is start b k e f v = rw (e, f) refl

pub end_is : (end : RangeBound) (b : VersionBound) (k : VersionBoundKind) → end ≡ bound.Version b → b.kind ≡ k → (v : Version) → not (end_holds (bound_at k b.version) v) ≡ not (end_holds end v)
end_is end b k e f v = rw (e, f) refl

-- what isn't below a version above the cut is above it
pub past_up : (p : Place) (t w v : Version) → is_le (precedence_cmp w v) ≡ true → is_past p t w ≡ true → is_past p t v ≡ true
past_up p t w v le h = le_le spot_total (p, t) (Before, w) (Before, v) h (past_before w v ∙ le)

-- ---- the higher and the lower of two cuts

below : (c d : Cut) → is_le (cut_cmp c d) ≡ true → (v : Version) → is_from d v ≡ true → is_from c v ≡ true
below c d le v h = le_le spot_total (c.place, c.version.now) (d.place, d.version.now) (Before, v) le h

pub not_less_ge : (r : Ordering) → is_lt r ≡ false → is_ge r ≡ true
not_less_ge Less h = cc h
not_less_ge Equal h = refl
not_less_ge Greater h = refl

-- a cut that isn't below another is above what that one is
pub not_below : (c d : Cut) → is_lt (cut_cmp c d) ≡ false → (v : Version) → is_from c v ≡ true → is_from d v ≡ true
not_below c d e = below d c (le_turned spot_total (c.place, c.version.now) (d.place, d.version.now) (not_less_ge (cut_cmp c d) e))

pub or_first : (a b : Bool) → (b ≡ true → a ≡ true) → a ≡ (a || b)
or_first true b h = refl
or_first false true h = h refl
or_first false false h = refl

pub or_second : (a b : Bool) → (a ≡ true → b ≡ true) → b ≡ (a || b)
or_second true b h = h refl
or_second false b h = refl

pub higher_holds : (c d : Cut) (v : Version) → is_from (higher c d) v ≡ (is_from c v && is_from d v)
higher_holds c d v = go (cut_cmp c d) refl
  where
    go : (r : Ordering) → cut_cmp c d ≡ r → is_from (higher_by r c d) v ≡ (is_from c v && is_from d v)
    go Less e = implied_first _ _ (below c d (ap is_le e) v)
    go Equal e = implied_second _ _ (not_below c d (ap is_lt e) v)
    go Greater e = implied_second _ _ (not_below c d (ap is_lt e) v)

pub lower_holds : (c d : Cut) (v : Version) → is_from (lower c d) v ≡ (is_from c v || is_from d v)
lower_holds c d v = go (cut_cmp c d) refl
  where
    go : (r : Ordering) → cut_cmp c d ≡ r → is_from (higher_by r d c) v ≡ (is_from c v || is_from d v)
    go Less e = or_first _ _ (below c d (ap is_le e) v)
    go Equal e = or_second _ _ (not_below c d (ap is_lt e) v)
    go Greater e = or_second _ _ (not_below c d (ap is_lt e) v)

-- ---- versions of some numbers

both_ends : (l h : Bool) (n : Ordering) → (((l && is_le n) && not (h || is_lt n)) || false) ≡ (is_eq n && (l && not h))
both_ends true true Less = refl
both_ends true true Equal = refl
both_ends true true Greater = refl
both_ends true false Less = refl
both_ends true false Equal = refl
both_ends true false Greater = refl
both_ends false h Less = refl
both_ends false h Equal = refl
both_ends false h Greater = refl

pre_of_numbers : (t v : Version) → is_release t ≡ false → is_eq (numbers_cmp t v) ≡ is_pre_of t v
pre_of_numbers t v pre = both_ways (is_eq (numbers_cmp t v)) (is_pre_of t v)
    (λ e. pre_from t v (tied_numbers t v ((Equal-is (numbers_cmp t v)).0 e)) pre)
    (λ h. (Equal-is (numbers_cmp t v)).1 (sym (same_right t t v (pre_numbers t v h)) ∙ numbers_tied t))

pub some_listed : (empty : Bool) (ids : List (List ℕ)) → (ids ≡ [] → IsTrue empty) → empty ≡ false → (length ids == 0) ≡ false
some_listed empty [] h e = let is = h refl in cc (is, e)
some_listed empty (x ∷ xs) h e = not_none x xs

abbrev cut : Place → Bor Version → Cut
cut p t = record { place = p; version = t }

-- an interval cut down to the numbers of a pre-release holds what it held of them
pub numbers_hold : (i : Interval) (t : Bor Version) (v : Version) → is_release t.now ≡ false
    → hold (between (higher i.low (cut Floor t)) (lower i.high (cut Ceiling t)) ∷ []) v ≡ (is_pre_of t.now v && is_within i v)
numbers_hold i t v pre =
    let n = numbers_cmp t.now v in
    ap₂ (λ (a b : Bool). (a && not b) || false) (higher_holds i.low (cut Floor t) v ∙ ap (λ (b : Bool). is_from i.low v && b) (past_floor t.now v))
    (lower_holds i.high (cut Ceiling t) v ∙ ap (λ (b : Bool). is_from i.high v || b) (past_ceiling t.now v))
    ∙ both_ends (is_from i.low v) (is_from i.high v) n ∙ ap (λ (b : Bool). b && is_within i v) (pre_of_numbers t.now v pre)

-- ---- what a range matches of a group

pub every_means : (w b : Bool) → w ≡ b → ((w || false) || false) ≡ ((b && true) && true)
every_means w true e = rw e refl
every_means w false e = rw e refl

pub release_means : (w b r a : Bool) → w ≡ b → r ≡ true → ((w || false) || false) ≡ ((b && true) && (r || a))
release_means w true r a e f = rw (e, f) refl
release_means w false r a e f = rw e refl

pub pre_means : (w b r p q x y : Bool) → w ≡ b → not r ≡ true → x ≡ (p && w) → y ≡ (q && w) → (x || y) ≡ ((b && true) && (r || ((p || q) || false)))
pre_means w b true p q x y e f g h = cc f
pre_means w true false true q x y e f g h = rw (g, e) refl
pre_means w true false false true x y e f g h = rw (g, h, e) refl
pre_means w true false false false x y e f g h = rw (g, h) refl
pre_means w false false true true x y e f g h = rw (g, h, e) refl
pre_means w false false true false x y e f g h = rw (g, h, e) refl
pre_means w false false false true x y e f g h = rw (g, h, e) refl
pre_means w false false false false x y e f g h = rw (g, h) refl

-- ---- what two intervals hold, and what one holds and another doesn't

met : (l m h k : Bool) → ((l && m) && not (h || k)) ≡ ((l && not h) && (m && not k))
met true true true k = refl
met true true false k = refl
met true false true k = refl
met true false false k = refl
met false m h k = refl

parted : (l m h k : Bool) → ((l && not (h || m)) || ((l && k) && not h)) ≡ ((l && not h) && not (m && not k))
parted true true true true = refl
parted true true true false = refl
parted true true false true = refl
parted true true false false = refl
parted true false true true = refl
parted true false true false = refl
parted true false false k = refl
parted false m h k = refl

pub meet_holds : (a b : Interval) (v : Version) → is_within (between (higher a.low b.low) (lower a.high b.high)) v ≡ (is_within a v && is_within b v)
meet_holds a b v = ap₂ (λ (x y : Bool). x && not y) (higher_holds a.low b.low v) (lower_holds a.high b.high v) ∙ met (is_from a.low v) (is_from b.low v) (is_from a.high v) (is_from b.high v)

pub parts_hold : (a b : Interval) (v : Version) → (is_within (between a.low (lower a.high b.low)) v || is_within (between (higher a.low b.high) a.high) v) ≡ (is_within a v && not (is_within b v))
parts_hold a b v = ap₂ (λ (x y : Bool). (is_from a.low v && not x) || (y && not (is_from a.high v))) (lower_holds a.high b.low v) (higher_holds a.low b.high v)
    ∙ parted (is_from a.low v) (is_from b.low v) (is_from a.high v) (is_from b.high v)

-- ---- the gaps between ascending intervals

-- each begins at or above the last cut
abbrev IsBelow : Cut → List Interval → Type 0
IsBelow c [] = Unit {0}
IsBelow c (x ∷ xs) = ((v : Version) → is_from x.low v ≡ true → is_from c v ≡ true) × IsBelow x.low xs

abbrev pub Ascend : List Interval → Type 0
Ascend [] = Unit {0}
Ascend (x ∷ xs) = IsBelow x.low xs

never : (a b : Bool) → (a ≡ true → b ≡ true) → b ≡ false → a ≡ false
never true b h e = let own = h refl in cc (own, e)
never false b h e = refl

none_below : (c : Cut) (xs : List Interval) → IsBelow c xs → (v : Version) → is_from c v ≡ false → hold xs v ≡ false
none_below c [] h v low = refl
none_below c (x ∷ xs) h v low =
    let under : is_from x.low v ≡ false = never (is_from x.low v) (is_from c v) (h.0 v) low in
    rw under (none_below x.low xs h.1 v under)

last_gap : (f e : Bool) → e ≡ false → ((f && not e) || false) ≡ (f && true)
last_gap true e h = rw h refl
last_gap false e h = refl

one_gap : (o f l h x : Bool) → (l ≡ false → x ≡ false)
    → ((o || ((f && not l) || false)) || ((f && h) && not x)) ≡ (o || (f && not ((l && not h) || x)))
one_gap true f l h x none = refl
one_gap false false l h x none = refl
one_gap false true true true x none = refl
one_gap false true true false x none = refl
one_gap false true false h x none = rw (none refl) refl

ascend_rest : (c : Cut) (xs : List Interval) → IsBelow c xs → Ascend xs
ascend_rest c [] h = tt
ascend_rest c (x ∷ xs) h = h.1

-- the gaps hold what is above the first cut and no interval holds
pub gaps_hold : (end : Cut) → ((v : Version) → is_from end v ≡ false) → (gaps : List Interval) (from : Cut) (xs : List Interval) → Ascend xs → (v : Version)
    → hold (gaps_after end gaps from xs) v ≡ (hold gaps v || (is_from from v && not (hold xs v)))
gaps_hold end none gaps from [] up v =
    list_any-append (λ (i : Interval). is_within i v) gaps (between from end ∷ []) ∙ ap (λ (b : Bool). hold gaps v || b) (last_gap (is_from from v) (is_from end v) (none v))
gaps_hold end none gaps from (x ∷ xs) up v =
    gaps_hold end none (gaps ++ between from x.low ∷ []) (higher from x.high) xs (ascend_rest x.low xs up) v
    ∙ ap (λ (b : Bool). b || (is_from (higher from x.high) v && not (hold xs v))) (list_any-append (λ (i : Interval). is_within i v) gaps (between from x.low ∷ []))
    ∙ ap (λ (b : Bool). (hold gaps v || ((is_from from v && not (is_from x.low v)) || false)) || (b && not (hold xs v))) (higher_holds from x.high v)
    ∙ one_gap (hold gaps v) (is_from from v) (is_from x.low v) (is_from x.high v) (hold xs v) (none_below x.low xs up v)

-- ---- sorted by where they begin

abbrev pub begins_first : Interval → Interval → Bool
begins_first a b = is_lt (cut_cmp a.low b.low)

pub beginnings_rank : IsStrictWeakOrder begins_first
beginnings_rank = ranks_by spot_total (λ (i : Interval). (i.low.place, i.low.version.now))

sorted_below : (x : Interval) (xs : List Interval) → IsSortedBy begins_first (x ∷ xs) → IsBelow x.low xs
sorted_below x [] h = tt
sorted_below x (y ∷ ys) h = (not_below y.low x.low (h 0 x (omega arith) (omega arith)), sorted_below y ys rest)
  where
    rest : IsSortedBy begins_first (y ∷ ys)
    rest k d low more =
        let next : suc k + 1 ≡ suc (k + 1) = omega arith in
        rw next at (h (suc k) d (omega arith) (omega (arith, more)))

pub sorted_ascend : (xs : List Interval) → IsSortedBy begins_first xs → Ascend xs
sorted_ascend [] h = tt
sorted_ascend (x ∷ xs) h = sorted_below x xs h

-- ---- texts that parse back

pub kept_by : (P : Cut → Type 0) (r : Ordering) (c d : Cut) → P c → P d → P (higher_by r c d)
kept_by P Less c d h k = k
kept_by P Equal c d h k = h
kept_by P Greater c d h k = h

abbrev pub IsWritableCut : Cut → Type 0
IsWritableCut c = IsWritable c.version.now

pub gaps_writable : (end : Cut) → IsWritableCut end → (gaps : List Interval) (from : Cut) (xs : List Interval) → AreWritableIntervals gaps → IsWritableCut from → AreWritableIntervals xs
    → AreWritableIntervals (gaps_after end gaps from xs)
gaps_writable end last gaps from [] h own each = All-push IsWritableInterval gaps (between from end) h (own, last)
gaps_writable end last gaps from (x ∷ xs) h own each =
    let item = All-head IsWritableInterval x xs each in
    gaps_writable end last (gaps ++ between from x.low ∷ []) (higher from x.high) xs
    (All-push IsWritableInterval gaps (between from x.low) h (own, item.0)) (kept_by IsWritableCut (cut_cmp from x.high) from x.high own item.1) (All-tail IsWritableInterval x xs each)

-- ---- what a loop over sorted intervals appends

pub gaps_are : (whole : Interval) → IsWhole whole → (gaps xs sorted new : List Interval) → IsPermutation xs sorted → IsSortedBy begins_first sorted → new ≡ gaps_after whole.high gaps whole.low sorted
    → (v : Version) → hold new v ≡ (hold gaps v || not (hold xs v))
gaps_are whole is gaps xs sorted new moved ascends made v =
    ap (λ (is : List Interval). hold is v) made ∙ gaps_hold whole.high is.high gaps whole.low sorted (sorted_ascend sorted ascends) v
    ∙ ap₂ (λ (a b : Bool). hold gaps v || (a && not b)) (is.low v) (sym (list_any-IsPermutation (λ (i : Interval). is_within i v) xs sorted moved))

pub gaps_are_writable : (whole : Interval) → IsWhole whole → (gaps xs sorted new : List Interval) → IsPermutation xs sorted → new ≡ gaps_after whole.high gaps whole.low sorted
    → AreWritableIntervals gaps → AreWritableIntervals xs → AreWritableIntervals new
gaps_are_writable whole is gaps xs sorted new moved made h k =
    All-same IsWritableInterval new (gaps_after whole.high gaps whole.low sorted) made
    (gaps_writable whole.high is.writable.1 gaps whole.low sorted h is.writable.0 (All-permutation IsWritableInterval xs sorted moved k))
