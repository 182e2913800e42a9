-- What sorted spans come to once those that touch are merged: they hold the same keys, and have gaps between them.
use Rattle.std.proofs.Common.{◌≡◌, ◌&&◌, ◌||◌, ◌+◌, ℕ, suc, Bool, true, false, List, [], ◌∷◌, ◌++◌, length, map, refl, subst, sym, ap, ◌∙◌, append_assoc, arith, drop, get_or, ◌<◌, if◌then◌else◌, is_le, is_lt, Ordering, Less, Equal, Greater, IsPermutation, IsSortedBy}
use Rattle.std.proofs.lemmas.List.Elements.{All-head, All-tail}
use Rattle.std.proofs.lemmas.List.{drop_more, map-append}
use Rattle.std.proofs.lemmas.List.MinMax.{ranks_by}
use Rattle.std.proofs.lemmas.List.Sorted.{All-permutation, list_any-IsPermutation}
use Rattle.std.specs.Cmp.{IsStrictWeakOrder}
use Rattle.std.specs.Cmp.Lexicographic.{nat_list_cmp_total}
use Rattle.std.specs.List.{list_any, All}
use Rattle.std.specs.String.{string_bytes}
use Rattle.semver_base.specs.PrecedenceLaws.{le_le, le_less, le_turned, less_le}
use Rattle.semver_base.specs.Scans.{bytes_cmp, is_nonempty, lies, is_before, lies_in, ScansAreSorted}
use Rattle.semver_base.specs.declared.range.scans.Scan.{Scan}
use Rattle.semver_base.specs.declared.range.scans.Span.{Span}
use Rattle.semver_base.proofs.Cuts.{not_less_ge, or_first, or_second}

less : (r : Ordering) → is_lt r ≡ true → r ≡ Less
less Less h = refl
less Equal h = cc h
less Greater h = cc h

at_or_below : (a b : List ℕ) → is_lt (bytes_cmp a b) ≡ false → is_le (bytes_cmp b a) ≡ true
at_or_below a b h = le_turned nat_list_cmp_total a b (not_less_ge (bytes_cmp a b) h)

below_le : (a b c : List ℕ) → is_lt (bytes_cmp a b) ≡ true → is_le (bytes_cmp b c) ≡ true → is_lt (bytes_cmp a c) ≡ true
below_le a b c h k = ap is_lt (less_le nat_list_cmp_total a b c (less (bytes_cmp a b) h) k)

le_below : (a b c : List ℕ) → is_le (bytes_cmp a b) ≡ true → is_lt (bytes_cmp b c) ≡ true → is_lt (bytes_cmp a c) ≡ true
le_below a b c h k = ap is_lt (le_less nat_list_cmp_total a b c h (less (bytes_cmp b c) k))

lt_le : (r : Ordering) → is_lt r ≡ true → is_le r ≡ true
lt_le Less h = refl
lt_le Equal h = refl
lt_le Greater h = cc h

-- no key lies between two strings of which the first isn't below the second
pub none_lies : (low high key : List ℕ) → is_lt (bytes_cmp low high) ≡ false → lies low high key ≡ false
none_lies low high key empty = go (is_le (bytes_cmp low key)) (is_lt (bytes_cmp key high)) refl refl
  where
    go : (a b : Bool) → is_le (bytes_cmp low key) ≡ a → is_lt (bytes_cmp key high) ≡ b → (a && b) ≡ false
    go true true h k = let own = le_below low key high h k in cc (own, empty)
    go true false h k = refl
    go false b h k = refl

-- ---- the merged keys

abbrev pub IsFull : Span → Type 0
IsFull s = is_nonempty s ≡ true

abbrev pub IsOfKind : Bool → Scan → Type 0
IsOfKind is_pre s = s.is_pre ≡ is_pre

abbrev pub larger : List ℕ → List ℕ → List ℕ
larger a b = if is_lt (bytes_cmp a b) then b else a

-- each pair of strings that the spans come to, behind the pair that is still open
abbrev pub merge_keys : List ℕ → List ℕ → List Span → List (List ℕ × List ℕ)
merge_keys low high [] = (low, high) ∷ []
merge_keys low high (s ∷ ss) =
    if is_le (bytes_cmp (string_bytes s.low) high) then merge_keys low (larger high (string_bytes s.high)) ss
    else (low, high) ∷ merge_keys (string_bytes s.low) (string_bytes s.high) ss

abbrev pub keys_of : Scan → List ℕ × List ℕ
keys_of s = (string_bytes s.low, string_bytes s.high)

-- each begins at or above the one before it
abbrev Rises : List ℕ → List Span → Type 0
Rises low [] = Unit {0}
Rises low (s ∷ ss) = (is_le (bytes_cmp low (string_bytes s.low)) ≡ true) × Rises (string_bytes s.low) ss

rises_lower : (low next : List ℕ) (ss : List Span) → is_le (bytes_cmp low next) ≡ true → Rises next ss → Rises low ss
rises_lower low next [] h k = tt
rises_lower low next (s ∷ ss) h k = (le_le nat_list_cmp_total low next (string_bytes s.low) h k.0, k.1)

below_larger : (key a b : List ℕ) → is_lt (bytes_cmp key (larger a b)) ≡ (is_lt (bytes_cmp key a) || is_lt (bytes_cmp key b))
below_larger key a b = go (is_lt (bytes_cmp a b)) refl
  where
    go : (t : Bool) → is_lt (bytes_cmp a b) ≡ t → is_lt (bytes_cmp key (if t then b else a)) ≡ (is_lt (bytes_cmp key a) || is_lt (bytes_cmp key b))
    go true e = or_second _ _ (λ h. below_le key a b h (lt_le (bytes_cmp a b) e))
    go false e = or_first _ _ (λ h. below_le key b a h (at_or_below a b e))

one_more : (a b c d r : Bool) → (c ≡ true → a ≡ true) → (b ≡ false → c ≡ true) → ((a && (b || d)) || r) ≡ ((a && b) || ((c && d) || r))
one_more true true c d r h k = refl
one_more false true true d r h k = let own = h refl in cc own
one_more false true false d r h k = refl
one_more true false true d r h k = refl
one_more false false true d r h k = let own = h refl in cc own
one_more a false false d r h k = let own = k refl in cc own

merge_holds : (key low high : List ℕ) (ss : List Span) → Rises low ss → list_any (λ (p : List ℕ × List ℕ). lies p.0 p.1 key) (merge_keys low high ss) ≡ (lies low high key || list_any (lies_in key) ss)
merge_holds key low high [] up = refl
merge_holds key low high (s ∷ ss) up =
    go (is_le (bytes_cmp (string_bytes s.low) high)) refl
    (merge_holds key low (larger high (string_bytes s.high)) ss (rises_lower low (string_bytes s.low) ss up.0 up.1))
    (merge_holds key (string_bytes s.low) (string_bytes s.high) ss up.1)
  where
    go : (t : Bool) → is_le (bytes_cmp (string_bytes s.low) high) ≡ t
        → list_any (λ (p : List ℕ × List ℕ). lies p.0 p.1 key) (merge_keys low (larger high (string_bytes s.high)) ss) ≡ (lies low (larger high (string_bytes s.high)) key || list_any (lies_in key) ss)
        → list_any (λ (p : List ℕ × List ℕ). lies p.0 p.1 key) (merge_keys (string_bytes s.low) (string_bytes s.high) ss) ≡ (lies_in key s || list_any (lies_in key) ss)
        → list_any (λ (p : List ℕ × List ℕ). lies p.0 p.1 key) (if t then merge_keys low (larger high (string_bytes s.high)) ss else (low, high) ∷ merge_keys (string_bytes s.low) (string_bytes s.high) ss)
        ≡ (lies low high key || (lies_in key s || list_any (lies_in key) ss))
    go true e joined others =
        joined ∙ ap (λ (b : Bool). (is_le (bytes_cmp low key) && b) || list_any (lies_in key) ss) (below_larger key high (string_bytes s.high))
        ∙ one_more (is_le (bytes_cmp low key)) (is_lt (bytes_cmp key high)) (is_le (bytes_cmp (string_bytes s.low) key)) (is_lt (bytes_cmp key (string_bytes s.high))) (list_any (lies_in key) ss)
        (le_le nat_list_cmp_total low (string_bytes s.low) key up.0)
        (λ under. le_le nat_list_cmp_total (string_bytes s.low) high key e (at_or_below key high under))
    go false e joined others = ap (λ (b : Bool). lies low high key || b) others

-- ---- the gaps between them

abbrev IsAbove : List ℕ → List (List ℕ × List ℕ) → Type 0
IsAbove high [] = Unit {0}
IsAbove high (p ∷ ps) = is_lt (bytes_cmp high p.0) ≡ true

abbrev Apart : List (List ℕ × List ℕ) → Type 0
Apart [] = Unit {0}
Apart (p ∷ ps) = (is_lt (bytes_cmp p.0 p.1) ≡ true) × (IsAbove p.1 ps × Apart ps)

merge_above : (end low high : List ℕ) (ss : List Span) → is_lt (bytes_cmp end low) ≡ true → IsAbove end (merge_keys low high ss)
merge_above end low high [] h = h
merge_above end low high (s ∷ ss) h = go (is_le (bytes_cmp (string_bytes s.low) high)) (merge_above end low (larger high (string_bytes s.high)) ss h)
  where
    go : (t : Bool) → IsAbove end (merge_keys low (larger high (string_bytes s.high)) ss)
        → IsAbove end (if t then merge_keys low (larger high (string_bytes s.high)) ss else (low, high) ∷ merge_keys (string_bytes s.low) (string_bytes s.high) ss)
    go true joined = joined
    go false joined = h

below_grown : (low a b : List ℕ) → is_lt (bytes_cmp low a) ≡ true → is_lt (bytes_cmp low (larger a b)) ≡ true
below_grown low a b h = below_larger low a b ∙ ap (λ (x : Bool). x || is_lt (bytes_cmp low b)) h

not_le_above : (r : Ordering) → is_le r ≡ false → r ≡ Greater
not_le_above Less h = cc h
not_le_above Equal h = cc h
not_le_above Greater h = refl

above : (a b : List ℕ) → is_le (bytes_cmp b a) ≡ false → is_lt (bytes_cmp a b) ≡ true
above a b h = rw (nat_list_cmp_total.antisymm a b, not_le_above (bytes_cmp b a) h) refl

merge_apart : (low high : List ℕ) (ss : List Span) → is_lt (bytes_cmp low high) ≡ true → All IsFull ss → Apart (merge_keys low high ss)
merge_apart low high [] h each = (h, (tt, tt))
merge_apart low high (s ∷ ss) h each =
    go (is_le (bytes_cmp (string_bytes s.low) high)) refl (merge_apart low (larger high (string_bytes s.high)) ss (below_grown low high (string_bytes s.high) h) (All-tail IsFull s ss each))
    (merge_apart (string_bytes s.low) (string_bytes s.high) ss (All-head IsFull s ss each) (All-tail IsFull s ss each))
  where
    go : (t : Bool) → is_le (bytes_cmp (string_bytes s.low) high) ≡ t → Apart (merge_keys low (larger high (string_bytes s.high)) ss) → Apart (merge_keys (string_bytes s.low) (string_bytes s.high) ss)
        → Apart (if t then merge_keys low (larger high (string_bytes s.high)) ss else (low, high) ∷ merge_keys (string_bytes s.low) (string_bytes s.high) ss)
    go true e joined others = joined
    go false e joined others = (h, (merge_above high (string_bytes s.low) (string_bytes s.high) ss (above high (string_bytes s.low) e), others))

-- ---- what a loop over sorted spans comes to

abbrev pub begins_first : Span → Span → Bool
begins_first a b = is_lt (bytes_cmp (string_bytes a.low) (string_bytes b.low))

pub beginnings_rank : IsStrictWeakOrder begins_first
beginnings_rank = ranks_by nat_list_cmp_total (λ (s : Span). string_bytes s.low)

sorted_rises : (s : Span) (ss : List Span) → IsSortedBy begins_first (s ∷ ss) → Rises (string_bytes s.low) ss
sorted_rises s [] h = tt
sorted_rises s (t ∷ ts) h = (at_or_below (string_bytes t.low) (string_bytes s.low) (h 0 s (omega arith) (omega arith)), sorted_rises t ts rest)
  where
    rest : IsSortedBy begins_first (t ∷ ts)
    rest k d low more =
        let next : suc k + 1 ≡ suc (k + 1) = omega arith in
        rw next at (h (suc k) d (omega arith) (omega (arith, more)))

any_keys : (key : List ℕ) (scans : List Scan) → list_any (λ (s : Scan). lies (string_bytes s.low) (string_bytes s.high) key) scans ≡ list_any (λ (p : List ℕ × List ℕ). lies p.0 p.1 key) (map keys_of scans)
any_keys key [] = refl
any_keys key (s ∷ ss) = ap (λ (b : Bool). lies (string_bytes s.low) (string_bytes s.high) key || b) (any_keys key ss)

one_kind : (is_pre : Bool) (r : Ordering) → is_before is_pre is_pre r ≡ is_lt r
one_kind true r = refl
one_kind false r = refl

apart_sorted : (is_pre : Bool) (scans : List Scan) → All (IsOfKind is_pre) scans → Apart (map keys_of scans) → ScansAreSorted scans
apart_sorted is_pre [] kind h = tt
apart_sorted is_pre (s ∷ []) kind h = (h.0, (tt, tt))
apart_sorted is_pre (s ∷ (t ∷ ts)) kind h =
    let others = All-tail (IsOfKind is_pre) s (t ∷ ts) kind in (
      h.0,
      (next s t (All-head (IsOfKind is_pre) s (t ∷ ts) kind) (All-head (IsOfKind is_pre) t ts others) h.1.0, apart_sorted is_pre (t ∷ ts) others h.1.1),
    )
  where
    next : (s t : Scan) → s.is_pre ≡ is_pre → t.is_pre ≡ is_pre → is_lt (bytes_cmp (string_bytes s.high) (string_bytes t.low)) ≡ true → is_before s.is_pre t.is_pre (bytes_cmp (string_bytes s.high) (string_bytes t.low)) ≡ true
    next s t e f h = rw (e, f, one_kind is_pre (bytes_cmp (string_bytes s.high) (string_bytes t.low))) h

pub record IsMerged (is_pre : Bool) (spans : List Span) (scans : List Scan) : Type 0 where
  pub holds : (key : List ℕ) → list_any (λ (s : Scan). lies (string_bytes s.low) (string_bytes s.high) key) scans ≡ list_any (lies_in key) spans
  pub sorted : ScansAreSorted scans

-- the scans of spans that were sorted, and then merged from the first on
pub merged_are : (is_pre : Bool) (spans : List Span) (s : Span) (ss : List Span) (scans : List Scan) → IsPermutation spans (s ∷ ss) → IsSortedBy begins_first (s ∷ ss)
    → All IsFull spans → All (IsOfKind is_pre) scans → map keys_of scans ≡ merge_keys (string_bytes s.low) (string_bytes s.high) ss
    → IsMerged is_pre spans scans
merged_are is_pre spans s ss scans moved up each kind made =
    let full : All IsFull (s ∷ ss) = All-permutation IsFull spans (s ∷ ss) moved each in
    record {
      holds = λ key. any_keys key scans ∙ ap (list_any (λ (p : List ℕ × List ℕ). lies p.0 p.1 key)) made ∙ merge_holds key (string_bytes s.low) (string_bytes s.high) ss (sorted_rises s ss up)
          ∙ sym (list_any-IsPermutation (lies_in key) spans (s ∷ ss) moved);
      sorted = apart_sorted is_pre scans kind (subst Apart (sym made) (merge_apart (string_bytes s.low) (string_bytes s.high) ss (All-head IsFull s ss full) (All-tail IsFull s ss full)));
    }

-- ---- one more span

module _ (xs : List Span) (i : ℕ) (s : Span) (inside : i < length xs) (at : s ≡ get_or xs i s) (target done : List (List ℕ × List ℕ)) (low high : List ℕ) (before : done ++ merge_keys low high (drop i xs) ≡ target) where
  split : done ++ merge_keys low high (s ∷ drop (i + 1) xs) ≡ target
  split = ap (λ (t : Span). done ++ merge_keys low high (t ∷ drop (i + 1) xs)) at ∙ ap (λ (ss : List Span). done ++ merge_keys low high ss) (sym (drop_more xs i s inside)) ∙ before

  pub grows : is_le (bytes_cmp (string_bytes s.low) high) ≡ true → is_lt (bytes_cmp high (string_bytes s.high)) ≡ true → done ++ merge_keys low (string_bytes s.high) (drop (i + 1) xs) ≡ target
  grows e f = rw (e, f) at split

  pub stays : is_le (bytes_cmp (string_bytes s.low) high) ≡ true → is_lt (bytes_cmp high (string_bytes s.high)) ≡ false → done ++ merge_keys low high (drop (i + 1) xs) ≡ target
  stays e f = rw (e, f) at split

  pub starts : is_le (bytes_cmp (string_bytes s.low) high) ≡ false → (done ++ (low, high) ∷ []) ++ merge_keys (string_bytes s.low) (string_bytes s.high) (drop (i + 1) xs) ≡ target
  starts e = append_assoc done ((low, high) ∷ []) (merge_keys (string_bytes s.low) (string_bytes s.high) (drop (i + 1) xs)) ∙ rw e at split

-- one more scan
pub listed : (done : List Scan) (s : Scan) (low high : List ℕ) → string_bytes s.low ≡ low → string_bytes s.high ≡ high → map keys_of (done ++ s ∷ []) ≡ map keys_of done ++ (low, high) ∷ []
listed done s low high e f = map-append keys_of done (s ∷ []) ∙ rw (← e, ← f) refl
