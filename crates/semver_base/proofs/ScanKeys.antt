-- The key of a cut is at or below the sort keys of just those versions that are above the cut.
use Rattle.std.proofs.Common.{◌≡◌, ◌+◌, ◌&&◌, ◌||◌, false, ℕ, not, Bool, List, [], ◌∷◌, ◌++◌, length, refl, sym, ap, ap₂, ◌∙◌, arith, append_assoc, append-nil, decimal, Option, Some, None, is_le, is_lt, Ordering, Less, Equal, Greater}
use Rattle.std.proofs.Math.Bool.{or-false}
use Rattle.std.proofs.lemmas.Fmt.{length-decimal-le}
use Rattle.std.specs.Cmp.{nat_cmp_is}
use Rattle.std.specs.Cmp.Lexicographic.{nat_list_cmp_total}
use Rattle.std.specs.Ordering.{ordering_reverse, ordering_then}
use Rattle.semver_base.specs.Intervals.{is_past, is_within, IsWritableInterval}
use Rattle.semver_base.specs.LowestVersion.{IsReadable}
use Rattle.semver_base.specs.Precedence.{number_of, numbers_cmp, precedence_cmp}
use Rattle.semver_base.specs.Scans.{bytes_cmp, cut_key, lies, numbers_key}
use Rattle.semver_base.specs.SortKey.{identifier_key_of, identifiers_key, number_key, pre_key, sort_key}
use Rattle.semver_base.specs.VersionText.{IsWritable}
use Rattle.semver_base.specs.declared.version.Version.{Version}
use Rattle.semver_base.specs.declared.range.intervals.Interval.{Interval}
use Rattle.semver_base.specs.declared.range.intervals.Place.{Place}
use Rattle.semver_base.specs.declared.range.intervals.Place.TheVariants.{Floor, Before, After, Ceiling, End}
use Rattle.semver_base.proofs.Cuts.{past_after, past_before, past_ceiling, past_end, past_floor, then_greater, then_less}
use Rattle.semver_base.proofs.MergedSpans.{none_lies}
use Rattle.semver_base.proofs.SortKeys.{AreDecided, joined, keys_ordered, number, version}

numbers : (v w : Version) → IsReadable v → IsReadable w → AreDecided (numbers_key v) (numbers_key w) (numbers_cmp v w)
numbers v w h g =
    joined (number v.major w.major h.numbers.major g.numbers.major)
    (joined (number v.minor w.minor h.numbers.minor g.numbers.minor) (number v.patch w.patch h.numbers.patch g.numbers.patch))

grouped : (v : Version) → numbers_key v ++ pre_key v.pre ≡ sort_key v
grouped v = append_assoc (number_key v.major) _ _ ∙ ap (λ t. number_key v.major ++ t) (append_assoc (number_key v.minor) (number_key v.patch) (pre_key v.pre))

-- behind the same numbers, what follows decides
behind : (t v : Version) (rest : List ℕ) → IsReadable t → IsReadable v → bytes_cmp (numbers_key t ++ rest) (sort_key v) ≡ ordering_then (numbers_cmp t v) (bytes_cmp rest (pre_key v.pre))
behind t v rest h g = ap (bytes_cmp (numbers_key t ++ rest)) (sym (grouped v)) ∙ (numbers t v h g).before rest (pre_key v.pre)

identifiers_follow : (n : Option ℕ) (text more : List ℕ) → bytes_cmp [] (identifier_key_of n text ++ more) ≡ Less
identifiers_follow None text more = refl
identifiers_follow (Some n) text more = refl

hyphen_below : (pre : List (List ℕ)) → bytes_cmp (45 ∷ []) (pre_key pre) ≡ Less
hyphen_below [] = refl
hyphen_below (s ∷ p) = identifiers_follow (number_of s) s (identifiers_key p)

tildes_above : (pre : List (List ℕ)) → bytes_cmp (126 ∷ 126 ∷ []) (pre_key pre) ≡ Greater
tildes_above [] = refl
tildes_above (s ∷ p) = refl

marked : (t v : Version) → IsReadable t → IsReadable v → bytes_cmp (sort_key t ++ 33 ∷ []) (sort_key v) ≡ ordering_then (precedence_cmp t v) Greater
marked t v h g = ap (bytes_cmp (sort_key t ++ 33 ∷ [])) (sym (append-nil (sort_key v))) ∙ (version t v h g).before (33 ∷ []) []

tilde_above : (v : Version) → IsReadable v → bytes_cmp (126 ∷ []) (sort_key v) ≡ Greater
tilde_above v h =
    let short = length-decimal-le 20 v.major (omega arith) (omega (arith, h.numbers.major)) h.numbers.major in
    rw (← nat_cmp_is 126 (64 + length (decimal v.major)) Greater (omega (arith, short))) refl

-- the sort key of a version is at or above the key of a cut exactly if the version is above the cut
pub cut_keys : (place : Place) (t v : Version) → IsReadable t → IsReadable v → is_le (bytes_cmp (cut_key place t) (sort_key v)) ≡ is_past place t v
cut_keys Floor t v h g = ap is_le (behind t v (45 ∷ []) h g ∙ ap (ordering_then (numbers_cmp t v)) (hyphen_below v.pre)) ∙ then_less (numbers_cmp t v) ∙ sym (past_floor t v)
cut_keys Before t v h g = ap is_le (keys_ordered t v h g) ∙ sym (past_before t v)
cut_keys After t v h g = ap is_le (marked t v h g) ∙ then_greater (precedence_cmp t v) ∙ sym (past_after t v)
cut_keys Ceiling t v h g = ap is_le (behind t v (126 ∷ 126 ∷ []) h g ∙ ap (ordering_then (numbers_cmp t v)) (tildes_above v.pre)) ∙ then_greater (numbers_cmp t v) ∙ sym (past_ceiling t v)
cut_keys End t v h g = ap is_le (tilde_above v g) ∙ sym (past_end t v)

-- ---- intervals

under_not : (r : Ordering) → is_lt (ordering_reverse r) ≡ not (is_le r)
under_not Less = refl
under_not Equal = refl
under_not Greater = refl

pub readable : (v : Version) → IsWritable v → IsReadable v
readable v h = record { numbers = h.numbers; pre = h.pre }

pub interval_keys : (i : Interval) (v : Version) → IsReadable v → IsWritable i.low.version.now → IsWritable i.high.version.now
    → lies (cut_key i.low.place i.low.version.now) (cut_key i.high.place i.high.version.now) (sort_key v) ≡ is_within i v
interval_keys i v readable_v low high =
    let top = cut_key i.high.place i.high.version.now in
    ap₂ (λ (a b : Bool). a && b) (cut_keys i.low.place i.low.version.now v (readable _ low) readable_v)
    (ap is_lt (nat_list_cmp_total.antisymm (sort_key v) top) ∙ under_not (bytes_cmp top (sort_key v)) ∙ ap not (cut_keys i.high.place i.high.version.now v (readable _ high) readable_v))

-- the keys from the low cut's on and below the high one's
module _ (i : Interval) (low high : List ℕ) (e : low ≡ cut_key i.low.place i.low.version.now) (f : high ≡ cut_key i.high.place i.high.version.now) where
  pub span_holds : (v : Version) → IsReadable v → IsWritableInterval i → (lies low high (sort_key v) || false) ≡ is_within i v
  span_holds v h written = or-false (lies low high (sort_key v)) ∙ rw (e, f) (interval_keys i v h written.0 written.1)

  pub span_none : is_lt (bytes_cmp low high) ≡ false → (v : Version) → IsReadable v → IsWritableInterval i → false ≡ is_within i v
  span_none empty v h written = sym (none_lies low high (sort_key v) empty) ∙ rw (e, f) (interval_keys i v h written.0 written.1)
