-- Requirements with the same ranges in any order match the same versions, and so have one lowest version.
use Rattle.std.proofs.Common.{◌≡◌, ◌&&◌, Bool, true, false, List, [], ◌∷◌, map, not, Option, Result, Ok, Err, refl, sym, ap, ap₂, subst, ◌∙◌, ◌||◌, IfOk, IfSome, IsPermutation}
use Rattle.std.specs.List.{list_all, list_any}
use Rattle.std.proofs.Math.Path.{fun_ext}
use Rattle.std.proofs.lemmas.List.Sorted.{list_any-IsPermutation}
use Rattle.semver_base.specs.LowestVersion.{HasNoBuild, IsLowestPassing, IsOnlyLowest, ReadVersionsAreReadable}
use Rattle.semver_base.specs.Meaning.{range_means_with, set_means_with, any_alternatives}
use Rattle.semver_base.specs.NormalText.{AreWritableRanges}
use Rattle.semver_base.specs.VersionText.{ReadsBack}
use Rattle.semver_base.specs.declared.range.PreRelease.{PreRelease}
use Rattle.semver_base.specs.declared.range.VersionRangeSet.{VersionRangeSet}
use Rattle.semver_base.specs.declared.version.Version.{Version}
use Rattle.semver_req.proofs.OnlyLowest.{only_lowest}
use Rattle.semver_req.specs.AnyOrder.{AllInAnyOrder, AreEachReordered, AreReordered, BothInAnyOrder, InAnyOrder, IsReordered}
use Rattle.semver_req.specs.Parsers.{AreReadOrTags, IsReadOrTag}
use Rattle.semver_req.specs.Requirement.{Requirement, all_inners_mean_with, inner_means_with}
use Rattle.semver_req.specs.declared.range_set_or_tag.RangeSetOrTag.{RangeSetOrTag}
use Rattle.semver_req.specs.declared.range_set_or_tag.RangeSetOrTag.TheVariants as inner
use Rattle.semver_req.proofs.ReadSets.{read_writable}

reordered_means : (flag : PreRelease) (one same : RangeSetOrTag) → IsReordered one same → (v : Version) → inner_means_with flag same v ≡ inner_means_with flag one v
reordered_means flag (inner.RangeSet set) (inner.RangeSet other) moved v =
    sym (any_alternatives flag other.0 v) ∙ sym (list_any-IsPermutation (λ range. range_means_with flag range v) set.0 other.0 moved) ∙ any_alternatives flag set.0 v
reordered_means flag (inner.Tag text) (inner.Tag other) moved v = refl
reordered_means flag (inner.RangeSet set) (inner.Tag other) moved v = absurd moved
reordered_means flag (inner.Tag text) (inner.RangeSet other) moved v = absurd moved

-- all pass if none fails
none_fails : {X : Type 0} (p : X → Bool) (xs : List X) → list_all p xs ≡ not (list_any (λ x. not (p x)) xs)
none_fails p [] = refl
none_fails p (x ∷ xs) = ap (λ (b : Bool). p x && b) (none_fails p xs) ∙ go (p x) (list_any (λ y. not (p y)) xs)
  where
    go : (a b : Bool) → (a && not b) ≡ not (not a || b)
    go true b = refl
    go false b = refl

all_moved : {X : Type 0} (p : X → Bool) (xs ys : List X) → IsPermutation xs ys → list_all p xs ≡ list_all p ys
all_moved p xs ys moved = none_fails p xs ∙ ap not (list_any-IsPermutation (λ x. not (p x)) xs ys moved) ∙ sym (none_fails p ys)

-- what each of them matches
abbrev all_match : PreRelease → List RangeSetOrTag → Version → Bool
all_match flag requirements v = list_all (λ inner. inner_means_with flag inner v) requirements

each_means : (flag : PreRelease) (some others : List RangeSetOrTag) → AreEachReordered some others → (v : Version) → all_match flag others v ≡ all_match flag some v
each_means flag [] [] moved v = refl
each_means flag (one ∷ some) (other ∷ others) moved v = ap₂ (λ (a b : Bool). a && b) (reordered_means flag one other moved.0 v) (each_means flag some others moved.1 v)
each_means flag [] (other ∷ others) moved v = absurd moved
each_means flag (one ∷ some) [] moved v = absurd moved

as_list : (flag : PreRelease) (own : RangeSetOrTag) (others : List Requirement) (v : Version) → all_inners_mean_with flag own others v ≡ all_match flag (own ∷ map (λ (req : Requirement). req.inner) others) v
as_list flag own others v = ap (λ (b : Bool). inner_means_with flag own v && b) (go others)
  where
    go : (reqs : List Requirement) → list_all (λ (req : Requirement). inner_means_with flag req.inner v) reqs ≡ all_match flag (map (λ (req : Requirement). req.inner) reqs) v
    go [] = refl
    go (req ∷ reqs) = ap (λ (b : Bool). inner_means_with flag req.inner v && b) (go reqs)

all_means : (flag : PreRelease) (own same : RangeSetOrTag) (others rest : List Requirement)
    → AreReordered (own ∷ map (λ (req : Requirement). req.inner) others) (same ∷ map (λ (req : Requirement). req.inner) rest)
    → (v : Version) → all_inners_mean_with flag same rest v ≡ all_inners_mean_with flag own others v
all_means flag own same others rest moved v =
    as_list flag same rest v
    ∙ each_means flag moved.moved (same ∷ map (λ (req : Requirement). req.inner) rest) moved.each v
    ∙ sym (all_moved (λ inner. inner_means_with flag inner v) (own ∷ map (λ (req : Requirement). req.inner) others) moved.moved moved.in_order)
    ∙ sym (as_list flag own others v)

-- ---- the results

-- what is the only lowest version of one test is that of an equal one
only_alike : (test same : Version → Bool) (lowest : Option Version) → ((v : Version) → same v ≡ test v) → IsOnlyLowest test lowest → IsOnlyLowest same lowest
only_alike test same lowest alike h = subst (λ (t : Version → Bool). IsOnlyLowest t lowest) (sym (fun_ext alike)) h

-- what is asked of two
abbrev asked : PreRelease → (Bool → Bool → Bool) → RangeSetOrTag → RangeSetOrTag → Version → Bool
asked flag test one other v = test (inner_means_with flag one v) (inner_means_with flag other v)

module _ (readable : ReadVersionsAreReadable) {E : Type 0} (flag : PreRelease) where
  pub own_in_any_order : (one : RangeSetOrTag) (set : VersionRangeSet) (r : Result (Option Version) E) → one ≡ inner.RangeSet set
      → IfOk r (IsLowestPassing (set_means_with flag set.0)) → IfOk r (λ lowest. IfSome lowest HasNoBuild) → IfOk r (λ lowest. AreWritableRanges set.0 → IfSome lowest ReadsBack)
      → IfOk r (λ lowest. IsReadOrTag one → InAnyOrder (inner_means_with flag) one lowest)
  own_in_any_order one set r is h plain back = subst (λ own. IfOk r (λ lowest. IsReadOrTag own → InAnyOrder (inner_means_with flag) own lowest)) (sym is) (go r h plain back)
    where
      go : (r : Result (Option Version) E) → IfOk r (IsLowestPassing (set_means_with flag set.0)) → IfOk r (λ lowest. IfSome lowest HasNoBuild)
          → IfOk r (λ lowest. AreWritableRanges set.0 → IfSome lowest ReadsBack)
          → IfOk r (λ lowest. IsReadOrTag (inner.RangeSet set) → InAnyOrder (inner_means_with flag) (inner.RangeSet set) lowest)
      go (Ok lowest) h plain back = λ read same moved.
          only_alike (set_means_with flag set.0) (inner_means_with flag same) lowest (reordered_means flag (inner.RangeSet set) same moved)
          (only_lowest readable (set_means_with flag set.0) lowest h plain (back (read_writable set.0 read)))
      go (Err e) h plain back = tt

  pub both_in_any_order : (test : Bool → Bool → Bool) (one other : RangeSetOrTag) (set others : VersionRangeSet) (r : Result (Option Version) E)
      → one ≡ inner.RangeSet set → other ≡ inner.RangeSet others
      → IfOk r (IsLowestPassing (λ v. test (set_means_with flag set.0 v) (set_means_with flag others.0 v))) → IfOk r (λ lowest. IfSome lowest HasNoBuild)
      → IfOk r (λ lowest. AreWritableRanges set.0 → AreWritableRanges others.0 → IfSome lowest ReadsBack)
      → IfOk r (λ lowest. IsReadOrTag one → IsReadOrTag other → BothInAnyOrder (asked flag test) one other lowest)
  both_in_any_order test one other set others r is are h plain back =
      subst (λ own. IfOk r (λ lowest. IsReadOrTag own → IsReadOrTag other → BothInAnyOrder (asked flag test) own other lowest)) (sym is)
      (subst (λ rest. IfOk r (λ lowest. IsReadOrTag (inner.RangeSet set) → IsReadOrTag rest → BothInAnyOrder (asked flag test) (inner.RangeSet set) rest lowest)) (sym are) (go r h plain back))
    where
      go : (r : Result (Option Version) E) → IfOk r (IsLowestPassing (λ v. test (set_means_with flag set.0 v) (set_means_with flag others.0 v))) → IfOk r (λ lowest. IfSome lowest HasNoBuild)
          → IfOk r (λ lowest. AreWritableRanges set.0 → AreWritableRanges others.0 → IfSome lowest ReadsBack)
          → IfOk r (λ lowest. IsReadOrTag (inner.RangeSet set) → IsReadOrTag (inner.RangeSet others)
          → BothInAnyOrder (asked flag test) (inner.RangeSet set) (inner.RangeSet others) lowest)
      go (Ok lowest) h plain back = λ own rest same alike moved moved_too.
          only_alike (λ v. test (set_means_with flag set.0 v) (set_means_with flag others.0 v)) (asked flag test same alike) lowest
          (λ v. ap₂ test (reordered_means flag (inner.RangeSet set) same moved v) (reordered_means flag (inner.RangeSet others) alike moved_too v))
          (only_lowest readable (λ v. test (set_means_with flag set.0 v) (set_means_with flag others.0 v)) lowest h plain (back (read_writable set.0 own) (read_writable others.0 rest)))
      go (Err e) h plain back = tt

  pub all_in_any_order : (own : RangeSetOrTag) (others : List Requirement) (r : Result (Option Version) E)
      → IfOk r (IsLowestPassing (all_inners_mean_with flag own others)) → IfOk r (λ lowest. IfSome lowest HasNoBuild)
      → IfOk r (λ lowest. IsReadOrTag own → AreReadOrTags others → IfSome lowest ReadsBack)
      → IfOk r (λ lowest. IsReadOrTag own → AreReadOrTags others → AllInAnyOrder flag own others lowest)
  all_in_any_order own others (Ok lowest) h plain back = λ read reads same rest moved.
      only_alike (all_inners_mean_with flag own others) (all_inners_mean_with flag same rest) lowest (all_means flag own same others rest moved)
      (only_lowest readable (all_inners_mean_with flag own others) lowest h plain (back read reads))
  all_in_any_order own others (Err e) h plain back = tt
