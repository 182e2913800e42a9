-- Overlap is symmetric, and two ranges that both include a version overlap.
use Rattle.std.proofs.Common.{◌≡◌, ◌&&◌, ◌||◌, List, [], ◌∷◌, Bool, true, false, refl, ap, ◌∙◌, inl, inr, Less, Greater}
use Rattle.std.proofs.lemmas.Bool.{and_from, and_parts, cases_Bool, or_cases, or_left, or_right}
use Rattle.std.specs.Bool.{OnFalse}
use Rattle.std.specs.List.{list_any}
use Rattle.std.specs.Ordering.{is_lt}
use Rattle.semver_base.specs.Meaning.{alternative_means_with, alternatives, bounds_hold, end_holds, is_above, is_below, start_holds, tree_means_with, any_alternatives}
use Rattle.semver_base.specs.Overlap.{lies_within, overlap, some_overlap, starts_before, HoldNothingTogether, MatchNothingTogether}
use Rattle.semver_base.specs.Precedence.{precedence_cmp}
use Rattle.semver_base.specs.PrecedenceLaws.{precedence_total, turned, le_less, less_le, le_le, le_turned}
use Rattle.semver_base.specs.declared.version.Version.{Version}
use Rattle.semver_base.specs.declared.range.PreRelease.{PreRelease}
use Rattle.semver_base.specs.declared.range.RangeBound.{RangeBound}
use Rattle.semver_base.specs.declared.range.RangeBound.TheVariants as bound
use Rattle.semver_base.specs.declared.range.VersionBoundKind.{VersionBoundKind}
use Rattle.semver_base.specs.declared.range.VersionBoundKind.TheVariants as kind
use Rattle.semver_base.specs.declared.range.VersionRange.{VersionRange}
use Rattle.std.proofs.Math.Bool.{and_comm}
use Rattle.semver_base.specs.OrderLaws.{greater_from, less_from}
use Rattle.semver_base.specs.ClampLaws.{below_le}

-- ---- ranges

-- a start and an end that include one version
held_between : (k l : VersionBoundKind) (x y v : Version) → is_above k (precedence_cmp v x) ≡ true → is_below l (precedence_cmp v y) ≡ true → lies_within k l (precedence_cmp x y) ≡ true
held_between kind.Exclusive l x y v h e =
    let above : precedence_cmp x v ≡ Less = turned precedence_total v x Greater (greater_from _ h) in
    ap is_lt (less_le precedence_total x v y above (below_le l _ e))
held_between kind.Inclusive kind.Inclusive x y v h e = le_le precedence_total x v y (le_turned precedence_total v x h) e
held_between kind.Inclusive kind.Exclusive x y v h e = ap is_lt (le_less precedence_total x v y (le_turned precedence_total v x h) (less_from _ e))

held_by : (s e : RangeBound) (v : Version) → start_holds s v ≡ true → end_holds e v ≡ true → starts_before s e ≡ true
held_by bound.Unbounded e v h k = refl
held_by (bound.Version x) bound.Unbounded v h k = refl
held_by (bound.Version x) (bound.Version y) v h k = held_between x.kind y.kind x.version y.version v h k

-- two ranges that include one version overlap
held_overlap : (a b : VersionRange) (v : Version) → bounds_hold a v ≡ true → bounds_hold b v ≡ true → overlap a b ≡ true
held_overlap a b v h k = and_from (starts_before a.start b.end) (starts_before b.start a.end)
    (held_by a.start b.end v (and_parts _ _ h).0 (and_parts _ _ k).1)
    (held_by b.start a.end v (and_parts _ _ k).0 (and_parts _ _ h).1)

-- ranges that don't overlap include nothing together
pub range_no_common : (result : Bool) (a b : VersionRange) → result ≡ overlap a b → OnFalse result (HoldNothingTogether a b)
range_no_common true a b e = tt
range_no_common false a b e = λ v. elim (cases_Bool (bounds_hold a v && bounds_hold b v)) [
  | inl both ↦ let over : overlap a b ≡ true = held_overlap a b v (and_parts (bounds_hold a v) _ both).0 (and_parts _ (bounds_hold b v) both).1 in cc
  | inr none ↦ none
]

-- ---- sets

overlap_swap : (a b : VersionRange) → overlap a b ≡ overlap b a
overlap_swap a b = and_comm (starts_before a.start b.end) (starts_before b.start a.end)

any_none : {X : Type 0} (xs : List X) → false ≡ list_any (λ (x : X). false) xs
any_none [] = refl
any_none (x ∷ xs) = any_none xs

or_grouped : (a b c d : Bool) → ((a || b) || (c || d)) ≡ ((a || c) || (b || d))
or_grouped true b c d = refl
or_grouped false true true d = refl
or_grouped false true false d = refl
or_grouped false false c d = refl

any_or : {X : Type 0} (p q : X → Bool) (xs : List X) → (list_any p xs || list_any q xs) ≡ list_any (λ x. p x || q x) xs
any_or p q [] = refl
any_or p q (x ∷ xs) = or_grouped (p x) (list_any p xs) (q x) (list_any q xs) ∙ ap (λ (b : Bool). (p x || q x) || b) (any_or p q xs)

-- some pair, in either order
any_swap : {X Y : Type 0} (test : X → Y → Bool) (xs : List X) (ys : List Y)
    → list_any (λ x. list_any (λ y. test x y) ys) xs ≡ list_any (λ y. list_any (λ x. test x y) xs) ys
any_swap test [] ys = any_none ys
any_swap test (x ∷ xs) ys = ap (λ (b : Bool). list_any (λ y. test x y) ys || b) (any_swap test xs ys) ∙ any_or (λ y. test x y) (λ y. list_any (λ z. test z y) xs) ys

pub some_overlap_swap : (some others : List VersionRange) → some_overlap some others ≡ some_overlap others some
some_overlap_swap some others = any_swap overlap some others
    ∙ ap (λ (test : VersionRange → VersionRange → Bool). list_any (λ b. list_any (λ a. test b a) some) others) (λ i b a. overlap_swap a b i)

any_from : {X : Type 0} (p q : X → Bool) → ((x : X) → p x ≡ true → q x ≡ true) → (xs : List X) → list_any p xs ≡ true → list_any q xs ≡ true
any_from p q passes [] h = cc h
any_from p q passes (x ∷ xs) h = elim (or_cases (p x) (list_any p xs) h) [
  | inl here ↦ or_left _ _ (passes x here)
  | inr later ↦ or_right (q x) _ (any_from p q passes xs later)
]

matches_held : (flag : PreRelease) (range : VersionRange) (v : Version) → alternative_means_with flag (range ∷ []) v ≡ true → bounds_hold range v ≡ true
matches_held flag range v h = (and_parts _ true (and_parts (bounds_hold range v && true) _ h).0).0

-- two sets that match one version have ranges that overlap
matched_overlap : (flag : PreRelease) (some others : List VersionRange) (v : Version)
    → tree_means_with flag (alternatives some) v ≡ true → tree_means_with flag (alternatives others) v ≡ true → some_overlap some others ≡ true
matched_overlap flag some others v h k =
    any_from (λ a. alternative_means_with flag (a ∷ []) v) (λ a. list_any (λ b. overlap a b) others)
    (λ a first. any_from (λ b. alternative_means_with flag (b ∷ []) v) (λ b. overlap a b)
    (λ b second. held_overlap a b v (matches_held flag a v first) (matches_held flag b v second)) others (any_alternatives flag others v ∙ k))
    some (any_alternatives flag some v ∙ h)

-- sets that don't overlap match nothing together
pub set_no_common : (result : Bool) (some others : List VersionRange) → result ≡ some_overlap some others → OnFalse result (MatchNothingTogether some others)
set_no_common true some others e = tt
set_no_common false some others e = λ flag v. elim (cases_Bool (tree_means_with flag (alternatives some) v && tree_means_with flag (alternatives others) v)) [
  | inl both ↦ let over : some_overlap some others ≡ true = matched_overlap flag some others v (and_parts (tree_means_with flag (alternatives some) v) _ both).0 (and_parts _ (tree_means_with flag (alternatives others) v) both).1 in cc
  | inr none ↦ none
]

-- ---- an end at 0.0.0
