-- Comparisons in a row, tests that follow from one another, and what lies between two pre-releases of the same three numbers.
use Rattle.std.proofs.Common.{◌≡◌, ◌&&◌, Bool, true, false, refl, Ordering, Less, Equal, Greater, ◌==◌, ◌≤◌, ◌<◌, ℕ, List, arith, length, not, sym, ◌∙◌, is_le, nat_cmp}
use Rattle.std.specs.Ordering.{MatchOrdering, is_gt, is_le, is_lt, ordering_then}
use Rattle.std.proofs.lemmas.Cmp.{nat_cmp_total, ranked, tied_itself}
use Rattle.std.proofs.lemmas.Bool.{and_parts, eq-eqb, eqb-true}
use Rattle.std.proofs.lemmas.Map.Keys.{le_from_is_le}
use native.Mathlib.Nat.{le_antisymm, not-suc-le-zero}
use Rattle.semver_base.specs.Meaning.{bound_at, has_pre_of, is_release}
use Rattle.semver_base.specs.Precedence.{precedence_cmp, release_rank}
use Rattle.semver_base.specs.declared.version.Version.{Version}
use Rattle.semver_base.specs.declared.range.VersionBoundKind.TheVariants as kind

-- ---- tests

-- a test that another implies adds nothing to it
pub implied_first : (a b : Bool) → (b ≡ true → a ≡ true) → b ≡ (a && b)
implied_first a true h = rw (h refl) refl
implied_first true false h = refl
implied_first false false h = refl

pub implied_second : (a b : Bool) → (a ≡ true → b ≡ true) → a ≡ (a && b)
implied_second true b h = rw (h refl) refl
implied_second false b h = refl

-- two tests of which one excludes the other
pub never_both : (a b : Bool) → (a ≡ true → b ≡ false) → (a && b) ≡ false
never_both true b h = h refl
never_both false b h = refl

-- what has to be compared only if the first test holds
pub same_where : (a b c d : Bool) → a ≡ c → (c ≡ true → b ≡ d) → (a && b) ≡ (c && d)
same_where true b true d e h = h refl
same_where true b false d e h = cc e
same_where false b true d e h = cc e
same_where false b false d e h = refl

-- ---- a total order

pub greater_from : (r : Ordering) → is_gt r ≡ true → r ≡ Greater
greater_from Less h = cc h
greater_from Equal h = cc h
greater_from Greater h = refl

pub less_from : (r : Ordering) → is_lt r ≡ true → r ≡ Less
less_from Less h = refl
less_from Equal h = cc h
less_from Greater h = cc h

-- ---- numbers, and comparisons in a row

pub nat_le_cmp : (m n : ℕ) → m ≤ n → is_le (nat_cmp m n) ≡ true
nat_le_cmp m n h = go (nat_cmp m n) (ranked m n (nat_cmp m n) refl)
  where
    go : (r : Ordering) → MatchOrdering r (m < n) (m ≡ n) (n < m) → is_le r ≡ true
    go Less k = refl
    go Equal k = refl
    go Greater k = absurd (omega (arith, h, k))

pub le_then : (r s : Ordering) → is_le r ≡ true → (r ≡ Equal → is_le s ≡ true) → is_le (ordering_then r s) ≡ true
le_then Less s h k = refl
le_then Equal s h k = k refl
le_then Greater s h k = cc h

pub le_then_first : (r s : Ordering) → is_le (ordering_then r s) ≡ true → is_le r ≡ true
le_then_first Less s h = refl
le_then_first Equal s h = refl
le_then_first Greater s h = cc h

pub le_then_second : (r s : Ordering) → r ≡ Equal → is_le (ordering_then r s) ≡ true → is_le s ≡ true
le_then_second Less s e h = cc e
le_then_second Equal s e h = h
le_then_second Greater s e h = cc h

-- ---- what lies between two pre-releases of the same three numbers

-- the same three numbers
pub record SameNumbers (x y : Version) : Type 0 where
  pub major : x.major ≡ y.major
  pub minor : x.minor ≡ y.minor
  pub patch : x.patch ≡ y.patch

number_between : (a b c : ℕ) → a ≡ c → is_le (nat_cmp a b) ≡ true → is_le (nat_cmp b c) ≡ true → a ≡ b
number_between a b c e lower upper = le_antisymm (le_from_is_le a b lower) (rw (← e) at (le_from_is_le b c upper))

tied_numbers : (a b : ℕ) → a ≡ b → nat_cmp a b ≡ Equal
tied_numbers a b e = rw e (tied_itself nat_cmp_total b)

below_pre : (xs ys : List (List ℕ)) → is_le (nat_cmp (release_rank xs) (release_rank ys)) ≡ true → (length ys == 0) ≡ false → (length xs == 0) ≡ false
below_pre xs ys h pre = go (length xs == 0) refl
  where
    go : (b : Bool) → (length xs == 0) ≡ b → b ≡ false
    go false e = refl
    go true e = let low : 1 ≤ 0 = le_from_is_le 1 0 (rw (e, pre) at h) in absurd (not-suc-le-zero low)

-- what lies between two versions of three numbers, the upper a pre-release, is a pre-release of them
between : (low x high : Version) → SameNumbers low high → (length high.pre == 0) ≡ false
    → is_le (precedence_cmp low x) ≡ true → is_le (precedence_cmp x high) ≡ true → SameNumbers low x × ((length x.pre == 0) ≡ false)
between low x high same pre lower upper =
    let major : low.major ≡ x.major = number_between low.major x.major high.major same.major (le_then_first _ _ lower) (le_then_first _ _ upper) in
    let lower1 = le_then_second (nat_cmp low.major x.major) _ (tied_numbers _ _ major) lower in
    let upper1 = le_then_second (nat_cmp x.major high.major) _ (tied_numbers _ _ (sym major ∙ same.major)) upper in
    let minor : low.minor ≡ x.minor = number_between low.minor x.minor high.minor same.minor (le_then_first _ _ lower1) (le_then_first _ _ upper1) in
    let lower2 = le_then_second (nat_cmp low.minor x.minor) _ (tied_numbers _ _ minor) lower1 in
    let upper2 = le_then_second (nat_cmp x.minor high.minor) _ (tied_numbers _ _ (sym minor ∙ same.minor)) upper1 in
    let patch : low.patch ≡ x.patch = number_between low.patch x.patch high.patch same.patch (le_then_first _ _ lower2) (le_then_first _ _ upper2) in
    let upper3 = le_then_second (nat_cmp x.patch high.patch) _ (tied_numbers _ _ (sym patch ∙ same.patch)) upper2 in
    (record { major = major; minor = minor; patch = patch }, below_pre x.pre high.pre (le_then_first _ _ upper3) pre)

-- the bound's version is a pre-release of the version's three numbers
abbrev pub is_pre_of : Version → Version → Bool
is_pre_of x v = has_pre_of (bound_at kind.Inclusive x) v

pub not_true : (a : Bool) → not a ≡ true → a ≡ false
not_true false e = refl
not_true true e = cc e

pub pre_numbers : (x v : Version) → is_pre_of x v ≡ true → SameNumbers x v
pre_numbers x v h =
    let rest = (and_parts _ _ h).1 in
    let rest1 = (and_parts _ _ rest).1 in
    record {
      major = eqb-true _ _ (and_parts _ _ rest).0;
      minor = eqb-true _ _ (and_parts _ _ rest1).0;
      patch = eqb-true _ _ (and_parts _ _ rest1).1;
    }

pub pre_some : (x v : Version) → is_pre_of x v ≡ true → (length x.pre == 0) ≡ false
pre_some x v h = not_true (length x.pre == 0) (and_parts _ _ h).0

pub pre_from : (x v : Version) → SameNumbers x v → (length x.pre == 0) ≡ false → is_pre_of x v ≡ true
pre_from x v same pre = rw (pre, eq-eqb x.major v.major same.major, eq-eqb x.minor v.minor same.minor, eq-eqb x.patch v.patch same.patch) refl

pub same_back : (x y : Version) → SameNumbers x y → SameNumbers y x
same_back x y h = record { major = sym h.major; minor = sym h.minor; patch = sym h.patch }

pub same_on : (x y z : Version) → SameNumbers x y → SameNumbers y z → SameNumbers x z
same_on x y z h k = record { major = h.major ∙ k.major; minor = h.minor ∙ k.minor; patch = h.patch ∙ k.patch }

-- a version between a start that admits the pre-release v and v itself admits v
pub start_between : (x y v : Version) → is_release v ≡ false → is_pre_of x v ≡ true → is_le (precedence_cmp x y) ≡ true → is_le (precedence_cmp y v) ≡ true → is_pre_of y v ≡ true
start_between x y v pre h lower upper =
    let same = pre_numbers x v h in
    let found = between x y v same pre lower upper in
    pre_from y v (same_on y x v (same_back x y found.0) same) found.1

-- a version between v and an end that admits it admits it
pub end_between : (x y v : Version) → is_pre_of x v ≡ true → is_le (precedence_cmp v y) ≡ true → is_le (precedence_cmp y x) ≡ true → is_pre_of y v ≡ true
end_between x y v h lower upper =
    let found = between v y x (same_back x v (pre_numbers x v h)) (pre_some x v h) lower upper in
    pre_from y v (same_back v y found.0) found.1
