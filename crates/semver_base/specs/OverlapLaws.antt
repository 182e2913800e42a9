-- A range that ends at 0.0.0 includes no release.
use Rattle.std.proofs.Common.{◌≡◌, ◌==◌, ◌<◌, ℕ, length, List, [], ◌∷◌, Bool, true, false, refl, sym, Ordering, Less, Equal, Greater}
use Rattle.std.proofs.lemmas.Bool.{and_parts, eqb-true}
use Rattle.std.proofs.lemmas.Cmp.{ranked}
use Rattle.std.proofs.Math.Bool.{and-false}
use Rattle.std.specs.Bool.{OnTrue}
use Rattle.std.specs.Ordering.{is_lt, nat_cmp, ordering_then, MatchOrdering}
use lib.Dec.{eqb-suc-zero}
use native.Mathlib.Nat.{not-suc-le-zero}
use Rattle.semver_base.specs.Meaning.{end_holds, is_below, is_release, start_holds}
use Rattle.semver_base.specs.Overlap.{ends_at_zero, is_exclusive, HoldsNoRelease}
use Rattle.semver_base.specs.Precedence.{precedence_cmp, pre_cmp}
use Rattle.semver_base.specs.declared.version.Version.{Version}
use Rattle.semver_base.specs.declared.range.RangeBound.{RangeBound}
use Rattle.semver_base.specs.declared.range.RangeBound.TheVariants as bound
use Rattle.semver_base.specs.declared.range.VersionBoundKind.{VersionBoundKind}
use Rattle.semver_base.specs.declared.range.VersionBoundKind.TheVariants as kind
use Rattle.semver_base.specs.declared.range.VersionRange.{VersionRange}

not_less_then : (r s : Ordering) → is_lt r ≡ false → (r ≡ Equal → is_lt s ≡ false) → is_lt (ordering_then r s) ≡ false
not_less_then Less s h k = h
not_less_then Equal s h k = k refl
not_less_then Greater s h k = refl

not_below_zero : (m n : ℕ) → (n == 0) ≡ true → is_lt (nat_cmp m n) ≡ false
not_below_zero m n zero = go (nat_cmp m n) (ranked m n (nat_cmp m n) refl)
  where
    go : (r : Ordering) → MatchOrdering r (m < n) (m ≡ n) (n < m) → is_lt r ≡ false
    go Less below = absurd (not-suc-le-zero (rw (eqb-true n 0 zero) at below))
    go Equal same = refl
    go Greater above = refl

pub not_none : (x : List ℕ) (xs : List (List ℕ)) → (length (x ∷ xs) == 0) ≡ false
not_none x xs = eqb-suc-zero (length xs)

release_not_less : (xs ys : List (List ℕ)) → (length xs == 0) ≡ true → is_lt (pre_cmp xs ys) ≡ false
release_not_less [] [] h = refl
release_not_less [] (y ∷ ys) h = rw (not_none y ys) refl
release_not_less (x ∷ xs) ys h = let some = not_none x xs in cc (some, h)

-- no release is below a version of the numbers 0.0.0
not_below_zeros : (v zero : Version) → is_release v ≡ true → (zero.major == 0) ≡ true → (zero.minor == 0) ≡ true → (zero.patch == 0) ≡ true → is_lt (precedence_cmp v zero) ≡ false
not_below_zeros v zero release major minor patch =
    not_less_then _ _ (not_below_zero v.major zero.major major) (λ _.
    not_less_then _ _ (not_below_zero v.minor zero.minor minor) (λ _.
    not_less_then _ _ (not_below_zero v.patch zero.patch patch) (λ _. release_not_less v.pre zero.pre release)))

exclusive_lt : (k : VersionBoundKind) (r : Ordering) → is_exclusive k ≡ true → is_lt r ≡ false → is_below k r ≡ false
exclusive_lt kind.Inclusive r h e = cc h
exclusive_lt kind.Exclusive r h e = e

-- a range that ends at 0.0.0 includes no release
pub ends_no_release : (result : Bool) (range : VersionRange) → result ≡ ends_at_zero range.end → OnTrue result (HoldsNoRelease range)
ends_no_release false range e = tt
ends_no_release true range e = λ v release. rw (go range.end v release (sym e)) (and-false (start_holds range.start v))
  where
    go : (end : RangeBound) (v : Version) → is_release v ≡ true → ends_at_zero end ≡ true → end_holds end v ≡ false
    go bound.Unbounded v release h = cc h
    go (bound.Version x) v release h =
        let rest = (and_parts (is_exclusive x.kind) _ h).1 in
        let rest1 = (and_parts (x.version.major == 0) _ rest).1 in
        exclusive_lt x.kind (precedence_cmp v x.version) (and_parts (is_exclusive x.kind) _ h).0
        (not_below_zeros v x.version release (and_parts (x.version.major == 0) _ rest).0 (and_parts (x.version.minor == 0) _ rest1).0 (and_parts (x.version.minor == 0) _ rest1).1)
