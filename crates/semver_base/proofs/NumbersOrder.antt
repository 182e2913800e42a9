-- The order of versions by their three numbers, and precedence by it.
use Rattle.std.proofs.Common.{◌≡◌, ◌<◌, ◌≤◌, ℕ, true, refl, sym, inl, inr, arith, ◌⊎◌, Ordering, Less, Equal, Greater}
use Rattle.std.proofs.lemmas.Cmp.{nat_cmp_total, ranked, tied_itself}
use Rattle.std.specs.Cmp.{IsTotalOrder, on_total, then_total}
use Rattle.std.specs.FinMap.{nat_cmp-IsAntisymmetric}
use Rattle.std.specs.Ordering.{is_le, nat_cmp, ordering_then, MatchOrdering}
use Rattle.semver_base.specs.Precedence.{numbers_cmp, precedence_cmp, pre_cmp}
use Rattle.semver_base.specs.declared.version.Version.{Version}
use Rattle.semver_base.specs.OrderLaws.{le_then, nat_le_cmp, SameNumbers}
use Rattle.semver_base.specs.PrecedenceLaws.{then_first, then_second}

pub numbers_total : IsTotalOrder numbers_cmp
numbers_total = then_total (on_total (λ (v : Version). v.major) nat_cmp_total) (then_total (on_total (λ (v : Version). v.minor) nat_cmp_total) (on_total (λ (v : Version). v.patch) nat_cmp_total))

then_in_threes : (a b c d : Ordering) → ordering_then a (ordering_then b (ordering_then c d)) ≡ ordering_then (ordering_then a (ordering_then b c)) d
then_in_threes Less b c d = refl
then_in_threes Equal Less c d = refl
then_in_threes Equal Equal c d = refl
then_in_threes Equal Greater c d = refl
then_in_threes Greater b c d = refl

-- precedence compares the numbers, and then the pre-release
pub by_numbers : (x y : Version) → precedence_cmp x y ≡ ordering_then (numbers_cmp x y) (pre_cmp x.pre y.pre)
by_numbers x y = then_in_threes (nat_cmp x.major y.major) (nat_cmp x.minor y.minor) (nat_cmp x.patch y.patch) (pre_cmp x.pre y.pre)

-- the numbers of y are above those of x
abbrev pub Under : Version → Version → Type 0
Under x y = (x.major < y.major) ⊎ ((x.major ≡ y.major) × ((x.minor < y.minor) ⊎ ((x.minor ≡ y.minor) × (x.patch < y.patch))))

pub numbers_under : (x y : Version) → numbers_cmp y x ≡ Greater → Under x y
numbers_under x y e = first (nat_cmp y.major x.major) (ranked y.major x.major _ refl) e
  where
    third : (r : Ordering) → MatchOrdering r (y.patch < x.patch) (y.patch ≡ x.patch) (x.patch < y.patch) → r ≡ Greater → x.patch < y.patch
    third Less h e = cc e
    third Equal h e = cc e
    third Greater h e = h

    second : (r : Ordering) → MatchOrdering r (y.minor < x.minor) (y.minor ≡ x.minor) (x.minor < y.minor) → ordering_then r (nat_cmp y.patch x.patch) ≡ Greater
        → (x.minor < y.minor) ⊎ ((x.minor ≡ y.minor) × (x.patch < y.patch))
    second Less h e = cc e
    second Equal h e = inr (sym h, third (nat_cmp y.patch x.patch) (ranked y.patch x.patch _ refl) e)
    second Greater h e = inl h

    first : (r : Ordering) → MatchOrdering r (y.major < x.major) (y.major ≡ x.major) (x.major < y.major) → ordering_then r (ordering_then (nat_cmp y.minor x.minor) (nat_cmp y.patch x.patch)) ≡ Greater → Under x y
    first Less h e = cc e
    first Equal h e = inr (sym h, second (nat_cmp y.minor x.minor) (ranked y.minor x.minor _ refl) e)
    first Greater h e = inl h

nat_above : (m n : ℕ) → m < n → nat_cmp n m ≡ Greater
nat_above m n h = go (nat_cmp n m) (ranked n m (nat_cmp n m) refl)
  where
    go : (r : Ordering) → MatchOrdering r (n < m) (n ≡ m) (m < n) → r ≡ Greater
    go Less k = absurd (omega (arith, h, k))
    go Equal k = absurd (omega (arith, h, k))
    go Greater k = refl

nat_tied : (m n : ℕ) → m ≡ n → nat_cmp n m ≡ Equal
nat_tied m n e = rw e (tied_itself nat_cmp_total n)

pub numbers_above : (x y : Version) → Under x y → numbers_cmp y x ≡ Greater
numbers_above x y (inl h) = rw (nat_above x.major y.major h) refl
numbers_above x y (inr h) = rw (nat_tied x.major y.major h.0) (rest h.1)
  where
    rest : (x.minor < y.minor) ⊎ ((x.minor ≡ y.minor) × (x.patch < y.patch)) → ordering_then (nat_cmp y.minor x.minor) (nat_cmp y.patch x.patch) ≡ Greater
    rest (inl k) = rw (nat_above x.minor y.minor k) refl
    rest (inr k) = rw (nat_tied x.minor y.minor k.0) (nat_above x.patch y.patch k.1)

pub numbers_le : (x y : Version) → x.major ≤ y.major → (x.major ≡ y.major → x.minor ≤ y.minor) → (x.major ≡ y.major → x.minor ≡ y.minor → x.patch ≤ y.patch) → is_le (numbers_cmp x y) ≡ true
numbers_le x y h k l =
    le_then (nat_cmp x.major y.major) _ (nat_le_cmp _ _ h) (λ same.
    let major = nat_cmp-IsAntisymmetric x.major y.major same in
    le_then (nat_cmp x.minor y.minor) _ (nat_le_cmp _ _ (k major)) (λ alike. nat_le_cmp _ _ (l major (nat_cmp-IsAntisymmetric x.minor y.minor alike))))

pub numbers_tied : (x : Version) → numbers_cmp x x ≡ Equal
numbers_tied x = rw (tied_itself nat_cmp_total x.major, tied_itself nat_cmp_total x.minor) (tied_itself nat_cmp_total x.patch)

pub same_right : (x t v : Version) → SameNumbers t v → numbers_cmp x t ≡ numbers_cmp x v
same_right x t v same = rw (same.major, same.minor, same.patch) refl

pub tied_numbers : (x y : Version) → numbers_cmp x y ≡ Equal → SameNumbers x y
tied_numbers x y e =
    let rest = then_second (nat_cmp x.major y.major) _ e in
    record {
      major = nat_cmp-IsAntisymmetric _ _ (then_first (nat_cmp x.major y.major) _ e);
      minor = nat_cmp-IsAntisymmetric _ _ (then_first (nat_cmp x.minor y.minor) _ rest);
      patch = nat_cmp-IsAntisymmetric _ _ (then_second (nat_cmp x.minor y.minor) _ rest);
    }
