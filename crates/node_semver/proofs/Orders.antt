-- What is above a version, by its parts.
use Rattle.std.proofs.Common.{◌≡◌, ◌<◌, ◌≤◌, ◌==◌, ◌∷◌, ℕ, true, false, List, [], length, refl, sym, inl, inr, arith, ◌⊎◌, Ordering, Less, Equal, Greater}
use Rattle.std.proofs.lemmas.Cmp.{nat_cmp_total, ranked, tied_itself}
use Rattle.std.specs.FinMap.{nat_cmp-IsAntisymmetric}
use Rattle.std.specs.Ordering.{is_le, nat_cmp, ordering_then, MatchOrdering}
use Rattle.semver_base.specs.Meaning.{is_release}
use Rattle.semver_base.specs.OrderLaws.{le_then, nat_le_cmp}
use Rattle.semver_base.specs.OverlapLaws.{not_none}
use Rattle.semver_base.specs.Precedence.{precedence_cmp, pre_cmp}
use Rattle.node_semver.specs.Increment.{release_of}
use Rattle.semver_base.specs.declared.version.Version.{Version}

pub nat_above : (m n : ℕ) → m < n → nat_cmp n m ≡ Greater
nat_above m n h = go (nat_cmp n m) (ranked n m (nat_cmp n m) refl)
  where
    go : (r : Ordering) → MatchOrdering r (n < m) (n ≡ m) (m < n) → r ≡ Greater
    go Less k = absurd (omega (arith, h, k))
    go Equal k = absurd (omega (arith, h, k))
    go Greater k = refl

pub nat_same : (n : ℕ) → nat_cmp n n ≡ Equal
nat_same n = tied_itself nat_cmp_total n

-- a number is above, or it ties and what follows is
then_above : (m n : ℕ) (s : Ordering) → ordering_then (nat_cmp n m) s ≡ Greater → (m < n) ⊎ ((m ≡ n) × (s ≡ Greater))
then_above m n s e = go (nat_cmp n m) (ranked n m (nat_cmp n m) refl) e
  where
    go : (r : Ordering) → MatchOrdering r (n < m) (n ≡ m) (m < n) → ordering_then r s ≡ Greater → (m < n) ⊎ ((m ≡ n) × (s ≡ Greater))
    go Less k f = cc f
    go Equal k f = inr (sym k, f)
    go Greater k f = inl k

-- the version u is above v
abbrev pub IsAbovePre : Version → Version → Type 0
IsAbovePre u v = (v.patch ≡ u.patch) × (pre_cmp u.pre v.pre ≡ Greater)

abbrev pub IsAbovePatch : Version → Version → Type 0
IsAbovePatch u v = (v.minor ≡ u.minor) × ((v.patch < u.patch) ⊎ IsAbovePre u v)

abbrev pub IsAbove : Version → Version → Type 0
IsAbove u v = (v.major < u.major) ⊎ ((v.major ≡ u.major) × ((v.minor < u.minor) ⊎ IsAbovePatch u v))

pub above_parts : (u v : Version) → precedence_cmp u v ≡ Greater → IsAbove u v
above_parts u v e = first (then_above v.major u.major _ e)
  where
    third : (v.patch < u.patch) ⊎ ((v.patch ≡ u.patch) × (pre_cmp u.pre v.pre ≡ Greater)) → (v.patch < u.patch) ⊎ IsAbovePre u v
    third (inl h) = inl h
    third (inr h) = inr h

    second : (v.minor < u.minor) ⊎ ((v.minor ≡ u.minor) × (ordering_then (nat_cmp u.patch v.patch) (pre_cmp u.pre v.pre) ≡ Greater))
        → (v.minor < u.minor) ⊎ IsAbovePatch u v
    second (inl h) = inl h
    second (inr h) = inr (h.0, third (then_above v.patch u.patch _ h.1))

    first : (v.major < u.major) ⊎ ((v.major ≡ u.major) × (ordering_then (nat_cmp u.minor v.minor) (ordering_then (nat_cmp u.patch v.patch) (pre_cmp u.pre v.pre)) ≡ Greater))
        → IsAbove u v
    first (inl h) = inl h
    first (inr h) = inr (h.0, second (then_above v.minor u.minor _ h.1))

-- ---- releases

pub pre_above : (ids : List (List ℕ)) → (length ids == 0) ≡ false → pre_cmp [] ids ≡ Greater
pre_above [] h = cc h
pre_above (x ∷ xs) h = rw (not_none x xs) refl

-- no pre-release is above a release of its numbers
pub no_pre_above : (ids : List (List ℕ)) → pre_cmp [] ids ≡ Greater → (length ids == 0) ≡ false
no_pre_above [] h = cc h
no_pre_above (x ∷ xs) h = not_none x xs

-- a release isn't above another whose numbers aren't below its own
pub release_le : (w u : Version) → w.pre ≡ [] → u.pre ≡ [] → w.major ≤ u.major → (w.major ≡ u.major → w.minor ≤ u.minor)
    → (w.major ≡ u.major → w.minor ≡ u.minor → w.patch ≤ u.patch) → is_le (precedence_cmp w u) ≡ true
release_le w u e f h k l =
    le_then (nat_cmp w.major u.major) _ (nat_le_cmp _ _ h) (λ one.
    let same = nat_cmp-IsAntisymmetric w.major u.major one in
    le_then (nat_cmp w.minor u.minor) _ (nat_le_cmp _ _ (k same)) (λ two.
    le_then (nat_cmp w.patch u.patch) _ (nat_le_cmp _ _ (l same (nat_cmp-IsAntisymmetric w.minor u.minor two))) (λ _. rw (e, f) refl)))

-- the three numbers are above those of the other version
abbrev pub HasNumbersAbove : Version → Version → Type 0
HasNumbersAbove u v = (v.major < u.major) ⊎ ((u.major ≡ v.major) × ((v.minor < u.minor) ⊎ ((u.minor ≡ v.minor) × (v.patch < u.patch))))

pub numbers_above : (u v : Version) → HasNumbersAbove u v → precedence_cmp u v ≡ Greater
numbers_above u v (inl h) = rw (nat_above v.major u.major h) refl
numbers_above u v (inr h) = rw (h.0, nat_same v.major) (rest h.1)
  where
    rest : (v.minor < u.minor) ⊎ ((u.minor ≡ v.minor) × (v.patch < u.patch))
        → ordering_then (nat_cmp u.minor v.minor) (ordering_then (nat_cmp u.patch v.patch) (pre_cmp u.pre v.pre)) ≡ Greater
    rest (inl k) = rw (nat_above v.minor u.minor k) refl
    rest (inr k) = rw (k.0, nat_same v.minor, nat_above v.patch u.patch k.1) refl

-- the release of a pre-release is above it
pub released_above : (v : Version) → is_release v ≡ false → precedence_cmp (release_of v) v ≡ Greater
released_above v h = rw (nat_same v.major, nat_same v.minor, nat_same v.patch) (pre_above v.pre h)
