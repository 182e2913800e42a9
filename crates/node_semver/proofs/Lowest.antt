-- The next releases are the lowest of their kind.
use Rattle.std.proofs.Common.{◌≡◌, ◌+◌, ◌<◌, ◌≤◌, ◌==◌, ◌&&◌, ◌^◌, ℕ, Bool, true, false, [], not, is_le, refl, inl, inr, arith, ◌⊎◌, Greater}
use Rattle.std.proofs.lemmas.Bool.{and_parts, cases_Bool, eqb-true, ltb-false}
use Rattle.std.proofs.lemmas.List.{nil_from_length}
use Rattle.semver_base.specs.Meaning.{is_release, release}
use Rattle.semver_base.specs.OrderLaws.{not_true}
use Rattle.semver_base.specs.PartialTable.{number_fits}
use Rattle.semver_base.specs.Precedence.{precedence_cmp, pre_cmp}
use Rattle.semver_base.specs.VersionGrammar.{AllNumbersFit}
use Rattle.semver_base.specs.declared.version.Version.{Version}
use Rattle.node_semver.specs.Increment.{is_of_major, is_of_minor, release_of}
use Rattle.node_semver.specs.NextVersions.{IsLowestAbove, NextMajorsAreLowest, NextMinorsAreLowest, NextPatchesAreLowest, is_major_release, is_minor_release}
use Rattle.node_semver.proofs.Orders.{IsAbove, above_parts, no_pre_above, numbers_above, release_le, released_above}

no_pre : (u : Version) → is_release u ≡ true → u.pre ≡ []
no_pre u h = nil_from_length u.pre (eqb-true _ _ h)

zero : (n : ℕ) → (n == 0) ≡ true → n ≡ 0
zero n h = eqb-true n 0 h

-- of the same numbers, a release is above pre-releases alone
above_pre : (u v : Version) → is_release u ≡ true → pre_cmp u.pre v.pre ≡ Greater → is_release v ≡ false
above_pre u v h e = no_pre_above v.pre (rw (no_pre u h) at e)

no_truth : (b : Bool) → b ≡ true → b ≡ false → ⊥
no_truth b h k = cc (h, k)

-- ---- major

-- a major release is above a version that isn't a pre-release of one exactly if its first number is
major_above : (u v : Version) → is_major_release u ≡ true → is_of_major v ≡ false → precedence_cmp u v ≡ Greater → v.major < u.major
major_above u v test other above = go (above_parts u v above)
  where
    minor : u.minor ≡ 0
    minor = zero u.minor (and_parts _ _ (and_parts (is_release u) _ test).1).0

    patch : u.patch ≡ 0
    patch = zero u.patch (and_parts (u.minor == 0) _ (and_parts (is_release u) _ test).1).1

    of_major : v.minor ≡ 0 → v.patch ≡ 0 → is_release v ≡ false → is_of_major v ≡ true
    of_major m p some = rw (some, m, p) refl

    go : IsAbove u v → v.major < u.major
    go (inl h) = h
    go (inr (same, inl h)) = absurd (omega (arith, h, minor))
    go (inr (same, inr (minors, inl h))) = absurd (omega (arith, h, patch))
    go (inr (same, inr (minors, inr (patches, pre)))) =
        absurd (no_truth (is_of_major v) (of_major (omega (arith, minors, minor)) (omega (arith, patches, patch)) (above_pre u v (and_parts (is_release u) _ test).0 pre)) other)

-- its own release is the lowest above a pre-release of a major version
major_own : (v : Version) → is_of_major v ≡ true → IsLowestAbove is_major_release v (release_of v)
major_own v h = record { passes = zeros; above = released_above v (not_true _ (and_parts _ _ h).0); lowest = λ u test above. lowest u test (above_parts u v above) }
  where
    zeros : ((v.minor == 0) && (v.patch == 0)) ≡ true
    zeros = (and_parts (not (is_release v)) _ h).1

    minor : v.minor ≡ 0
    minor = zero v.minor (and_parts _ (v.patch == 0) (and_parts (not (is_release v)) _ h).1).0

    patch : v.patch ≡ 0
    patch = zero v.patch (and_parts (v.minor == 0) _ (and_parts (not (is_release v)) _ h).1).1

    at_least : (u : Version) → IsAbove u v → v.major ≤ u.major
    at_least u (inl k) = omega (arith, k)
    at_least u (inr k) = let same = k.0 in omega (arith, same)

    lowest : (u : Version) → is_major_release u ≡ true → IsAbove u v → is_le (precedence_cmp (release_of v) u) ≡ true
    lowest u test above =
        release_le (release_of v) u refl (no_pre u (and_parts _ _ test).0) (at_least u above) (λ e. omega (arith, minor)) (λ e f. omega (arith, patch))

pub majors_lowest : NextMajorsAreLowest
majors_lowest identifiers b v = elim (cases_Bool (is_of_major v)) [
  | inl own ↦ rw own (major_own v own)
  | inr other ↦ rw other (elim (cases_Bool (number_fits (v.major + 1))) [
    | inl fits ↦ rw fits (record {
      passes = refl;
      above = numbers_above (release (v.major + 1) 0 0) v (inl (omega arith));
      lowest = λ u test above. let up = major_above u v test other above in
          release_le (release (v.major + 1) 0 0) u refl (no_pre u (and_parts _ _ test).0) (omega (arith, up)) (λ e. omega arith) (λ e f. omega arith);
    })
    | inr large ↦ rw large (
      refl,
      λ u numbers test near above.
          let up = major_above u v test other above in let most = numbers.major in let least = ltb-false (v.major + 1) (2 ^ 64) large in omega (arith, up, most, least),
    )
  ])
]

-- ---- minor

-- a minor release is above a version that isn't a pre-release of one exactly if its first two numbers are
minor_above : (u v : Version) → is_minor_release u ≡ true → is_of_minor v ≡ false → precedence_cmp u v ≡ Greater
    → (v.major < u.major) ⊎ ((v.major ≡ u.major) × (v.minor < u.minor))
minor_above u v test other above = go (above_parts u v above)
  where
    patch : u.patch ≡ 0
    patch = zero u.patch (and_parts (is_release u) _ test).1

    of_minor : v.patch ≡ 0 → is_release v ≡ false → is_of_minor v ≡ true
    of_minor p some = rw (some, p) refl

    go : IsAbove u v → (v.major < u.major) ⊎ ((v.major ≡ u.major) × (v.minor < u.minor))
    go (inl h) = inl h
    go (inr (same, inl h)) = inr (same, h)
    go (inr (same, inr (minors, inl h))) = absurd (omega (arith, h, patch))
    go (inr (same, inr (minors, inr (patches, pre)))) =
        absurd (no_truth (is_of_minor v) (of_minor (omega (arith, patches, patch)) (above_pre u v (and_parts (is_release u) _ test).0 pre)) other)

minor_own : (v : Version) → is_of_minor v ≡ true → IsLowestAbove is_minor_release v (release_of v)
minor_own v h = record { passes = (and_parts (not (is_release v)) _ h).1; above = released_above v (not_true _ (and_parts _ _ h).0); lowest = λ u test above. lowest u test (above_parts u v above) }
  where
    patch : v.patch ≡ 0
    patch = zero v.patch (and_parts (not (is_release v)) _ h).1

    at_least : (u : Version) → IsAbove u v → (v.major ≤ u.major) × (v.major ≡ u.major → v.minor ≤ u.minor)
    at_least u (inl k) = (omega (arith, k), λ e. absurd (omega (arith, e, k)))
    at_least u (inr (same, inl k)) = (omega (arith, same), λ e. omega (arith, k))
    at_least u (inr (same, inr (minors, rest))) = (omega (arith, same), λ e. omega (arith, minors))

    lowest : (u : Version) → is_minor_release u ≡ true → IsAbove u v → is_le (precedence_cmp (release_of v) u) ≡ true
    lowest u test above =
        let least = at_least u above in
        release_le (release_of v) u refl (no_pre u (and_parts _ _ test).0) least.0 least.1 (λ e f. omega (arith, patch))

pub minors_lowest : NextMinorsAreLowest
minors_lowest identifiers b v = elim (cases_Bool (is_of_minor v)) [
  | inl own ↦ rw own (minor_own v own)
  | inr other ↦ rw other (elim (cases_Bool (number_fits (v.minor + 1))) [
    | inl fits ↦ rw fits (record {
      passes = refl;
      above = numbers_above (release v.major (v.minor + 1) 0) v (inr (refl, inl (omega arith)));
      lowest = λ u test above. lowest u test (minor_above u v test other above);
    })
    | inr large ↦ rw large (refl, λ u numbers test near above. never u numbers (eqb-true u.major v.major near) (minor_above u v test other above) large)
  ])
]
  where
    lowest : (u : Version) → is_minor_release u ≡ true → (v.major < u.major) ⊎ ((v.major ≡ u.major) × (v.minor < u.minor))
        → is_le (precedence_cmp (release v.major (v.minor + 1) 0) u) ≡ true
    lowest u test (inl h) =
        release_le (release v.major (v.minor + 1) 0) u refl (no_pre u (and_parts _ _ test).0) (omega (arith, h)) (λ e. absurd (omega (arith, e, h))) (λ e f. omega arith)
    lowest u test (inr h) =
        let same = h.0 in let up = h.1 in
        release_le (release v.major (v.minor + 1) 0) u refl (no_pre u (and_parts _ _ test).0) (omega (arith, same)) (λ e. omega (arith, up)) (λ e f. omega arith)

    never : (u : Version) → AllNumbersFit u → u.major ≡ v.major → (v.major < u.major) ⊎ ((v.major ≡ u.major) × (v.minor < u.minor))
        → number_fits (v.minor + 1) ≡ false → ⊥
    never u numbers same (inl h) large = omega (arith, same, h)
    never u numbers same (inr h) large =
        let up = h.1 in let most = numbers.minor in let least = ltb-false (v.minor + 1) (2 ^ 64) large in omega (arith, up, most, least)

-- ---- patch

patch_own : (v : Version) → is_release v ≡ false → IsLowestAbove is_release v (release_of v)
patch_own v h = record { passes = refl; above = released_above v h; lowest = λ u test above. lowest u test (above_parts u v above) }
  where
    at_least : (u : Version) → IsAbove u v → (v.major ≤ u.major) × (v.major ≡ u.major → v.minor ≤ u.minor) × (v.major ≡ u.major → v.minor ≡ u.minor → v.patch ≤ u.patch)
    at_least u (inl k) = (omega (arith, k), λ e. absurd (omega (arith, e, k)), λ e f. absurd (omega (arith, e, k)))
    at_least u (inr (same, inl k)) = (omega (arith, same), λ e. omega (arith, k), λ e f. absurd (omega (arith, f, k)))
    at_least u (inr (same, inr (minors, inl k))) = (omega (arith, same), λ e. omega (arith, minors), λ e f. omega (arith, k))
    at_least u (inr (same, inr (minors, inr k))) = let last = k.0 in (omega (arith, same), λ e. omega (arith, minors), λ e f. omega (arith, last))

    lowest : (u : Version) → is_release u ≡ true → IsAbove u v → is_le (precedence_cmp (release_of v) u) ≡ true
    lowest u test above = let least = at_least u above in release_le (release_of v) u refl (no_pre u test) least.0 least.1 least.2

pub patches_lowest : NextPatchesAreLowest
patches_lowest identifiers b v = elim (cases_Bool (is_release v)) [
  | inr own ↦ rw own (patch_own v own)
  | inl plain ↦ rw plain (elim (cases_Bool (number_fits (v.patch + 1))) [
    | inl fits ↦ rw fits (record {
      passes = refl;
      above = numbers_above (release v.major v.minor (v.patch + 1)) v (inr (refl, inr (refl, omega arith)));
      lowest = λ u test above. lowest u test plain (above_parts u v above);
    })
    | inr large ↦ rw large (
      refl,
      λ u numbers test near above.
          never u numbers test plain (eqb-true u.major v.major (and_parts _ _ near).0) (eqb-true u.minor v.minor (and_parts (u.major == v.major) _ near).1) (above_parts u v above) large,
    )
  ])
]
  where
    lowest : (u : Version) → is_release u ≡ true → is_release v ≡ true → IsAbove u v → is_le (precedence_cmp (release v.major v.minor (v.patch + 1)) u) ≡ true
    lowest u test plain (inl k) =
        release_le (release v.major v.minor (v.patch + 1)) u refl (no_pre u test) (omega (arith, k)) (λ e. absurd (omega (arith, e, k))) (λ e f. absurd (omega (arith, e, k)))
    lowest u test plain (inr (same, inl k)) =
        release_le (release v.major v.minor (v.patch + 1)) u refl (no_pre u test) (omega (arith, same)) (λ e. omega (arith, k)) (λ e f. absurd (omega (arith, f, k)))
    lowest u test plain (inr (same, inr (minors, inl k))) =
        release_le (release v.major v.minor (v.patch + 1)) u refl (no_pre u test) (omega (arith, same)) (λ e. omega (arith, minors)) (λ e f. omega (arith, k))
    lowest u test plain (inr (same, inr (minors, inr k))) = absurd (no_truth (is_release v) plain (above_pre u v test k.1))

    never : (u : Version) → AllNumbersFit u → is_release u ≡ true → is_release v ≡ true → u.major ≡ v.major → u.minor ≡ v.minor → IsAbove u v → number_fits (v.patch + 1) ≡ false → ⊥
    never u numbers test plain same minors (inl k) large = omega (arith, same, k)
    never u numbers test plain same minors (inr (first, inl k)) large = omega (arith, minors, k)
    never u numbers test plain same minors (inr (first, inr (second, inl k))) large =
        let most = numbers.patch in let least = ltb-false (v.patch + 1) (2 ^ 64) large in omega (arith, k, most, least)
    never u numbers test plain same minors (inr (first, inr (second, inr k))) large = no_truth (is_release v) plain (above_pre u v test k.1)
