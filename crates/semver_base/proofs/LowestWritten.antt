-- The lowest version above a cut has no build, and its text parses back if that of the cut's version does.
use Rattle.std.proofs.Common.{◌≡◌, ◌<◌, ◌+◌, ◌^◌, ◌++◌, ℕ, Bool, true, false, List, [], ◌∷◌, Option, Some, None, refl, arith, IfSome, if◌then◌else◌, ltb-true}
use Rattle.semver_base.specs.Intervals.{first, next_release, pre_at, release_at, version_at, with_pre, zero_identifier, zero_of}
use Rattle.semver_base.specs.LowestVersion.{HasNoBuild}
use Rattle.semver_base.specs.Lexical.{IsIdentifier}
use Rattle.semver_base.specs.Meaning.{is_release, release}
use Rattle.semver_base.specs.PartialTable.{number_fits}
use Rattle.semver_base.specs.VersionText.{AreIdentifiers, IsWritable, ReadsBack}
use Rattle.semver_base.specs.declared.version.Version.{Version}
use Rattle.semver_base.specs.declared.range.intervals.Group.{Group}
use Rattle.semver_base.specs.declared.range.intervals.Group.TheVariants.{Every, Releases, PreReleases}
use Rattle.semver_base.specs.declared.range.intervals.Place.{Place}
use Rattle.semver_base.specs.declared.range.intervals.Place.TheVariants.{Floor, Before, After, Ceiling, End}
use Rattle.semver_base.proofs.WrittenVersions.{version_outcome}

-- ---- what is true of a version whatever is chosen

module _ (P : Version → Type 0) where
  pub chosen : (b : Bool) (x y : Option Version) → (b ≡ true → IfSome x P) → (b ≡ false → IfSome y P) → IfSome (if b then x else y) P
  chosen true x y h k = h refl
  chosen false x y h k = k refl

  -- what comes next after a release, if it holds of each of the three forms that fit
  next_keeps : (v : Version) → (number_fits (v.patch + 1) ≡ true → P (release v.major v.minor (v.patch + 1))) → (number_fits (v.minor + 1) ≡ true → P (release v.major (v.minor + 1) 0))
      → (number_fits (v.major + 1) ≡ true → P (release (v.major + 1) 0 0)) → IfSome (next_release v) P
  next_keeps v third second first =
      chosen (number_fits (v.patch + 1)) _ _ third (λ _.
      chosen (number_fits (v.minor + 1)) _ _ second (λ _.
      chosen (number_fits (v.major + 1)) _ _ first (λ _. tt)))

-- ---- no build

zero_of_no_build : (next : Option Version) → IfSome (zero_of next) HasNoBuild
zero_of_no_build None = tt
zero_of_no_build (Some v) = refl

next_no_build : (v : Version) → IfSome (next_release v) HasNoBuild
next_no_build v = next_keeps HasNoBuild v (λ _. refl) (λ _. refl) (λ _. refl)

release_no_build : (p : Place) (v : Version) → IfSome (release_at p v) HasNoBuild
release_no_build Floor v = refl
release_no_build Before v = refl
release_no_build After v = chosen HasNoBuild (is_release v) (next_release v) _ (λ _. next_no_build v) (λ _. refl)
release_no_build Ceiling v = next_no_build v
release_no_build End v = tt

pre_no_build : (p : Place) (v : Version) → IfSome (pre_at p v) HasNoBuild
pre_no_build Floor v = refl
pre_no_build Before v = chosen HasNoBuild (is_release v) (zero_of (next_release v)) _ (λ _. zero_of_no_build (next_release v)) (λ _. refl)
pre_no_build After v = chosen HasNoBuild (is_release v) (zero_of (next_release v)) _ (λ _. zero_of_no_build (next_release v)) (λ _. refl)
pre_no_build Ceiling v = zero_of_no_build (next_release v)
pre_no_build End v = tt

version_no_build : (p : Place) (v : Version) → IfSome (version_at p v) HasNoBuild
version_no_build Floor v = pre_no_build Floor v
version_no_build Before v = refl
version_no_build After v = pre_no_build After v
version_no_build Ceiling v = pre_no_build Ceiling v
version_no_build End v = tt

pub first_no_build : (g : Group) (p : Place) (v : Version) → IfSome (first g p v) HasNoBuild
first_no_build Every p v = version_no_build p v
first_no_build Releases p v = release_no_build p v
first_no_build PreReleases p v = pre_no_build p v

-- ---- texts that parse back

small : (n : ℕ) → number_fits n ≡ true → n < 2 ^ 64
small n h = ltb-true n (2 ^ 64) h

zero_is_identifier : IsIdentifier zero_identifier zero_identifier
zero_is_identifier = record { some = omega arith; pass = refl; is = refl }

appended_identifiers : (ids : List (List ℕ)) → AreIdentifiers ids → AreIdentifiers (ids ++ zero_identifier ∷ [])
appended_identifiers [] h = (zero_is_identifier, tt)
appended_identifiers (x ∷ xs) h = (h.0, appended_identifiers xs h.1)

release_writable : (major minor patch : ℕ) → major < 2 ^ 64 → minor < 2 ^ 64 → patch < 2 ^ 64 → IsWritable (release major minor patch)
release_writable major minor patch h k l = record { numbers = record { major = h; minor = k; patch = l }; pre = tt; build = tt }

with_pre_writable : (v : Version) (ids : List (List ℕ)) → IsWritable v → AreIdentifiers ids → IsWritable (with_pre v ids)
with_pre_writable v ids h identifiers = record { numbers = record { major = h.numbers.major; minor = h.numbers.minor; patch = h.numbers.patch }; pre = identifiers; build = tt }

own_writable : (v : Version) → IsWritable v → IsWritable (release v.major v.minor v.patch)
own_writable v h = release_writable v.major v.minor v.patch h.numbers.major h.numbers.minor h.numbers.patch

next_writable : (v : Version) → IsWritable v → IfSome (next_release v) IsWritable
next_writable v h = next_keeps IsWritable v
    (λ third. release_writable v.major v.minor (v.patch + 1) h.numbers.major h.numbers.minor (small (v.patch + 1) third))
    (λ second. release_writable v.major (v.minor + 1) 0 h.numbers.major (small (v.minor + 1) second) (omega arith))
    (λ first. release_writable (v.major + 1) 0 0 (small (v.major + 1) first) (omega arith) (omega arith))

zero_writable : (v : Version) → IsWritable v → IsWritable (with_pre v (zero_identifier ∷ []))
zero_writable v h = with_pre_writable v (zero_identifier ∷ []) h (zero_is_identifier, tt)

zero_of_writable : (next : Option Version) → IfSome next IsWritable → IfSome (zero_of next) IsWritable
zero_of_writable None h = tt
zero_of_writable (Some v) h = zero_writable v h

release_writable_at : (p : Place) (v : Version) → IsWritable v → IfSome (release_at p v) IsWritable
release_writable_at Floor v h = own_writable v h
release_writable_at Before v h = own_writable v h
release_writable_at After v h = chosen IsWritable (is_release v) (next_release v) _ (λ _. next_writable v h) (λ _. own_writable v h)
release_writable_at Ceiling v h = next_writable v h
release_writable_at End v h = tt

pre_writable_at : (p : Place) (v : Version) → IsWritable v → IfSome (pre_at p v) IsWritable
pre_writable_at Floor v h = zero_writable v h
pre_writable_at Before v h = chosen IsWritable (is_release v) (zero_of (next_release v)) _ (λ _. zero_of_writable (next_release v) (next_writable v h)) (λ _. with_pre_writable v v.pre h h.pre)
pre_writable_at After v h = chosen IsWritable (is_release v) (zero_of (next_release v)) _ (λ _. zero_of_writable (next_release v) (next_writable v h)) (λ _. with_pre_writable v _ h (appended_identifiers v.pre h.pre))
pre_writable_at Ceiling v h = zero_of_writable (next_release v) (next_writable v h)
pre_writable_at End v h = tt

version_writable_at : (p : Place) (v : Version) → IsWritable v → IfSome (version_at p v) IsWritable
version_writable_at Floor v h = pre_writable_at Floor v h
version_writable_at Before v h = with_pre_writable v v.pre h h.pre
version_writable_at After v h = pre_writable_at After v h
version_writable_at Ceiling v h = pre_writable_at Ceiling v h
version_writable_at End v h = tt

first_writable : (g : Group) (p : Place) (v : Version) → IsWritable v → IfSome (first g p v) IsWritable
first_writable Every p v h = version_writable_at p v h
first_writable Releases p v h = release_writable_at p v h
first_writable PreReleases p v h = pre_writable_at p v h

read_back : (x : Option Version) → IfSome x IsWritable → IfSome x ReadsBack
read_back None h = tt
read_back (Some v) h = version_outcome v h

pub first_reads_back : (g : Group) (p : Place) (v : Version) → IsWritable v → IfSome (first g p v) ReadsBack
first_reads_back g p v h = read_back (first g p v) (first_writable g p v h)

-- 0.0.0
pub zero_release_writable : IsWritable (release 0 0 0)
zero_release_writable = release_writable 0 0 0 (omega arith) (omega arith) (omega arith)
