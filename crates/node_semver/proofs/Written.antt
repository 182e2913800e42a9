-- The versions that come next have texts that parse back.
use Rattle.std.proofs.Common.{◌≡◌, ◌+◌, ◌<◌, ◌^◌, ◌++◌, ◌∷◌, ℕ, zero, suc, true, List, [], Option, Some, None, Result, Ok, Err, decimal, drop, nat_eq, take, refl, sym, subst, inl, inr, arith}
use Rattle.std.proofs.lemmas.Bool.{and_from, and_parts, cases_Bool, ltb-true}
use Rattle.std.proofs.lemmas.Bool.Decides.{nat_tests}
use Rattle.std.specs.Char.{is_ascii_digit}
use Rattle.std.specs.Cmp.Lexicographic.{pointwise}
use Rattle.std.specs.List.{list_all}
use Rattle.semver_base.specs.Intervals.{with_pre}
use Rattle.semver_base.specs.Lexical.{IsIdentifier, IsLooseNumber, is_identifier_byte}
use Rattle.semver_base.specs.LowestVersion.{IsReadable}
use Rattle.semver_base.specs.Meaning.{is_release, release}
use Rattle.semver_base.specs.PartialTable.{number_fits}
use Rattle.semver_base.specs.VersionGrammar.{AllNumbersFit}
use Rattle.semver_base.specs.VersionText.{AreIdentifiers, IsWritable, VersionTextsReadBack}
use Rattle.semver_base.specs.WrittenLaws.{loose_written}
use Rattle.semver_base.specs.declared.version.Version.{Version}
use Rattle.node_semver.specs.Increment.{another, counted, first_number, first_of, first_pre, incremented, is_of_major, is_of_minor, next_by, next_major, next_minor, next_number, next_patch, next_pre, release_of, stem, with_value}
use Rattle.node_semver.specs.NextVersions.{IncrementsReadBack}
use Rattle.node_semver.specs.declared.increment.Base.{Base}
use Rattle.node_semver.specs.declared.increment.Base.TheVariants as base
use Rattle.node_semver.specs.declared.increment.Refusal.{Refusal}
use Rattle.node_semver.specs.declared.release_type.ReleaseType.{ReleaseType}
use Rattle.node_semver.specs.declared.release_type.ReleaseType.TheVariants as type

-- ---- results

pub made_of : {X Y : Type 0} (r : Result X Refusal) (make : X → Result Y Refusal) (y : Y) → with_value r make ≡ Ok y
    → (x : X) × (r ≡ Ok x) × (make x ≡ Ok y)
made_of (Ok x) make y e = (x, refl, e)
made_of (Err why) make y e = absurd (cc e)

abbrev pub as_made : {X : Type 0} → X → Result X Refusal
as_made x = Ok x

pub same_version : {v w : Version} → as_made v ≡ as_made w → v ≡ w
same_version e = cc e

pub next_fits : (n m : ℕ) → next_number n ≡ Ok m → (m ≡ n + 1) × (m < 2 ^ 64)
next_fits n m e = elim (cases_Bool (number_fits (n + 1))) [
  | inl fits ↦
      let is : as_made (n + 1) ≡ as_made m = rw fits at e in
      let same : n + 1 ≡ m = cc is in
      (sym same, subst (λ k. k < 2 ^ 64) same (ltb-true (n + 1) (2 ^ 64) fits))
  | inr large ↦ let never = rw large at e in absurd (cc never)
]

-- ---- identifiers

digit_identifier : (b : ℕ) → is_ascii_digit b ≡ true → is_identifier_byte b ≡ true
digit_identifier b h = grind (arith, nat_tests)

digits_identifier : (bs : List ℕ) → list_all is_ascii_digit bs ≡ true → list_all is_identifier_byte bs ≡ true
digits_identifier [] h = refl
digits_identifier (b ∷ bs) h =
    let both = and_parts (is_ascii_digit b) _ h in
    and_from _ _ (digit_identifier b both.0) (digits_identifier bs both.1)

decimal_identifier : (n : ℕ) → n < 2 ^ 64 → IsIdentifier (decimal n) (decimal n)
decimal_identifier n fits = go (loose_written n fits)
  where
    go : IsLooseNumber (decimal n) n → IsIdentifier (decimal n) (decimal n)
    go h = record { some = h.stands.some; pass = digits_identifier (decimal n) h.stands.pass; is = refl }

appended : (some more : List (List ℕ)) → AreIdentifiers some → AreIdentifiers more → AreIdentifiers (some ++ more)
appended [] more h k = k
appended (x ∷ xs) more h k = (h.0, appended xs more h.1 k)

taken : (n : ℕ) (ids : List (List ℕ)) → AreIdentifiers ids → AreIdentifiers (take n ids)
taken zero ids h = tt
taken (suc n) [] h = tt
taken (suc n) (x ∷ xs) h = (h.0, taken n xs h.1)

dropped : (n : ℕ) (ids : List (List ℕ)) → AreIdentifiers ids → AreIdentifiers (drop n ids)
dropped zero ids h = h
dropped (suc n) [] h = tt
dropped (suc n) (x ∷ xs) h = dropped n xs h.1

first_identifiers : (b : Base) → AreIdentifiers (first_number b)
first_identifiers base.Zero = (record { some = omega arith; pass = refl; is = refl }, tt)
first_identifiers base.One = (record { some = omega arith; pass = refl; is = refl }, tt)
first_identifiers base.Nothing = tt

pub same_pre : {pre other : List (List ℕ)} → as_made pre ≡ as_made other → pre ≡ other
same_pre e = cc e

first_has : (ids : List (List ℕ)) (b : Base) (pre : List (List ℕ)) → AreIdentifiers ids → first_pre ids b ≡ Ok pre → AreIdentifiers pre
first_has [] base.Nothing pre h e = absurd (cc e)
first_has [] base.Zero pre h e = subst AreIdentifiers (same_pre e) (first_identifiers base.Zero)
first_has [] base.One pre h e = subst AreIdentifiers (same_pre e) (first_identifiers base.One)
first_has (x ∷ xs) b pre h e = subst AreIdentifiers (same_pre e) (appended (x ∷ xs) (first_number b) h (first_identifiers b))

stem_has : (ids pre : List (List ℕ)) → AreIdentifiers ids → AreIdentifiers pre → AreIdentifiers (stem ids pre)
stem_has [] pre h k = k
stem_has (x ∷ xs) pre h k = h

pub another_is : (pre next other : List (List ℕ)) → another pre next ≡ Ok other → next ≡ other
another_is pre next other e = elim (cases_Bool (pointwise (pointwise nat_eq) next pre)) [
  | inl same ↦ let never = rw same at e in absurd (cc never)
  | inr new ↦ same_pre (rw new at e)
]

next_has : (ids : List (List ℕ)) (b : Base) (pre next : List (List ℕ)) → AreIdentifiers ids → AreIdentifiers pre → next_pre ids b pre ≡ Ok next
    → AreIdentifiers next
next_has ids b pre next h k e = go (counted ids pre) (made_of (first_pre ids b) _ next e).2
  where
    go : (number : Option (ℕ × ℕ)) → next_by ids b pre number ≡ Ok next → AreIdentifiers next
    go None is = subst AreIdentifiers (another_is pre _ next is) (appended (stem ids pre) (first_number b) (stem_has ids pre h k) (first_identifiers b))
    go (Some last) is =
        let made = made_of (next_number last.1) _ next is in
        subst AreIdentifiers (same_pre made.2) (appended (take last.0 pre) _ (taken last.0 pre k)
        (decimal_identifier made.0 (next_fits last.1 made.0 made.1).1, dropped (last.0 + 1) pre k))

-- ---- versions

small : 0 < 2 ^ 64
small = omega arith

of_numbers : (major minor patch : ℕ) → major < 2 ^ 64 → minor < 2 ^ 64 → patch < 2 ^ 64 → IsWritable (release major minor patch)
of_numbers major minor patch h k l = record { numbers = record { major = h; minor = k; patch = l }; pre = tt; build = tt }

released : (v : Version) → AllNumbersFit v → IsWritable (release_of v)
released v h = of_numbers v.major v.minor v.patch h.major h.minor h.patch

major_has : (v w : Version) → next_major v ≡ Ok w → IsWritable w
major_has v w e =
    let made = made_of (next_number v.major) _ w e in
    subst IsWritable (same_version made.2) (of_numbers made.0 0 0 (next_fits v.major made.0 made.1).1 small small)

minor_has : (v w : Version) → AllNumbersFit v → next_minor v ≡ Ok w → IsWritable w
minor_has v w h e =
    let made = made_of (next_number v.minor) _ w e in
    subst IsWritable (same_version made.2) (of_numbers v.major made.0 0 h.major (next_fits v.minor made.0 made.1).1 small)

patch_has : (v w : Version) → AllNumbersFit v → next_patch v ≡ Ok w → IsWritable w
patch_has v w h e =
    let made = made_of (next_number v.patch) _ w e in
    subst IsWritable (same_version made.2) (of_numbers v.major v.minor made.0 h.major h.minor (next_fits v.patch made.0 made.1).1)

pre_has : (v : Version) (pre : List (List ℕ)) → AllNumbersFit v → AreIdentifiers pre → IsWritable (with_pre v pre)
pre_has v pre h k = record { numbers = record { major = h.major; minor = h.minor; patch = h.patch }; pre = k; build = tt }

begun_has : (ids : List (List ℕ)) (b : Base) (r : Result Version Refusal) (w : Version) → AreIdentifiers ids
    → ((x : Version) → r ≡ Ok x → IsWritable x) → with_value r (first_of ids b) ≡ Ok w → IsWritable w
begun_has ids b r w h of_next e =
    let next = made_of r (first_of ids b) w e in
    let made = made_of (first_pre ids b) _ w next.2 in
    subst IsWritable (same_version made.2) (pre_has next.0 made.0 (of_next next.0 next.1).numbers (first_has ids b made.0 h made.1))

pub all_writable : (kind : ReleaseType) (ids : List (List ℕ)) (b : Base) (v w : Version) → IsReadable v → AreIdentifiers ids
    → incremented kind ids b v ≡ Ok w → IsWritable w
all_writable type.Major ids b v w readable h e = elim (cases_Bool (is_of_major v)) [
  | inl stays ↦ subst IsWritable (same_version (rw stays at e)) (released v readable.numbers)
  | inr next ↦ major_has v w (rw next at e)
]
all_writable type.Minor ids b v w readable h e = elim (cases_Bool (is_of_minor v)) [
  | inl stays ↦ subst IsWritable (same_version (rw stays at e)) (released v readable.numbers)
  | inr next ↦ minor_has v w readable.numbers (rw next at e)
]
all_writable type.Patch ids b v w readable h e = elim (cases_Bool (is_release v)) [
  | inl next ↦ patch_has v w readable.numbers (rw next at e)
  | inr stays ↦ subst IsWritable (same_version (rw stays at e)) (released v readable.numbers)
]
all_writable type.PreMajor ids b v w readable h e = begun_has ids b (next_major v) w h (major_has v) e
all_writable type.PreMinor ids b v w readable h e = begun_has ids b (next_minor v) w h (λ x. minor_has v x readable.numbers) e
all_writable type.PrePatch ids b v w readable h e = begun_has ids b (next_patch v) w h (λ x. patch_has v x readable.numbers) e
all_writable type.PreRelease ids b v w readable h e = elim (cases_Bool (is_release v)) [
  | inl next ↦ begun_has ids b (next_patch v) w h (λ x. patch_has v x readable.numbers) (rw next at e)
  | inr stays ↦
      let made = made_of (next_pre ids b v.pre) _ w (rw stays at e) in
      subst IsWritable (same_version made.2) (pre_has v made.0 readable.numbers (next_has ids b v.pre made.0 h readable.pre made.1))
]
all_writable type.Release ids b v w readable h e = elim (cases_Bool (is_release v)) [
  | inl never ↦ let none = rw never at e in absurd (cc none)
  | inr stays ↦ subst IsWritable (same_version (rw stays at e)) (released v readable.numbers)
]

pub all_read_back : VersionTextsReadBack → IncrementsReadBack
all_read_back back kind identifiers b v w readable ids e = back w (all_writable kind identifiers b v w readable ids e)
