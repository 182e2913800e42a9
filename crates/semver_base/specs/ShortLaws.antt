-- Versions of three numbers alone, and texts of numbers and bytes that leave nothing to trim.
use Rattle.std.proofs.Common.{◌≡◌, ◌==◌, ◌<◌, ℕ, List, [], ◌∷◌, ◌++◌, length, true, refl}
use Rattle.std.specs.List.{list_all}
use Rattle.std.proofs.lemmas.List.{nil_from_length}
use Rattle.std.proofs.lemmas.Bool.{and_parts, eqb-true}
use native.Mathlib.Nat.{le_trans, zero-lt-suc}
use Rattle.semver_base.specs.Meaning.{release}
use Rattle.semver_base.specs.Shortest.{is_release_of}
use Rattle.semver_base.specs.ShortTexts.{IsBareNumber, IsShortFront}
use Rattle.semver_base.specs.declared.short.ShortNumbers.{ShortNumbers}
use Rattle.semver_base.specs.declared.short.ShortNumbers.TheVariants as short_numbers
use Rattle.semver_base.specs.declared.version.Version.{Version}
use Rattle.semver_base.specs.PrecedenceLaws.{version_with}
use Rattle.semver_base.specs.LengthLaws.{front_le}
use Rattle.semver_base.specs.ByteLaws.{list_all-append}
use Rattle.semver_base.specs.TokenLaws.{loose_some}
use Rattle.semver_base.specs.SolidLaws.{is_solid_byte, number_made, some_text}

pub short_is : (v : Version) (major minor patch : ℕ) → is_release_of v major minor patch ≡ true → v ≡ release major minor patch
short_is v major minor patch h =
    let h1 = (and_parts (v.major == major) _ h).1 in
    let h2 = (and_parts (v.minor == minor) _ h1).1 in
    let h3 = (and_parts (v.patch == patch) _ h2).1 in
    let major_is : v.major ≡ major = eqb-true _ _ (and_parts (v.major == major) _ h).0 in
    let minor_is : v.minor ≡ minor = eqb-true _ _ (and_parts (v.minor == minor) _ h1).0 in
    let patch_is : v.patch ≡ patch = eqb-true _ _ (and_parts (v.patch == patch) _ h2).0 in
    let pre_is : v.pre ≡ [] = nil_from_length v.pre (eqb-true _ _ (and_parts (length v.pre == 0) _ h3).0) in
    let build_is : v.build ≡ [] = nil_from_length v.build (eqb-true _ _ (and_parts (length v.pre == 0) _ h3).1) in
    let same : version_with v.major v.minor v.patch v.pre v.build ≡ version_with major minor patch [] [] = rw (major_is, minor_is, patch_is, pre_is, build_is) refl in
    same

-- the text isn't empty, and all its bytes are solid
abbrev pub IsSolid : List ℕ → Type 0
IsSolid text = (list_all is_solid_byte text ≡ true) × (0 < length text)

solid_some : (b : ℕ) (text : List ℕ) → is_solid_byte b ≡ true → list_all is_solid_byte text ≡ true → IsSolid (b ∷ text)
solid_some b text h k = (rw (h, k) refl, zero-lt-suc (length text))

pub solid_joined : (a b : List ℕ) → IsSolid a → list_all is_solid_byte b ≡ true → IsSolid (a ++ b)
solid_joined a b h k = (list_all-append is_solid_byte a b h.0 k, le_trans h.1 (front_le a b))

number_front_solid : {text rest : List ℕ} {n : ℕ} → IsBareNumber text n rest → list_all is_solid_byte rest ≡ true → IsSolid text
number_front_solid {text} {rest} {n} p h =
    let number = p.loose in
    rw number.text_is (solid_joined number.front rest (number_made.made number.front n number.stands, some_text loose_some number.front number.stands) h)

-- a text of numbers and solid bytes behind them
pub short_solid : (text : List ℕ) (numbers : ShortNumbers) (rest : List ℕ) → IsShortFront text numbers rest → list_all is_solid_byte rest ≡ true → IsSolid text
short_solid text (short_numbers.One m) rest p h = number_front_solid p h
short_solid text (short_numbers.Two m n) rest p h = number_front_solid p.major (solid_some 46 p.from_minor refl (number_front_solid p.minor h).0).0
short_solid text (short_numbers.Three n) rest p h = number_front_solid p.major (solid_some 46 p.from_minor refl (number_front_solid p.minor (solid_some 46 p.from_patch refl (number_front_solid p.patch h).0).0).0).0
