-- The text of a parsed name and version splits into that name and that version.
use Rattle.std.proofs.Common.{◌≡◌, ◌<◌, ℕ, true, List, [], ◌∷◌, ◌++◌, length, Ok, refl, ap, arith, append-nil, length-append, subst, decimal}
use Rattle.std.specs.List.{list_all}
use Rattle.std.proofs.lemmas.Bool.{and_from, and_parts}
use Rattle.std.proofs.lemmas.Bool.Decides.{nat_tests}
use Rattle.semver_base.specs.Grammar.{Stops}
use Rattle.semver_base.specs.VersionGrammar.{IsVersionOutcome}
use Rattle.semver_base.specs.VersionText.{ReadsBack, VersionTextsAreBare, is_version_text_byte, prefixed, version_text}
use Rattle.semver_base.specs.declared.version.Version.{Version}
use Rattle.deno_semver.specs.NameAndVersion.{IsNvFront, IsNvName, IsNvText, NvReadsBack, is_front, is_nv, is_version_byte}
use Rattle.deno_semver.specs.declared.package.values.PackageNv.{PackageNv}

-- each byte of the version's text is allowed in the version of a name with a version
abbrev pub IsBareVersion : Version → Type 0
IsBareVersion v = list_all is_version_byte (version_text v) ≡ true

byte_passes : (b : ℕ) → is_version_text_byte b ≡ true → is_version_byte b ≡ true
byte_passes b h = grind (arith, nat_tests)

all_pass : (text : List ℕ) → list_all is_version_text_byte text ≡ true → list_all is_version_byte text ≡ true
all_pass [] h = refl
all_pass (b ∷ text) h =
    let both = and_parts (is_version_text_byte b) (list_all is_version_text_byte text) h in
    and_from (is_version_byte b) (list_all is_version_byte text) (byte_passes b both.0) (all_pass text both.1)

-- the version that a text parses to is so
pub version_passes : VersionTextsAreBare → (text : List ℕ) (v : Version) → IsVersionOutcome text (Ok v) → IsBareVersion v
version_passes plain text v h = all_pass (version_text v) (plain text v h)

version_some : (v : Version) → 0 < length (version_text v)
version_some v = omega (arith, length-append (decimal v.major) (46 ∷ (decimal v.minor ++ (46 ∷ (decimal v.patch ++ (prefixed 45 v.pre ++ prefixed 43 v.build))))))

-- how a parsed name and version is written, followed by what doesn't continue the version
pub writes_text : {name rest : List ℕ} (v : Version) → IsNvName name → IsBareVersion v → Stops is_version_byte rest → IsNvText (name ++ (64 ∷ (version_text v ++ rest))) name (version_text v) rest
writes_text v name_is plain ends = record {
  text_is = refl;
  name_is = name_is;
  version_some = version_some v;
  version_is = plain;
  version_ends = ends;
}

-- the name at the start
pub front_name : {text rest : List ℕ} {nv : PackageNv} → IsNvFront text (Ok (nv, rest)) → IsNvName nv.name
front_name (is_front h v) = h.name_is

pub reads_back : {text rest : List ℕ} {nv : PackageNv} → IsNvFront text (Ok (nv, rest)) → IsBareVersion nv.version → ReadsBack nv.version → NvReadsBack nv
reads_back {nv = nv} h plain back =
    let whole = writes_text {rest = []} nv.version (front_name h) plain tt in
    let text = ap (λ t. nv.name ++ (64 ∷ t)) (append-nil (version_text nv.version)) in
    is_nv (is_front (subst (λ (t : List ℕ). IsNvText t nv.name (version_text nv.version) []) text whole) back)
