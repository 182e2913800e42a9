-- What a set matches, as scans: from one string on and below another, sort keys compared by their bytes.
use Rattle.std.specs.Prelude.{◌≡◌, ◌&&◌, ℕ, List, [], ◌∷◌, ◌++◌, Bool, not, true, false}
use Rattle.std.specs.Cmp.Lexicographic.{slice_cmp}
use Rattle.std.specs.List.{list_any}
use Rattle.std.specs.Ordering.{is_le, is_lt, nat_cmp}
use Rattle.std.specs.String.{string_bytes}
use Rattle.std.specs.declared.cmp.Ordering.{Ordering}
use Rattle.semver_base.specs.Characters.{hyphen_sign, tilde_sign}
use Rattle.semver_base.specs.LowestVersion.{IsReadable}
use Rattle.semver_base.specs.Meaning.{is_release}
use Rattle.semver_base.specs.SortKey.{exclamation_mark, number_key, sort_key}
use Rattle.semver_base.specs.declared.range.PreRelease.{PreRelease}
use Rattle.semver_base.specs.declared.range.PreRelease.TheVariants.{Restricted, Admitted}
use Rattle.semver_base.specs.declared.range.intervals.Group.{Group}
use Rattle.semver_base.specs.declared.range.intervals.Group.TheVariants.{Every, Releases, PreReleases}
use Rattle.semver_base.specs.declared.range.intervals.Place.{Place}
use Rattle.semver_base.specs.declared.range.intervals.Place.TheVariants.{Floor, Before, After, Ceiling, End}
use Rattle.semver_base.specs.declared.range.scans.Scan.{Scan}
use Rattle.semver_base.specs.declared.range.scans.Span.{Span}
use Rattle.semver_base.specs.declared.version.Version.{Version}

abbrev pub bytes_cmp : List ℕ → List ℕ → Ordering
bytes_cmp = slice_cmp nat_cmp

-- ---- the keys of cuts

-- the keys of the three numbers
abbrev pub numbers_key : Version → List ℕ
numbers_key v = number_key v.major ++ (number_key v.minor ++ number_key v.patch)

-- the sort keys of just those versions that are above the cut are at or above this
abbrev pub cut_key : Place → Version → List ℕ
cut_key Floor v = numbers_key v ++ hyphen_sign ∷ []
cut_key Before v = sort_key v
cut_key After v = sort_key v ++ exclamation_mark ∷ []
cut_key Ceiling v = numbers_key v ++ tilde_sign ∷ tilde_sign ∷ []
cut_key End v = tilde_sign ∷ []

-- ---- what a scan finds

-- the key is at or above the low string and below the high one
abbrev pub lies : List ℕ → List ℕ → List ℕ → Bool
lies low high key = is_le (bytes_cmp low key) && is_lt (bytes_cmp key high)

abbrev pub lies_in : List ℕ → Span → Bool
lies_in key span = lies (string_bytes span.low) (string_bytes span.high) key

abbrev pub is_nonempty : Span → Bool
is_nonempty span = is_lt (bytes_cmp (string_bytes span.low) (string_bytes span.high))

-- the version is a pre-release, or it is a release
abbrev pub is_of_kind : Bool → Version → Bool
is_of_kind true v = not (is_release v)
is_of_kind false v = is_release v

-- the group of that kind
abbrev pub group_of : PreRelease → Bool → Group
group_of Restricted false = Releases
group_of Restricted true = PreReleases
group_of Admitted is_pre = Every

-- the scan is about versions of this kind, and the version's key lies in it
abbrev pub finds : Version → Scan → Bool
finds v scan = is_of_kind scan.is_pre v && lies (string_bytes scan.low) (string_bytes scan.high) (sort_key v)

-- some scan finds a version, of those that a text parses to, exactly if it is matched
abbrev pub ScansFind : List Scan → (Version → Bool) → Type 0
ScansFind scans means = (v : Version) → IsReadable v → list_any (finds v) scans ≡ means v

-- ---- how scans are sorted

-- releases come before pre-releases; of one kind, that order is less
abbrev pub is_before : Bool → Bool → Ordering → Bool
is_before false true order = true
is_before true false order = false
is_before false false order = is_lt order
is_before true true order = is_lt order

-- the first scan, if any, is of a later kind, or begins above where this one ends
abbrev pub IsBeforeFirst : Scan → List Scan → Type 0
IsBeforeFirst scan [] = Unit {0}
IsBeforeFirst scan (next ∷ others) =
    is_before scan.is_pre next.is_pre (bytes_cmp (string_bytes scan.high) (string_bytes next.low)) ≡ true

-- no scan is empty, and between one and the next of its kind there is a gap
abbrev pub ScansAreSorted : List Scan → Type 0
ScansAreSorted [] = Unit {0}
ScansAreSorted (scan ∷ others) =
    (is_lt (bytes_cmp (string_bytes scan.low) (string_bytes scan.high)) ≡ true) × (IsBeforeFirst scan others × ScansAreSorted others)
