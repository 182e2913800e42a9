-- What ranges match, as intervals of versions between two cuts. A cut lies between versions in the order of precedence.
use Rattle.std.specs.Prelude.{◌≡◌, ℕ, List, [], ◌∷◌, ◌++◌, ◌+◌, ◌&&◌, ◌||◌, Bool, not, true, false, Option, Some, None, if◌then◌else◌, IfSome}
use Rattle.std.specs.List.{list_all, list_any, All, AllByRecursion}
use Rattle.std.specs.Ordering.{is_le, nat_cmp, on, then_cmp}
use Rattle.std.specs.declared.cmp.Ordering.{Ordering}
use Rattle.std.specs.declared.cmp.Ordering.TheVariants.{Less, Equal, Greater}
use Rattle.semver_base.specs.Characters.{zero_digit}
use Rattle.semver_base.specs.LowestVersion.{HasNoBuild, IsLowestPassing}
use Rattle.semver_base.specs.Meaning.{is_release, range_means_with, release, set_means_with}
use Rattle.semver_base.specs.NormalText.{AreWritableRanges}
use Rattle.semver_base.specs.PartialTable.{number_fits}
use Rattle.semver_base.specs.Precedence.{numbers_cmp, precedence_cmp, pre_cmp}
use Rattle.semver_base.specs.VersionText.{IsWritable, ReadsBack}
use Rattle.semver_base.specs.declared.version.Version.{Version}
use Rattle.semver_base.specs.declared.range.PreRelease.{PreRelease}
use Rattle.semver_base.specs.declared.range.PreRelease.TheVariants.{Restricted, Admitted}
use Rattle.semver_base.specs.declared.range.RangeBound.{RangeBound}
use Rattle.semver_base.specs.declared.range.RangeBound.TheVariants as bound
use Rattle.semver_base.specs.declared.range.VersionRange.{VersionRange}
use Rattle.semver_base.specs.declared.range.VersionRangeSet.{VersionRangeSet}
use Rattle.semver_base.specs.declared.range.intervals.Cut.{Cut}
use Rattle.semver_base.specs.declared.range.intervals.Interval.{Interval}
use Rattle.semver_base.specs.declared.range.intervals.Group.{Group}
use Rattle.semver_base.specs.declared.range.intervals.Group.TheVariants.{Every, Releases, PreReleases}
use Rattle.semver_base.specs.declared.range.intervals.Place.{Place}
use Rattle.semver_base.specs.declared.range.intervals.Place.TheVariants.{Floor, Before, After, Ceiling, End}

-- ---- the order of cuts

-- 1 behind all versions
abbrev pub level : Place → ℕ
level Floor = 0
level Before = 0
level After = 0
level Ceiling = 0
level End = 1

-- among the cuts of the same three numbers
abbrev pub rank : Place → ℕ
rank Floor = 0
rank Before = 1
rank After = 1
rank Ceiling = 2
rank End = 0

-- among the cuts at one version
abbrev pub side : Place → ℕ
side Floor = 0
side Before = 0
side After = 1
side Ceiling = 0
side End = 0

-- compares places at versions: by the numbers, within them by the rank, at the same rank by the pre-release, and then by the
-- side; the end is above all
unfoldable pub spot_cmp : Place × Version → Place × Version → Ordering
spot_cmp = then_cmp (on (λ (s : Place × Version). level s.0) nat_cmp)
    (then_cmp (on (λ (s : Place × Version). s.1) numbers_cmp)
    (then_cmp (on (λ (s : Place × Version). rank s.0) nat_cmp)
    (then_cmp (on (λ (s : Place × Version). s.1.pre) pre_cmp) (on (λ (s : Place × Version). side s.0) nat_cmp))))

abbrev pub cut_cmp : Cut → Cut → Ordering
cut_cmp c d = spot_cmp (c.place, c.version.now) (d.place, d.version.now)

-- the version is above the cut
abbrev pub is_past : Place → Version → Version → Bool
is_past place t v = is_le (spot_cmp (place, t) (Before, v))

abbrev pub is_from : Cut → Version → Bool
is_from c v = is_past c.place c.version.now v

-- the second if that order says that it is higher, else the first
abbrev pub higher_by : Ordering → Cut → Cut → Cut
higher_by Less c d = d
higher_by Equal c d = c
higher_by Greater c d = c

abbrev pub higher : Cut → Cut → Cut
higher c d = higher_by (cut_cmp c d) c d

abbrev pub lower : Cut → Cut → Cut
lower c d = higher_by (cut_cmp c d) d c

-- ---- intervals

-- the version is above the low cut and below the high one
abbrev pub is_within : Interval → Version → Bool
is_within i v = is_from i.low v && not (is_from i.high v)

-- some interval holds the version
abbrev pub hold : List Interval → Version → Bool
hold intervals v = list_any (λ (i : Interval). is_within i v) intervals

abbrev pub between : Cut → Cut → Interval
between low high = record { low = low; high = high }

abbrev pub IsWritableInterval : Interval → Type 0
IsWritableInterval i = IsWritable i.low.version.now × IsWritable i.high.version.now

abbrev pub AreWritableIntervals : List Interval → Type 0
AreWritableIntervals = All IsWritableInterval

-- the bounds of the ranges of each set have texts that parse back
abbrev pub AreWritableSets : List VersionRangeSet → Type 0
AreWritableSets sets = AllByRecursion (λ (set : VersionRangeSet). AreWritableRanges set.0) sets

-- the interval of all versions
pub record IsWhole (i : Interval) : Type 0 where
  pub low : (v : Version) → is_from i.low v ≡ true
  pub high : (v : Version) → is_from i.high v ≡ false
  pub writable : IsWritableInterval i

-- behind the first ones, the gaps from a cut on that intervals leave, which ascend
abbrev pub gaps_after : Cut → List Interval → Cut → List Interval → List Interval
gaps_after end gaps from [] = gaps ++ between from end ∷ []
gaps_after end gaps from (i ∷ is) = gaps_after end (gaps ++ between from i.low ∷ []) (higher from i.high) is

-- ---- the lowest version above a cut

-- increments the last of the three numbers that can be incremented, with 0 after it
abbrev pub next_release : Version → Option Version
next_release v =
    if number_fits (v.patch + 1) then Some (release v.major v.minor (v.patch + 1))
    else if number_fits (v.minor + 1) then Some (release v.major (v.minor + 1) 0)
    else if number_fits (v.major + 1) then Some (release (v.major + 1) 0 0)
    else None

-- the identifier `0`, the lowest of the grammar
abbrev pub zero_identifier : List ℕ
zero_identifier = zero_digit ∷ []

-- the version of the same three numbers with this pre-release, without a build
abbrev pub with_pre : Version → List (List ℕ) → Version
with_pre v pre = record { major = v.major; minor = v.minor; patch = v.patch; pre = pre; build = [] }

-- the lowest pre-release of the version's numbers, if there is a version
abbrev pub zero_of : Option Version → Option Version
zero_of None = None
zero_of (Some v) = Some (with_pre v (zero_identifier ∷ []))

abbrev pub release_at : Place → Version → Option Version
release_at Floor v = Some (release v.major v.minor v.patch)
release_at Before v = Some (release v.major v.minor v.patch)
release_at After v = if is_release v then next_release v else Some (release v.major v.minor v.patch)
release_at Ceiling v = next_release v
release_at End v = None

abbrev pub pre_at : Place → Version → Option Version
pre_at Floor v = Some (with_pre v (zero_identifier ∷ []))
pre_at Before v = if is_release v then zero_of (next_release v) else Some (with_pre v v.pre)
pre_at After v = if is_release v then zero_of (next_release v) else Some (with_pre v (v.pre ++ zero_identifier ∷ []))
pre_at Ceiling v = zero_of (next_release v)
pre_at End v = None

abbrev pub version_at : Place → Version → Option Version
version_at Floor v = pre_at Floor v
version_at Before v = Some (with_pre v v.pre)
version_at After v = pre_at After v
version_at Ceiling v = pre_at Ceiling v
version_at End v = None

-- of a group
abbrev pub first : Group → Place → Version → Option Version
first Every place v = version_at place v
first Releases place v = release_at place v
first PreReleases place v = pre_at place v

-- ---- what is asked

-- some range matches the version
abbrev pub some_means : PreRelease → List VersionRange → Version → Bool
some_means flag ranges v = list_any (λ range. range_means_with flag range v) ranges

-- some own range and all other sets match the version
abbrev pub all_match : PreRelease → List VersionRange → Version → List VersionRangeSet → Bool
all_match flag own v others = some_means flag own v && list_all (λ (set : VersionRangeSet). set_means_with flag set.0 v) others

-- all match the version, and none of the last ranges does
abbrev pub passes : PreRelease → List VersionRange → List VersionRangeSet → List VersionRange → Version → Bool
passes flag own others without v = all_match flag own v others && not (some_means flag without v)

-- the lower of two versions
abbrev pub lower_by : Ordering → Version → Version → Version
lower_by Greater x y = y
lower_by Less x y = x
lower_by Equal x y = x

abbrev pub lesser : Option Version → Option Version → Option Version
lesser None second = second
lesser (Some x) None = Some x
lesser (Some x) (Some y) = Some (lower_by (precedence_cmp x y) x y)

-- the version, if it passes the test
abbrev pub filtered : (Version → Bool) → Option Version → Option Version
filtered test None = None
filtered test (Some v) = if test v then Some v else None

-- ---- groups of versions

-- a bound is a pre-release, so that the range may match others of its numbers
abbrev pub is_pre_bound : RangeBound → Bool
is_pre_bound bound.Unbounded = false
is_pre_bound (bound.Version b) = not (is_release b.version)

abbrev pub has_pre_bound : VersionRange → Bool
has_pre_bound range = is_pre_bound range.start || is_pre_bound range.end

-- of all versions where pre-releases are admitted; else of releases, or of pre-releases
abbrev pub flag_of : Group → PreRelease
flag_of Every = Admitted
flag_of Releases = Restricted
flag_of PreReleases = Restricted

abbrev pub is_of : Group → Version → Bool
is_of Every v = true
is_of Releases v = is_release v
is_of PreReleases v = not (is_release v)

-- the lowest version that passes, without a build; where `Written` holds its text parses back
pub record IsFound (test : Version → Bool) (Written : Type 0) (found : Option Version) : Type 0 where
  pub lowest : IsLowestPassing test found
  pub no_build : IfSome found HasNoBuild
  pub reads_back : Written → IfSome found ReadsBack
