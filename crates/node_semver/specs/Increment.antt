-- Which version comes next. Source: node-semver's documentation of `inc`. `major`, `minor` and `patch` are the next release of that kind.
-- `premajor` goes up to the next major version and down to a pre-release of it; `preminor` and `prepatch` do the same. `prerelease` of a
-- release is `prepatch`, and of a pre-release the next pre-release. `release` is the release of a pre-release.
use Rattle.std.specs.Prelude.{◌≡◌, ◌+◌, ◌==◌, ◌&&◌, ◌++◌, ◌∷◌, ℕ, Bool, false, not, List, [], Option, Some, None, Result, Ok, Err, codes, decimal, drop, is_some, length, nat_eq, take, if◌then◌else◌}
use Rattle.std.specs.Cmp.Lexicographic.{pointwise}
use Rattle.semver_base.specs.Intervals.{with_pre}
use Rattle.semver_base.specs.Meaning.{is_release, release}
use Rattle.semver_base.specs.PartialTable.{number_fits}
use Rattle.semver_base.specs.Precedence.{number_of}
use Rattle.semver_base.specs.declared.version.Version.{Version}
use Rattle.node_semver.specs.declared.increment.Base.{Base}
use Rattle.node_semver.specs.declared.increment.Base.TheVariants as base
use Rattle.node_semver.specs.declared.increment.IncrementError.{IncrementError}
use Rattle.node_semver.specs.declared.increment.IncrementError.TheVariants as error
use Rattle.node_semver.specs.declared.increment.Refusal.{Refusal}
use Rattle.node_semver.specs.declared.increment.Refusal.TheVariants as refusal
use Rattle.node_semver.specs.declared.release_type.ReleaseType.{ReleaseType}
use Rattle.node_semver.specs.declared.release_type.ReleaseType.TheVariants as type

-- what is made of the value, or else the refusal
abbrev pub with_value : {X Y : Type 0} → Result X Refusal → (X → Result Y Refusal) → Result Y Refusal
with_value (Ok x) make = make x
with_value (Err why) make = Err why

-- ---- releases

-- the next number, if it fits
abbrev pub next_number : ℕ → Result ℕ Refusal
next_number n = if number_fits (n + 1) then Ok (n + 1) else Err refusal.NumberTooLarge

-- whether the version is a pre-release of a major version, or of a minor one
abbrev pub is_of_major : Version → Bool
is_of_major v = not (is_release v) && ((v.minor == 0) && (v.patch == 0))

abbrev pub is_of_minor : Version → Bool
is_of_minor v = not (is_release v) && (v.patch == 0)

-- ---- pre-releases

-- the number behind the identifiers of a first pre-release
abbrev pub first_number : Base → List (List ℕ)
first_number base.Zero = codes "0" ∷ []
first_number base.One = codes "1" ∷ []
first_number base.Nothing = []

-- a first pre-release has an identifier or a number
abbrev pub first_pre : List (List ℕ) → Base → Result (List (List ℕ)) Refusal
first_pre [] base.Nothing = Err refusal.NothingToBegin
first_pre [] base.Zero = Ok (first_number base.Zero)
first_pre [] base.One = Ok (first_number base.One)
first_pre (identifier ∷ others) b = Ok ((identifier ∷ others) ++ first_number b)

-- the first pre-release of a release
abbrev pub first_of : List (List ℕ) → Base → Version → Result Version Refusal
first_of identifiers b v = with_value (first_pre identifiers b) (λ pre. Ok (with_pre v pre))

-- behind this many identifiers, the place and the value of the last one that is a number
abbrev pub number_at : ℕ → Option ℕ → Option (ℕ × ℕ)
number_at place None = None
number_at place (Some n) = Some (place, n)

abbrev pub last_of : Option (ℕ × ℕ) → Option (ℕ × ℕ) → Option (ℕ × ℕ)
last_of before None = before
last_of before (Some last) = Some last

abbrev pub last_number : ℕ → List (List ℕ) → Option (ℕ × ℕ)
last_number place [] = None
last_number place (identifier ∷ others) = last_of (number_at place (number_of identifier)) (last_number (place + 1) others)

-- the identifiers, with another one at a place
abbrev pub with_identifier : List (List ℕ) → ℕ → List ℕ → List (List ℕ)
with_identifier identifiers place other = take place identifiers ++ other ∷ drop (place + 1) identifiers

-- whether a number comes first
abbrev pub begins_with_number : List (List ℕ) → Bool
begins_with_number [] = false
begins_with_number (identifier ∷ others) = is_some (number_of identifier)

-- whether a pre-release begins with the identifiers, and goes on with a number
abbrev pub is_counted : List (List ℕ) → List (List ℕ) → Bool
is_counted identifiers pre = pointwise (pointwise nat_eq) (take (length identifiers) pre) identifiers
    && begins_with_number (drop (length identifiers) pre)

-- the identifiers behind which a pre-release counts: those that are given, or else its own
abbrev pub stem : List (List ℕ) → List (List ℕ) → List (List ℕ)
stem [] pre = pre
stem (identifier ∷ others) pre = identifier ∷ others

-- the number of a pre-release that is raised: its last, if it counts behind these identifiers, or none are given
abbrev pub counted : List (List ℕ) → List (List ℕ) → Option (ℕ × ℕ)
counted [] pre = last_number 0 pre
counted (identifier ∷ others) pre = if is_counted (identifier ∷ others) pre then last_number 0 pre else None

-- a pre-release other than this one
abbrev pub another : List (List ℕ) → List (List ℕ) → Result (List (List ℕ)) Refusal
another pre next = if pointwise (pointwise nat_eq) next pre then Err refusal.SamePreRelease else Ok next

-- the pre-release with the number raised; or, if there is none, the first one behind the stem
abbrev pub next_by : List (List ℕ) → Base → List (List ℕ) → Option (ℕ × ℕ) → Result (List (List ℕ)) Refusal
next_by identifiers b pre (Some last) =
    with_value (next_number last.1) (λ n. Ok (with_identifier pre last.0 (decimal n)))
next_by identifiers b pre None = another pre (stem identifiers pre ++ first_number b)

-- the next pre-release of one; without identifiers it has a number
abbrev pub next_pre : List (List ℕ) → Base → List (List ℕ) → Result (List (List ℕ)) Refusal
next_pre identifiers b pre =
    with_value (first_pre identifiers b) (λ first. next_by identifiers b pre (counted identifiers pre))

-- ---- the next version

abbrev pub next_major : Version → Result Version Refusal
next_major v = with_value (next_number v.major) (λ n. Ok (release n 0 0))

abbrev pub next_minor : Version → Result Version Refusal
next_minor v = with_value (next_number v.minor) (λ n. Ok (release v.major n 0))

abbrev pub next_patch : Version → Result Version Refusal
next_patch v = with_value (next_number v.patch) (λ n. Ok (release v.major v.minor n))

-- the version without its pre-release and its build
abbrev pub release_of : Version → Version
release_of v = release v.major v.minor v.patch

-- the next version of a kind; of a pre-release that may be its own release
abbrev pub incremented : ReleaseType → List (List ℕ) → Base → Version → Result Version Refusal
incremented type.Major identifiers b v = if is_of_major v then Ok (release_of v) else next_major v
incremented type.Minor identifiers b v = if is_of_minor v then Ok (release_of v) else next_minor v
incremented type.Patch identifiers b v = if is_release v then next_patch v else Ok (release_of v)
incremented type.PreMajor identifiers b v = with_value (next_major v) (first_of identifiers b)
incremented type.PreMinor identifiers b v = with_value (next_minor v) (first_of identifiers b)
incremented type.PrePatch identifiers b v = with_value (next_patch v) (first_of identifiers b)
incremented type.PreRelease identifiers b v =
    if is_release v then with_value (next_patch v) (first_of identifiers b)
    else with_value (next_pre identifiers b v.pre) (λ pre. Ok (with_pre v pre))
incremented type.Release identifiers b v = if is_release v then Err refusal.NotPreRelease else Ok (release_of v)

-- ---- results

abbrev pub refusal_message : Refusal → List ℕ
refusal_message refusal.NumberTooLarge = codes "A number would be larger than 18446744073709551615."
refusal_message refusal.NotPreRelease = codes "The version is a release already."
refusal_message refusal.NothingToBegin = codes "A pre-release needs an identifier or a number."
refusal_message refusal.SamePreRelease = codes "The version has this pre-release already."

-- the error is this refusal, or memory ran out
abbrev pub IsRefused : {X : Type 0} → Result X Refusal → IncrementError → Type 0
IsRefused outcome error.OutOfMemory = Unit {0}
IsRefused outcome (error.Refused why) = outcome ≡ Err why

abbrev pub error_message : IncrementError → List ℕ
error_message error.OutOfMemory = codes "Out of memory."
error_message (error.Refused why) = refusal_message why
