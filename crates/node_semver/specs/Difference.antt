-- Of which kind the step between two versions is. Source: node-semver's `diff`: the first number that differs says it, with `pre`
-- before it if the higher version is a pre-release. The step from a pre-release to its own release is the kind of that release, and
-- the step from a pre-release of a major version to any release is a major one.
use Rattle.std.specs.Prelude.{◌==◌, not, Option, Some, None, if◌then◌else◌}
use Rattle.std.specs.declared.cmp.Ordering.{Ordering}
use Rattle.std.specs.declared.cmp.Ordering.TheVariants.{Less, Equal, Greater}
use Rattle.semver_base.specs.Meaning.{is_release}
use Rattle.semver_base.specs.Precedence.{precedence_cmp}
use Rattle.semver_base.specs.declared.version.Version.{Version}
use Rattle.node_semver.specs.Increment.{is_of_major}
use Rattle.node_semver.specs.declared.release_type.ReleaseType.{ReleaseType}
use Rattle.node_semver.specs.declared.release_type.ReleaseType.TheVariants as type

-- the kind of a release by its numbers
abbrev pub kind_of : Version → ReleaseType
kind_of v = if v.patch == 0 then (if v.minor == 0 then type.Major else type.Minor) else type.Patch

-- by the first number that differs, the kind of the step to a release, and to a pre-release
abbrev pub kinds : Version → Version → ReleaseType × ReleaseType
kinds low high =
    if not (low.major == high.major) then (type.Major, type.PreMajor)
    else if not (low.minor == high.minor) then (type.Minor, type.PreMinor)
    else if not (low.patch == high.patch) then (type.Patch, type.PrePatch)
    else (kind_of high, type.PreRelease)

-- the kind of the step from a version to a higher one
abbrev pub step : Version → Version → ReleaseType
step low high =
    if not (is_release high) then (kinds low high).1 else if is_of_major low then type.Major else (kinds low high).0

abbrev pub step_by : Ordering → Version → Version → Option ReleaseType
step_by Less v w = Some (step v w)
step_by Equal v w = None
step_by Greater v w = Some (step w v)

-- the kind of the step between two versions, in either direction; none if they have the same precedence
abbrev pub difference : Version → Version → Option ReleaseType
difference v w = step_by (precedence_cmp v w) v w
