-- The names of the kinds of releases. Source: node-semver's documentation of `inc`.
use Rattle.std.specs.Prelude.{ℕ, List, codes}
use Rattle.node_semver.specs.declared.release_type.ReleaseType.{ReleaseType}
use Rattle.node_semver.specs.declared.release_type.ReleaseType.TheVariants as type

abbrev pub release_type_name : ReleaseType → List ℕ
release_type_name type.Major = codes "major"
release_type_name type.Minor = codes "minor"
release_type_name type.Patch = codes "patch"
release_type_name type.PreMajor = codes "premajor"
release_type_name type.PreMinor = codes "preminor"
release_type_name type.PrePatch = codes "prepatch"
release_type_name type.PreRelease = codes "prerelease"
release_type_name type.Release = codes "release"
