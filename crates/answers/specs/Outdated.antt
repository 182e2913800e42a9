-- Whether a range is outdated, in a list of versions.
use Rattle.std.specs.Prelude.{◌==◌, ◌||◌, ℕ, Bool, not, true, Option, None, Some}
use Rattle.semver_base.specs.Meaning.{is_unrestricted}
use Rattle.semver_base.specs.declared.range.PreRelease.{PreRelease}
use Rattle.semver_base.specs.declared.version.Version.{Version}
use Rattle.semver_req.specs.Requirement.{inner_means_with}
use Rattle.semver_req.specs.declared.range_set_or_tag.RangeSetOrTag.{RangeSetOrTag}

-- which versions count: the releases, those that the range matches, and all if pre-releases are admitted
abbrev pub counts : PreRelease → RangeSetOrTag → Version → Bool
counts flag read v = is_unrestricted flag v || inner_means_with flag read v

-- with the places of the highest version that the range matches, and of the highest that counts: it matches none, or another one is higher
abbrev pub is_outdated : Option ℕ → Option ℕ → Bool
is_outdated None highest = true
is_outdated (Some matching) None = true
is_outdated (Some matching) (Some highest) = not (matching == highest)
