-- On which side of others a version lies. Source: node-semver's `gtr` and `ltr`: the version is greater, or less, than each version that the
-- range matches.
use Rattle.std.specs.Prelude.{Bool}
use Rattle.std.specs.Ordering.{is_gt, is_lt}
use Rattle.semver_base.specs.Precedence.{precedence_cmp}
use Rattle.semver_base.specs.declared.version.Version.{Version}
use Rattle.node_semver.specs.declared.outside.Side.{Side}
use Rattle.node_semver.specs.declared.outside.Side.TheVariants as side

-- the version lies on this side of the other one
abbrev pub lies : Side → Version → Version → Bool
lies side.Above v w = is_lt (precedence_cmp w v)
lies side.Below v w = is_gt (precedence_cmp w v)
