-- Whether a requirement allows the version that a string holds.
use Rattle.std.specs.Prelude.{◌≡◌, ℕ, List, Option}
use Rattle.std.specs.Option.{option_map}
use Rattle.semver_base.specs.declared.version.Version.{Version}
use Rattle.semver_req.specs.declared.range_set_or_tag.RangeSetOrTag.{RangeSetOrTag}
use Rattle.node_semver.specs.Coerce.{IsCoerced}
use Rattle.node_semver.specs.declared.coerce.Direction.TheVariants as direction
use Rattle.node_semver.specs.declared.coerce.Parts.TheVariants as parts
use Rattle.callers.specs.Allowance.{allowance_of}
use Rattle.callers.specs.declared.requirements.Allowance.{Allowance}

-- whether it allows the first version of the text, with all its parts; none if there is no version
pub record AllowsHeld (requirement : RangeSetOrTag) (text : List ℕ) (answer : Option Allowance) : Type 0 where
  pub found : Option Version
  pub holds : IsCoerced direction.LeftToRight parts.All text found
  pub allows : answer ≡ option_map (allowance_of requirement) found
