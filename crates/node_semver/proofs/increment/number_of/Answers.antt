use Rattle.std.proofs.Common.{◌∙◌, ap}
use Rattle.semver_base.specs.Precedence.{number_of}
use Rattle.node_semver.proofs.Numbers.{parsed_number}
use Rattle.node_semver.proofs.increment.number_of.Goals as goal

pub returns : goal.returns
returns c = c.ok.ensures.value ∙ (parsed_number _ _ c.parse.ensures.value.0 ∙ ap number_of c.as_str.ensures.value)
