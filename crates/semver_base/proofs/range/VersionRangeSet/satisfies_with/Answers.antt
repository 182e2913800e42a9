use Rattle.std.proofs.Common.{◌∙◌}
use Rattle.semver_base.specs.Meaning.{any_alternatives}
use Rattle.semver_base.proofs.range.VersionRangeSet.satisfies_with.Goals as goal

pub returns : goal.returns
returns c = c.has_match.ensures ∙ any_alternatives c.args.pre_release c.args.self.now.0 c.args.version.now
