use Rattle.std.proofs.Common.{rules}
use Rattle.node_semver.specs.Coerce.{IsCoerced}
use Rattle.node_semver.proofs.Runs.{one_coerced}
use Rattle.node_semver.proofs.coerce.coerce.Goals as goal

pub returns-clause-only : goal.returns-clause-only
returns-clause-only c =
    let found : IsCoerced c.args.direction c.args.parts c.args.text.now c.map.result = search rules in
    λ other is. one_coerced c.args.parts c.args.direction c.args.text.now c.map.result other found is
