use Rattle.std.proofs.Common.{take}
use Rattle.semver_req.specs.Kinds.{AreExpected, all_kinds}
use Rattle.semver_req.proofs.error_places.expected.expected_after.Given as goal

abbrev pub invariant-loop-kind : goal.invariant-loop-kind
invariant-loop-kind l = AreExpected l.fn.flavour l.prefix (take l.kind-index all_kinds) l.kinds.items
