use Rattle.std.proofs.Common.{arith}
use Rattle.semver_req.proofs.CausesWithin.{cause_within}
use Rattle.semver_req.proofs.error_places.pieces.InvalidPiece.of.Goals as goal

pub overflow_add-result-2 : goal.overflow_add-result-2
overflow_add-result-2 c =
    let found = c.in_ok-found.ensures.value in
    omega (arith, c.requires.in_memory, cause_within c.args.flavour c.args.piece.now found.0 c.in_ok-found.found.cause c.in_ok-found.found.place found.1 found.2)
