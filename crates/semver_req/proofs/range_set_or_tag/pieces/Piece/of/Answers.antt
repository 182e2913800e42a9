use Rattle.std.proofs.Common.{◌∷◌, ap, arith, length, length-append, refl}
use Rattle.semver_req.specs.PieceSteps.{is_cut, is_whole}
use Rattle.semver_req.proofs.range_set_or_tag.pieces.Piece.of.Goals as goal

pub returns-in-Some : goal.returns-in-Some
returns-in-Some c = record {
  split = is_cut c.in-Some.ensures;
  starts = refl;
  behind = omega (arith, ap length c.in-Some.ensures.text_is, length-append c.in-Some.piece.now (124 ∷ 124 ∷ c.in-Some.rest.now));
}

pub returns-in-None : goal.returns-in-None
returns-in-None c = record { split = is_whole c.in-None.ensures refl; starts = refl; behind = omega arith }
