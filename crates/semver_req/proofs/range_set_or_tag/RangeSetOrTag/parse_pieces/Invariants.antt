use Rattle.std.proofs.Common.{◌≡◌, ◌+◌, ◌∷◌, ◌++◌, ℕ, List, length}
use Rattle.semver_req.specs.PieceSteps.{AreRead}
use Rattle.semver_req.specs.Pieces.{AreMorePieces}
use Rattle.semver_req.proofs.range_set_or_tag.RangeSetOrTag.parse_pieces.Given as goal

abbrev pub invariant-loop-next : goal.invariant-loop-next
invariant-loop-next l = record {
  others : List (List ℕ);
  joins : (more : List (List ℕ)) → AreMorePieces l.piece.rest.now more → AreMorePieces l.first.rest.now (others ++ more);
  read : AreRead l.flavour l.first.is_followed (l.first.text.now ∷ others) l.all;
  behind : l.piece.behind + length l.piece.rest.now ≡ length l.text;
}

abbrev pub decreases-loop-next : goal.decreases-loop-next
decreases-loop-next l = length l.piece.rest.now
