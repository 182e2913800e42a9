-- What is still to come behind the piece completes the alternatives so far.
use Rattle.std.proofs.Common.{◌+◌, ◌<◌, ◌^◌, length}
use Rattle.semver_req.proofs.Alternatives.{Completes}
use Rattle.semver_req.proofs.error_places.pieces.split.Given as goal

abbrev pub invariant-loop-all : goal.invariant-loop-all
invariant-loop-all l = record {
  so_far : Completes l.flavour l.before l.text l.piece l.all.items;
  within : l.piece.start + length l.piece.text.now < 2 ^ 64;
  behind : l.piece.behind + length l.piece.rest.now < 2 ^ 64;
}

abbrev pub decreases-loop-all : goal.decreases-loop-all
decreases-loop-all l = length l.piece.rest.now
