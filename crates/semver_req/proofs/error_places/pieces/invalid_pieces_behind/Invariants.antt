use Rattle.std.proofs.Common.{◌≡◌}
use Rattle.semver_req.specs.Alternatives.{errors_of}
use Rattle.semver_req.proofs.error_places.pieces.invalid_pieces_behind.Given as goal

abbrev pub invariant-loop-alternative : goal.invariant-loop-alternative
invariant-loop-alternative l = l.errors.items ≡ errors_of l.yielded
