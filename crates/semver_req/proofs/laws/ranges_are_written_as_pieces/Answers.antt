use Rattle.semver_req.proofs.ReadSets.{read_writable}
use Rattle.semver_req.proofs.WrittenSets.{none_written_as_piece, written_pieces}
use Rattle.semver_req.proofs.laws.ranges_are_written_as_pieces.Goals as goal

pub returns : goal.returns
returns c = record { ranges = λ ranges h. written_pieces ranges (read_writable ranges h); none = none_written_as_piece }
