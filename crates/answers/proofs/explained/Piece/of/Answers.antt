use Rattle.answers.proofs.explained.Piece.of.Goals as goal

pub of-requires : goal.of-requires
of-requires c = rw c.in-Range.range-is (rw c.in-Range.is at c.requires)
