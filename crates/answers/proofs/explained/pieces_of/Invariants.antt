use Rattle.answers.specs.Explained.{AreExplained}
use Rattle.answers.proofs.explained.pieces_of.Given as goal

abbrev pub invariant-loop-alternative : goal.invariant-loop-alternative
invariant-loop-alternative l = AreExplained l.flavour l.pre_release l.yielded l.pieces.items
