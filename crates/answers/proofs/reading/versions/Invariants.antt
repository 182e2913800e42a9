use Rattle.std.proofs.Common.{take}
use Rattle.answers.specs.Asking.{OutOfMemory}
use Rattle.answers.specs.Reading.{IsVersionAt, texts_of}
use Rattle.answers.proofs.Givens.{AreValues}
use Rattle.answers.proofs.reading.versions.Given as goal

abbrev pub invariant-loop-text : goal.invariant-loop-text
invariant-loop-text l = AreValues OutOfMemory IsVersionAt 0 (texts_of (take l.text-index l.texts)) l.all.items
