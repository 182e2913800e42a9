use Rattle.std.proofs.Common.{take}
use Rattle.semver_req.specs.Parsers.{AreReadOrTags}
use Rattle.answers.specs.Asking.{OutOfMemory}
use Rattle.answers.specs.Reading.{IsRangeAt, texts_of}
use Rattle.answers.proofs.Givens.{AreValues}
use Rattle.answers.proofs.reading.ranges.Given as goal

abbrev pub invariant-loop-text : goal.invariant-loop-text
invariant-loop-text l = record {
  values : AreValues OutOfMemory (IsRangeAt l.flavour) 0 (texts_of (take l.text-index l.texts)) l.all.items;
  read : AreReadOrTags l.all.items;
}
