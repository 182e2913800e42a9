use Rattle.std.proofs.Common.{take}
use Rattle.semver_base.specs.declared.version.Version.{Version}
use Rattle.answers.proofs.Givens.{AreValues}
use Rattle.answers.specs.Asking.{OutOfMemory}
use Rattle.answers.specs.Filtering.{IsLine}
use Rattle.answers.specs.Reading.{texts_of}
use Rattle.answers.proofs.filtering.version_lines.Given as goal

abbrev pub invariant-loop-text : goal.invariant-loop-text
invariant-loop-text l = AreValues OutOfMemory (IsLine (λ (v : Version). v)) 0 (texts_of (take l.text-index l.texts)) l.lines.items
