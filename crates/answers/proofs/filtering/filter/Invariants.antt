use Rattle.std.proofs.Common.{take}
use Rattle.semver_base.specs.declared.version.Version.{Version}
use Rattle.semver_req.specs.Requirement.{inner_means_with}
use Rattle.answers.proofs.Givens.{AreValues}
use Rattle.answers.specs.Asking.{OutOfMemory}
use Rattle.answers.specs.Filtering.{LineMatch}
use Rattle.answers.specs.Reading.{texts_of}
use Rattle.answers.proofs.filtering.filter.Given as goal

abbrev pub invariant-loop-text : goal.invariant-loop-text
invariant-loop-text l = AreValues OutOfMemory (LineMatch (λ (v : Version). inner_means_with l.pre_release l.range.inner v)) 0 (texts_of (take l.text-index l.version_texts)) l.answers.items
