use Rattle.std.proofs.Common.{◌≡◌, None, take}
use Rattle.answers.specs.Questions.{first_tag}
use Rattle.answers.proofs.questions.first_tag.Given as goal

abbrev pub invariant-loop-range : goal.invariant-loop-range
invariant-loop-range l = first_tag (take l.range-index l.ranges) ≡ None
