use Rattle.std.proofs.Common.{◌≡◌, map, take}
use Rattle.serde_json.specs.View.{view}
use Rattle.answers.specs.Explained.{shown}
use Rattle.answers.specs.ExplainedJson.{comparator_json}
use Rattle.answers.proofs.explained_json.comparators_json.Given as goal

abbrev pub invariant-loop-comparator : goal.invariant-loop-comparator
invariant-loop-comparator l = map view l.items.items ≡ map comparator_json (map shown (take l.comparator-index l.comparators))
