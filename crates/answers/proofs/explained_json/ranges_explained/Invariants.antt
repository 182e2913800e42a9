use Rattle.std.proofs.Common.{◌≡◌, map, take}
use Rattle.serde_json.specs.View.{view}
use Rattle.answers.specs.ExplainedJson.{alternative_json}
use Rattle.answers.proofs.explained_json.ranges_explained.Given as goal

abbrev pub invariant-loop-piece : goal.invariant-loop-piece
invariant-loop-piece l = map view l.items.items ≡ map (alternative_json l.pre_release) (take l.piece-index l.pieces)
