use Rattle.std.proofs.Common.{◌≡◌, map, take}
use Rattle.serde_json.specs.View.{view}
use Rattle.answers.specs.Parts.{range_json}
use Rattle.answers.proofs.parts.range_parts.Given as goal

abbrev pub invariant-loop-range : goal.invariant-loop-range
invariant-loop-range l = map view l.items.items ≡ map range_json (take l.range-index l.range-items)
