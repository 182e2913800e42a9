use Rattle.std.proofs.Common.{◌≡◌, take, map}
use Rattle.serde_json.specs.View.{view}
use Rattle.deno_semver.proofs.json.object.items_json.Given as goal

abbrev pub invariant-loop-value : goal.invariant-loop-value
invariant-loop-value g l = map view l.items.items ≡ map g.T.JsonForm.json (take l.value-index l.values)
