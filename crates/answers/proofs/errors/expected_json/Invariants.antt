use Rattle.std.proofs.Common.{◌≡◌, map, take}
use Rattle.serde_json.specs.Data.{string}
use Rattle.serde_json.specs.View.{view}
use Rattle.answers.specs.Errors.{kind_name}
use Rattle.answers.proofs.errors.expected_json.Given as goal

abbrev pub invariant-loop-kind : goal.invariant-loop-kind
invariant-loop-kind l = map view l.names.items ≡ map (λ kind. string (kind_name kind)) (take l.kind-index l.kinds)
