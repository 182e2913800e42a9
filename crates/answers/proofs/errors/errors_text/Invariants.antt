use Rattle.std.proofs.Common.{◌≡◌, map, take}
use Rattle.serde_json.specs.View.{view}
use Rattle.answers.specs.Errors.{error_json}
use Rattle.answers.proofs.errors.errors_text.Given as goal

abbrev pub invariant-loop-error : goal.invariant-loop-error
invariant-loop-error l = map view l.items.items ≡ map error_json (take l.error-index l.errors)
