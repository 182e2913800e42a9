-- With none of the endings so far is the prefix a version's text.
use Rattle.std.proofs.Common.{◌<◌, ℕ, get_or}
use Rattle.semver_req.proofs.VersionTexts.{IsMadeBy, no_item}
use Rattle.semver_req.proofs.error_places.is_viable_version.Given as goal

abbrev pub invariant-loop-ending : goal.invariant-loop-ending
invariant-loop-ending l = (k : ℕ) → k < l.ending-index → IsMadeBy l.prefix (get_or l.ending-items k no_item).now → ⊥
