-- The bisection: what ends at or before low goes on, and nothing that ends at or behind high does.
use Rattle.std.proofs.Common.{◌≤◌, ◌<◌, ◌-◌, ℕ, length, take, IsCharBoundary}
use Rattle.semver_req.specs.Viable.{IsTextOf, IsViablePrefix}
use Rattle.semver_req.proofs.error_places.longest_viable.Given as goal

abbrev pub invariant-loop-high : goal.invariant-loop-high
invariant-loop-high l = record {
  starts : l.behind ≤ l.low;
  order : l.low < l.high;
  within : l.high ≤ length l.text;
  below : (n : ℕ) → IsCharBoundary l.text n → n ≤ l.low → IsViablePrefix (IsTextOf l.grammar) (take n l.text);
  above : (n : ℕ) → IsCharBoundary l.text n → l.high ≤ n → IsViablePrefix (IsTextOf l.grammar) (take n l.text) → ⊥;
}

abbrev pub decreases-loop-high : goal.decreases-loop-high
decreases-loop-high l = l.high - l.low
