-- What the steps of `coerce` return.
use Rattle.std.specs.Prelude.{◌≡◌, ℕ, Bool, List, [], Option, Some, None, length, nat_lt, if◌then◌else◌}
use Rattle.node_semver.specs.Coerce.{BeginsWith, IsRunBehind}
use Rattle.node_semver.specs.declared.coerce.Parts.{Parts}
use Rattle.node_semver.specs.declared.coerce.Run.{Run}

-- the text begins with a version and the bytes behind it
pub record BeginsWithRun (kept : Parts) (text : List ℕ) (run : Run) : Type 0 where
  pub rest : List ℕ
  pub begins : BeginsWith kept text run.version rest
  pub behind : run.behind ≡ length rest

-- the version that the text begins with, if there is one
abbrev pub IsLeading : Parts → List ℕ → Option Run → Type 0
IsLeading kept text None = (run : Run) → BeginsWithRun kept text run → ⊥
IsLeading kept text (Some run) = BeginsWithRun kept text run

-- the same, unless a digit comes before the text
abbrev pub IsRunAt : Parts → Bool → List ℕ → Option Run → Type 0
IsRunAt kept after text None = (run : Run) → IsRunBehind kept after text [] run → ⊥
IsRunAt kept after text (Some run) = IsRunBehind kept after text [] run

-- the one that ends last; of two that end together the first
abbrev pub ending_last : Option Run → Option Run → Option Run
ending_last None later = later
ending_last (Some first) None = Some first
ending_last (Some first) (Some later) = if nat_lt later.behind first.behind then Some later else Some first
