-- Why JSON is rejected, and the result for JSON that parses.
use Rattle.std.specs.Prelude.{◌≡◌, ◌⊎◌, Result, MatchResult}
use Rattle.serde_json.specs.Data.{Data}
use Rattle.deno_semver.specs.declared.json.JsonError.{JsonError}
use Rattle.deno_semver.specs.declared.json.JsonError.TheVariants as error

-- out of memory, or the JSON doesn't parse to a value
abbrev pub IsJsonRejection : {T : Type 0} → (Data → T → Type 0) → Data → JsonError → Type 0
IsJsonRejection {T} ParsesTo json e = (e ≡ error.Memory) ⊎ ((value : T) → ParsesTo json value → ⊥)

-- the value, or out of memory
abbrev pub IsJsonAnswer : {T : Type 0} → T → Result T JsonError → Type 0
IsJsonAnswer value result = MatchResult result (λ answer. answer ≡ value) (λ e. e ≡ error.Memory)
