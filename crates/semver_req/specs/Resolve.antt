-- Which of several versions is chosen: of those that match, the first of the highest or of the lowest by precedence. Sources:
-- node-semver's `maxSatisfying` and `minSatisfying`.
use Rattle.std.specs.Prelude.{◌≡◌, ◌++◌, ◌∷◌, ◌&&◌, ℕ, List, Bool, true, false, not, length, Option, Some, None}
use Rattle.std.specs.List.{list_any}
use Rattle.std.specs.Ordering.{is_lt}
use Rattle.semver_base.specs.Precedence.{precedence_cmp}
use Rattle.semver_base.specs.declared.version.Version.{Version}

-- the one version is below the other by precedence
abbrev pub lower : Version → Version → Bool
lower one other = is_lt (precedence_cmp one other)

-- it is above the other
abbrev pub higher : Version → Version → Bool
higher one other = lower other one

-- the version at the index matches; no match is better, and none before it is as good. V is a version, or a line of a list that may have one.
pub record IsBestAt {V : Type 0} (better : V → V → Bool) (means : V → Bool) (versions : List V) (place : ℕ) (version : V) :
    Type 0 where
  pub before : List V
  pub after : List V
  pub stands : versions ≡ before ++ version ∷ after
  pub at_place : length before ≡ place
  pub matches : means version ≡ true
  pub best : list_any (λ other. means other && better other version) versions ≡ false
  pub first : list_any (λ other. means other && not (better version other)) before ≡ false

-- the index of the first of the best matches; none if no version matches
abbrev pub IsBestMatch : {V : Type 0} → (V → V → Bool) → (V → Bool) → List V → Option ℕ → Type 0
IsBestMatch better means versions None = list_any means versions ≡ false
IsBestMatch {V} better means versions (Some place) = (version : V) × IsBestAt better means versions place version

-- no other result is such an index
abbrev pub IsOnlyMatch : {V : Type 0} → (V → V → Bool) → (V → Bool) → List V → Option ℕ → Type 0
IsOnlyMatch better means versions answer = (other : Option ℕ) → IsBestMatch better means versions other → other ≡ answer
