-- Steps of the search for the best matching version.
use Rattle.std.specs.Prelude.{◌≡◌, ◌++◌, ◌∷◌, ◌&&◌, [], ℕ, List, Bool, true, false, length, Option, Some, None}
use Rattle.std.specs.Borrow.{Bor}
use Rattle.std.specs.Cmp.{IsStrictWeakOrder}
use Rattle.std.specs.List.{list_any}
use Rattle.semver_base.specs.declared.version.Version.{Version}
use Rattle.semver_req.specs.Resolve.{IsBestAt, IsBestMatch, higher, lower}
use Rattle.semver_req.specs.declared.resolve.End.{End}
use Rattle.semver_req.specs.declared.resolve.End.TheVariants as end

-- which of two versions is nearer to this end
abbrev pub nearer : End → Version → Version → Bool
nearer end.Highest one other = higher one other
nearer end.Lowest one other = lower one other

-- the version is nearer than the best match so far, if any
abbrev pub exceeds : {V : Type 0} → (V → V → Bool) → V → Option (ℕ × V) → Bool
exceeds near version None = true
exceeds near version (Some known) = near version known.1

-- the best match so far, by value
abbrev pub known_of : Option (ℕ × Bor Version) → Option (ℕ × Version)
known_of None = None
known_of (Some known) = Some (known.0, known.1.now)

-- what is known of the versions seen so far: the best match, or that none matches
abbrev pub IsKnown : {V : Type 0} → (V → V → Bool) → (V → Bool) → List V → Option (ℕ × V) → Type 0
IsKnown near means seen None = list_any means seen ≡ false
IsKnown near means seen (Some known) = IsBestAt near means seen known.0 known.1

-- one more version becomes the best match if it matches and is nearer than the best so far, and changes nothing otherwise; and
-- no list has two results
pub record OneWalkFinds {V : Type 0} (near : V → V → Bool) (means : V → Bool) : Type 0 where
  pub stays : (seen : List V) (known : Option (ℕ × V)) (v : V) → IsKnown near means seen known
      → (means v && exceeds near v known) ≡ false → IsKnown near means (seen ++ v ∷ []) known
  pub taken : (seen : List V) (known : Option (ℕ × V)) (place : ℕ) (v : V) → length seen ≡ place
      → IsKnown near means seen known → (means v && exceeds near v known) ≡ true
      → IsKnown near means (seen ++ v ∷ []) (Some (place, v))
  pub only : (versions : List V) (one other : Option ℕ) → IsBestMatch near means versions one
      → IsBestMatch near means versions other → other ≡ one

-- so one walk finds the best match in any order
abbrev pub OneWalkFindsTheBest : Type 0 → Type 0
OneWalkFindsTheBest V = (near : V → V → Bool) → IsStrictWeakOrder near → (means : V → Bool) → OneWalkFinds near means
