-- Texts behind a front of comparators, of which no more has to be known than that they are lists.
use Rattle.std.specs.Prelude.{◌≡◌, ◌↔◌, ◌⊎◌, ◌<◌, ◌==◌, ℕ, List, [], ◌∷◌, ◌++◌, Bool, true, length, take, drop}
use Rattle.std.specs.List.{list_all}
use Rattle.std.specs.Str.{IsCharBoundary}
use Rattle.semver_base.specs.Characters.{bar}
use Rattle.semver_base.specs.Comparators.{Comparator}
use Rattle.semver_base.specs.GrammarLaws.{Begins}
use Rattle.semver_req.specs.Comparators.{IsComparator}
use Rattle.semver_req.specs.Pieces.{IsComparators, IsSeparator}
use Rattle.semver_req.specs.Sizes.{Sized}
use Rattle.semver_req.specs.Viable.{HasPiece}
use Rattle.semver_req.specs.declared.common.values.Flavour.{Flavour}
use Rattle.semver_req.specs.declared.common.values.Flavour.TheVariants.{Npm, Normal, Specifier}
use Rattle.semver_req.specs.declared.error_places.Grammar.{Grammar}
use Rattle.semver_req.specs.declared.error_places.Grammar.TheVariants.{Ranges, Versions}
use Rattle.semver_req.specs.declared.error_places.Sizes.{Sizes}

-- the text is a list of comparators
abbrev pub HasList : Flavour → Sizes → List ℕ → Type 0
HasList f sizes text = (cs : List Comparator) × Sized sizes (IsComparators f) text cs

-- the text begins with a byte with which comparators begin
abbrev pub Leads : Flavour → List ℕ → Type 0
Leads f [] = ⊥
Leads f (x ∷ rest) = Begins (IsComparator f) x

-- what begins as comparators do is an alternative behind the front where it is a list
pub record IsFrontOfLists (f : Flavour) (sizes : Sizes) (front : List ℕ) : Type 0 where
  pub behind : (followed : Bool) (text : List ℕ) → Leads f text → HasList f sizes text ↔ HasPiece f sizes followed (front ++ text)

-- nothing stands before the text, or such a front
abbrev pub IsBehind : Flavour → Sizes → List ℕ → List ℕ → Type 0
IsBehind f sizes front text = (front ≡ []) ⊎ (IsFrontOfLists f sizes front × Leads f text)

-- what stands before the place is nothing, or such a front, with a comparator behind it
pub record IsListedAt (f : Flavour) (sizes : Sizes) (text : List ℕ) (place : ℕ) : Type 0 where
  pub boundary : IsCharBoundary text place
  pub behind : IsBehind f sizes (take place text) (drop place text)

-- the same in each grammar: those without lists have no such fronts
abbrev pub IsFrontAt : Grammar → List ℕ → ℕ → Type 0
IsFrontAt (Ranges Npm sizes) text place = IsListedAt Npm sizes text place
IsFrontAt (Ranges Normal sizes) text place = IsListedAt Normal sizes text place
IsFrontAt (Ranges Specifier sizes) text place = place ≡ 0
IsFrontAt Versions text place = place ≡ 0

abbrev pub StandsBehind : Grammar → List ℕ → List ℕ → Type 0
StandsBehind (Ranges Npm sizes) front text = IsBehind Npm sizes front text
StandsBehind (Ranges Normal sizes) front text = IsBehind Normal sizes front text
StandsBehind (Ranges Specifier sizes) front text = front ≡ []
StandsBehind Versions front text = front ≡ []

-- the text is a comparator whose numbers have these sizes, a separator, and the rest
pub record IsItemBefore (f : Flavour) (sizes : Sizes) (text rest : List ℕ) : Type 0 where
  pub item : List ℕ
  pub separator : List ℕ
  pub value : Comparator
  pub text_is : text ≡ item ++ (separator ++ rest)
  pub is_item : IsComparator f item value
  pub is_separator : IsSeparator f separator tt
  pub sized : Sized sizes (IsComparators f) item (value ∷ [])

-- one bar or more
pub record AreBars (text : List ℕ) : Type 0 where
  pub some : 0 < length text
  pub bars : list_all (λ x. x == bar) text ≡ true
