-- The comparators of an alternative, each as written, and what it parses to by itself.
use Rattle.std.specs.Prelude.{◌≡◌, ℕ, List, [], ◌∷◌}
use Rattle.semver_base.specs.Comparators.{Comparator}
use Rattle.semver_base.specs.Grammar.{Listed}
use Rattle.semver_base.specs.Lexical.{IsWhitespace}
use Rattle.semver_req.specs.Comparators.{IsComparator}
use Rattle.semver_req.specs.PieceReading.{as_retained}
use Rattle.semver_req.specs.Pieces.{IsCutting, IsHyphen, IsSeparator}
use Rattle.semver_req.specs.declared.common.values.Flavour.{Flavour}
use Rattle.semver_req.specs.declared.common.values.Flavour.TheVariants.{Npm}
use Rattle.semver_req.specs.declared.comparators.ParsedComparator.{ParsedComparator}
use Rattle.semver_req.specs.declared.range_set_or_tag.pieces.RangeOrInvalid.{RangeOrInvalid}

-- a comparator's text, and what it parses to by itself
pub record IsItem (f : Flavour) (text : List ℕ) (item : List ℕ × RangeOrInvalid) : Type 0 where
  pub comparator : Comparator
  pub stands : IsComparator f text comparator
  pub is : item ≡ (text, as_retained (comparator ∷ []))

-- the comparators of an alternative, in their order: whitespace has none, and npm's hyphen range is one
pub data AreComparators (f : Flavour) (text : List ℕ) : List (List ℕ × RangeOrInvalid) → Type 0 where
  of_whitespace : IsCutting f → IsWhitespace text tt → AreComparators f text []
  of_hyphen : {cs : List Comparator} → f ≡ Npm → IsHyphen text cs → AreComparators f text ((text, as_retained cs) ∷ [])
  of_list : {items : List (List ℕ × RangeOrInvalid)} → Listed (IsItem f) (IsSeparator f) text items → AreComparators f text items

-- the text of a comparator, and what was parsed
abbrev pub told : ParsedComparator → List ℕ × RangeOrInvalid
told c = (c.text.now, c.parsed)

-- an alternative has one list of comparators
abbrev pub AlternativesHaveOneListOfComparators : Type 0
AlternativesHaveOneListOfComparators = (f : Flavour) (text : List ℕ) (items others : List (List ℕ × RangeOrInvalid))
    → AreComparators f text items → AreComparators f text others → items ≡ others
