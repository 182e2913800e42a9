-- What a grammar makes of a range's text, alternative by alternative.
use Rattle.std.specs.Prelude.{◌≡◌, ◌↔◌, ℕ, IsTrue, List, [], ◌∷◌, map, string_bytes}
use Rattle.semver_base.specs.LowestVersion.{IsLowest, PassesSome}
use Rattle.semver_base.specs.Meaning.{is_pre_match, range_means_with}
use Rattle.semver_base.specs.declared.range.PreRelease.{PreRelease}
use Rattle.semver_base.specs.declared.range.VersionRange.{VersionRange}
use Rattle.semver_base.specs.declared.range.VersionRangeSet.{VersionRangeSet}
use Rattle.semver_req.specs.Alternatives.{AreAlternatives}
use Rattle.semver_req.specs.ComparatorLists.{AreComparators}
use Rattle.semver_req.specs.Parsers.{IsReading}
use Rattle.semver_req.specs.Requirement.{inner_text}
use Rattle.semver_req.specs.declared.common.values.Flavour.{Flavour}
use Rattle.semver_req.specs.declared.error_places.pieces.Alternative.{Alternative}
use Rattle.semver_req.specs.declared.error_places.pieces.Parsed.{Parsed}
use Rattle.semver_req.specs.declared.error_places.pieces.Parsed.TheVariants as parsed
use Rattle.semver_req.specs.declared.range_set_or_tag.RangeSetOrTag.TheVariants as inner
use Rattle.semver_req.specs.declared.range_set_or_tag.pieces.RangeOrInvalid.{RangeOrInvalid}
use Rattle.semver_req.specs.declared.range_set_or_tag.pieces.RangeOrInvalid.TheVariants as read
use Rattle.answers.specs.declared.explained.Comparator.{Comparator}
use Rattle.answers.specs.declared.explained.Explanation.{Explanation}
use Rattle.answers.specs.declared.explained.Explanation.TheVariants as explanation
use Rattle.answers.specs.declared.explained.Matches.{Matches}
use Rattle.answers.specs.declared.explained.Meaning.{Meaning}
use Rattle.answers.specs.declared.explained.Meaning.TheVariants as meaning
use Rattle.answers.specs.declared.explained.Piece.{Piece}

-- what the range matches: the lowest version, and whether pre-releases of its start's and its end's numbers match
pub record AreMatches (flag : PreRelease) (matches : Matches) : Type 0 where
  pub lowest : IsLowest (range_means_with flag matches.range) matches.lowest
  pub of_start : IsTrue matches.pre_of_start ↔ PassesSome (is_pre_match matches.range matches.range.start)
  pub of_end : IsTrue matches.pre_of_end ↔ PassesSome (is_pre_match matches.range matches.range.end)

-- the range, with what it matches
abbrev pub IsMeaningOfRange : PreRelease → VersionRange → Meaning → Type 0
IsMeaningOfRange flag range (meaning.Range matches) = (matches.range ≡ range) × AreMatches flag matches
IsMeaningOfRange flag range (meaning.LeftOut error) = ⊥

-- the range with what it matches, or what is wrong
abbrev pub IsMeaningOf : PreRelease → Parsed → Meaning → Type 0
IsMeaningOf flag (parsed.Range range) m = IsMeaningOfRange flag range m
IsMeaningOf flag (parsed.Invalid error) m = m ≡ meaning.LeftOut error

-- with a comparator before the others, if it parses to a range
abbrev pub with_range : List ℕ → RangeOrInvalid → List (List ℕ × VersionRange) → List (List ℕ × VersionRange)
with_range text (read.Range range) others = (text, range) ∷ others
with_range text (read.Invalid rejection) others = others

-- the comparators in which no number and no bound is too large
abbrev pub fitting : List (List ℕ × RangeOrInvalid) → List (List ℕ × VersionRange)
fitting [] = []
fitting (item ∷ items) = with_range item.0 item.1 (fitting items)

-- those of an alternative; none if it isn't made of comparators
pub data AreFitting (f : Flavour) (text : List ℕ) : List (List ℕ × VersionRange) → Type 0 where
  of_comparators : {items : List (List ℕ × RangeOrInvalid)} → AreComparators f text items → AreFitting f text (fitting items)
  of_none : ((items : List (List ℕ × RangeOrInvalid)) → AreComparators f text items → ⊥) → AreFitting f text []

-- the text of a comparator, and its range
abbrev pub shown : Comparator → List ℕ × VersionRange
shown c = (string_bytes c.text, c.range)

-- the alternative as written, with its meaning and its comparators
pub record IsExplainedPiece (f : Flavour) (flag : PreRelease) (a : Alternative) (piece : Piece) : Type 0 where
  pub text : string_bytes piece.text ≡ a.text.now
  pub meaning : IsMeaningOf flag a.parsed piece.meaning
  pub comparators : AreFitting f a.text.now (map shown piece.comparators.items)

-- so are all of them, in their order
abbrev pub AreExplained : Flavour → PreRelease → List Alternative → List Piece → Type 0
AreExplained f flag [] [] = Unit {0}
AreExplained f flag (a ∷ alternatives) (piece ∷ pieces) = IsExplainedPiece f flag a piece × AreExplained f flag alternatives pieces
AreExplained f flag [] (piece ∷ pieces) = ⊥
AreExplained f flag (a ∷ alternatives) [] = ⊥

-- the alternatives of the text, each with its meaning
pub record AreItsPieces (f : Flavour) (flag : PreRelease) (text : List ℕ) (pieces : List Piece) : Type 0 where
  pub alternatives : List Alternative
  pub are : AreAlternatives f 0 text alternatives
  pub explained : AreExplained f flag alternatives pieces

-- the tag that the text parses to; or its alternatives, and the canonical form of its ranges
abbrev pub IsExplained : Flavour → PreRelease → List ℕ → Explanation → Type 0
IsExplained f flag text (explanation.Tag tag) = IsReading f text (inner.Tag tag)
IsExplained f flag text (explanation.Ranges pieces normal) = (set : VersionRangeSet) × IsReading f text (inner.RangeSet set)
    × AreItsPieces f flag text pieces.items × (string_bytes normal ≡ inner_text (inner.RangeSet set))
