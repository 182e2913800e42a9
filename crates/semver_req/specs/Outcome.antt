-- The outcome of a text in each grammar: the comparators of its alternatives, a tag, or an error. Source: node-semver's
-- parsing of range sets for npm's and the normalized parser; the strict parser is `deno_semver`'s own.
use Rattle.std.specs.Prelude.{◌≡◌, ◌<◌, ℕ, List, [], ◌∷◌, length, map, Bool, true, false, ◌⊎◌}
use Rattle.std.specs.List.{list_all}
use Rattle.std.specs.Str.{trim}
use Rattle.semver_base.specs.Comparators.{Comparator, comparator_range}
use Rattle.semver_base.specs.Grammar.{HasNone, IsLongest}
use Rattle.semver_base.specs.Lexical.{IsWhitespace}
use Rattle.semver_base.specs.declared.range.VersionRange.{VersionRange}
use Rattle.semver_req.specs.Comparators.{IsComparator, fits}
use Rattle.semver_req.specs.Pieces.{ArePieces, IsPiece}
use Rattle.semver_req.specs.Tag.{is_valid_tag}
use Rattle.semver_req.specs.declared.common.values.Flavour.{Flavour}
use Rattle.semver_req.specs.declared.common.values.Flavour.TheVariants.{Npm, Normal, Specifier}

-- the tree of ranges has a list of comparators for each alternative, in order
pub data Outcome : Type 0 where
  Ranges : List (List Comparator) → Outcome
  Tag : List ℕ → Outcome
  Rejected : Outcome

-- the bounds of the comparators of a tree
abbrev pub tree_ranges : List (List Comparator) → List (List VersionRange)
tree_ranges tree = map (λ comparators. map comparator_range comparators) tree

-- the text as a tag if it is a valid one, otherwise an error
pub data IsTagOr : List ℕ → Outcome → Type 0 where
  tag : {text : List ℕ} → is_valid_tag text ≡ true → IsTagOr text (Tag text)
  no_tag : {text : List ℕ} → is_valid_tag text ≡ false → IsTagOr text Rejected

-- ---- npm's and the normalized parser

-- the piece is valid: comparators of the grammar that all fit, or whitespace before a `||`, which is everything
abbrev pub IsGood : Flavour → Bool → List ℕ → List Comparator → Type 0
IsGood f followed piece cs =
    (IsPiece f piece cs × (list_all fits cs ≡ true)) ⊎ ((followed ≡ true) × IsWhitespace piece tt × (cs ≡ []))

abbrev pub IsBad : Flavour → Bool → List ℕ → Type 0
IsBad f followed piece = (cs : List Comparator) → IsGood f followed piece cs → ⊥

-- the valid ones of these pieces, in order
pub data AreGoodOnes (f : Flavour) : Bool → List (List ℕ) → List (List Comparator) → Type 0 where
  none_left : {b : Bool} → AreGoodOnes f b [] []
  good : {b : Bool} {piece : List ℕ} {pieces : List (List ℕ)} {cs : List Comparator} {tree : List (List Comparator)}
      → IsGood f b piece cs → AreGoodOnes f false pieces tree → AreGoodOnes f b (piece ∷ pieces) (cs ∷ tree)
  bad : {b : Bool} {piece : List ℕ} {pieces : List (List ℕ)} {tree : List (List Comparator)} → IsBad f b piece
      → AreGoodOnes f false pieces tree → AreGoodOnes f b (piece ∷ pieces) tree

-- the outcome of a text that is split at its `||`
pub data IsCutOutcome : Flavour → List ℕ → Outcome → Type 0 where
  -- exactly one piece
  one_good : {f : Flavour} {text piece : List ℕ} {b : Bool} {cs : List Comparator} → ArePieces text b (piece ∷ [])
      → IsGood f b piece cs → IsCutOutcome f text (Ranges (cs ∷ []))
  one_bad : {f : Flavour} {text piece : List ℕ} {b : Bool} {o : Outcome} → ArePieces text b (piece ∷ [])
      → IsBad f b piece → IsTagOr (trim piece) o → IsCutOutcome f text o
  -- two or more: npm ignores invalid ones, the normalized parser rejects the whole text for one
  npm_many : {text one two : List ℕ} {more : List (List ℕ)} {b : Bool} {tree : List (List Comparator)}
      → ArePieces text b (one ∷ two ∷ more) → AreGoodOnes Npm b (one ∷ two ∷ more) tree
      → IsCutOutcome Npm text (Ranges tree)
  normal_many : {text one two : List ℕ} {more : List (List ℕ)} {b : Bool} {tree : List (List Comparator)}
      → ArePieces text b (one ∷ two ∷ more) → AreGoodOnes Normal b (one ∷ two ∷ more) tree
      → length tree ≡ length (one ∷ two ∷ more) → IsCutOutcome Normal text (Ranges tree)
  normal_rejected : {text one two : List ℕ} {more : List (List ℕ)} {b : Bool} {tree : List (List Comparator)}
      → ArePieces text b (one ∷ two ∷ more) → AreGoodOnes Normal b (one ∷ two ∷ more) tree
      → length tree < length (one ∷ two ∷ more) → IsCutOutcome Normal text Rejected

-- ---- the strict parser

-- the prefix of a text that the strict parser takes
abbrev pub IsSpecifierRange : List ℕ → Comparator → Type 0
IsSpecifierRange = IsComparator Specifier

-- if the longest prefix that is a range of a specifier fits, it is the whole text or the text is rejected; without such a
-- prefix, or if something in it doesn't fit, the whole text is a tag or rejected
pub data IsSpecifierOutcome : List ℕ → Outcome → Type 0 where
  whole : {text : List ℕ} {c : Comparator} → IsLongest IsSpecifierRange text c [] → fits c ≡ true
      → IsSpecifierOutcome text (Ranges ((c ∷ []) ∷ []))
  left_over : {text rest : List ℕ} {c : Comparator} → IsLongest IsSpecifierRange text c rest → fits c ≡ true
      → 0 < length rest → IsSpecifierOutcome text Rejected
  no_front : {text : List ℕ} {o : Outcome} → HasNone IsSpecifierRange text → IsTagOr text o → IsSpecifierOutcome text o
  no_fit : {text rest : List ℕ} {c : Comparator} {o : Outcome} → IsLongest IsSpecifierRange text c rest → fits c ≡ false
      → IsTagOr text o → IsSpecifierOutcome text o

-- ---- the three parsers

-- the text that is parsed: npm's parser trims it first
abbrev pub worked_on : Flavour → List ℕ → List ℕ
worked_on Npm text = trim text
worked_on Normal text = text
worked_on Specifier text = text

-- the outcome of a text, as it is given, in the grammar of a flavour
abbrev pub IsOutcome : Flavour → List ℕ → Outcome → Type 0
IsOutcome Npm text o = IsCutOutcome Npm (trim text) o
IsOutcome Normal text o = IsCutOutcome Normal text o
IsOutcome Specifier text o = IsSpecifierOutcome text o

-- no text has two outcomes
abbrev pub TextsHaveOneOutcome : Type 0
TextsHaveOneOutcome = (f : Flavour) (text : List ℕ) (o p : Outcome) → IsOutcome f text o → IsOutcome f text p → o ≡ p
