-- Where a text leaves a grammar; the textbook's viable prefixes.
use Rattle.std.specs.Prelude.{◌≡◌, ◌⊎◌, ℕ, List, [], ◌∷◌, ◌++◌, ◌≤◌, Bool, true, false, take, codes, IsUtf8, Ok}
use Rattle.std.specs.Str.{IsCharBoundary, trim}
use Rattle.semver_base.specs.Comparators.{Comparator}
use Rattle.semver_base.specs.Grammar.{Mapped}
use Rattle.semver_base.specs.Lexical.{IsWhitespace}
use Rattle.semver_base.specs.VersionGrammar.{IsVersionOutcome}
use Rattle.semver_base.specs.declared.version.Version.{Version}
use Rattle.semver_req.specs.Outcome.{IsSpecifierRange}
use Rattle.semver_req.specs.Pieces.{ArePieces, IsPiece}
use Rattle.semver_req.specs.declared.common.values.Flavour.{Flavour}
use Rattle.semver_req.specs.declared.common.values.Flavour.TheVariants.{Npm, Normal, Specifier}
use Rattle.semver_req.specs.declared.error_places.Grammar.{Grammar}
use Rattle.semver_req.specs.declared.error_places.Grammar.TheVariants.{Ranges, Versions}
use Rattle.semver_req.specs.Sizes.{Sized}
use Rattle.semver_req.specs.declared.error_places.Sizes.{Sizes}

-- ---- of any grammar

-- some text of the grammar begins with the prefix
pub record IsViablePrefix {V : Type 0} (R : List ℕ → V → Type 0) (prefix : List ℕ) : Type 0 where
  pub more : List ℕ
  pub value : V
  pub is_text : IsUtf8 more
  pub stands : R (prefix ++ more) value

-- the place is the end of the longest prefix of the text that is viable
pub record IsErrorPlace {V : Type 0} (R : List ℕ → V → Type 0) (text : List ℕ) (place : ℕ) : Type 0 where
  pub boundary : IsCharBoundary text place
  pub viable : IsViablePrefix R (take place text)
  pub longest : (n : ℕ) → IsCharBoundary text n → IsViablePrefix R (take n text) → n ≤ place

-- ---- of the grammars of version requirements

-- an alternative of the grammar, or whitespace before `||`
abbrev pub IsAnyPiece : Flavour → Bool → List ℕ → List Comparator → Type 0
IsAnyPiece f followed text cs = IsPiece f text cs ⊎ ((followed ≡ true) × IsWhitespace text tt × (cs ≡ []))

-- an alternative, alone or with the `||` that follows
pub data IsPieceOrCut (f : Flavour) : List ℕ → List Comparator → Type 0 where
  alone : {text : List ℕ} {cs : List Comparator} → IsPiece f text cs → IsPieceOrCut f text cs
  cut : {piece : List ℕ} {cs : List Comparator} → IsAnyPiece f true piece cs → IsPieceOrCut f (piece ++ codes "||") cs

-- the texts of each grammar: alternatives, and ranges of the strict one
abbrev pub IsPart : Flavour → List ℕ → List Comparator → Type 0
IsPart Npm = IsPieceOrCut Npm
IsPart Normal = IsPieceOrCut Normal
IsPart Specifier = Mapped (λ c. c ∷ []) IsSpecifierRange

abbrev pub HasPiece : Flavour → Sizes → Bool → List ℕ → Type 0
HasPiece f sizes followed text = (cs : List Comparator) × Sized sizes (IsAnyPiece f followed) text cs

abbrev pub HasRange : Sizes → List ℕ → Type 0
HasRange sizes text = (cs : List Comparator) × Sized sizes (IsPart Specifier) text cs

-- ---- of whole texts

-- pieces that are all alternatives of the grammar, and their comparators; true if the first piece is followed by `||`
pub data AreInGrammar (f : Flavour) : Bool → List (List ℕ) → List Comparator → Type 0 where
  no_pieces : {followed : Bool} → AreInGrammar f followed [] []
  with_piece : {followed : Bool} {piece : List ℕ} {pieces : List (List ℕ)} {cs others : List Comparator}
      → IsAnyPiece f followed piece cs → AreInGrammar f false pieces others
      → AreInGrammar f followed (piece ∷ pieces) (cs ++ others)

-- the text, split at its `||`, has alternatives of the grammar alone
pub record IsSplitText (f : Flavour) (text : List ℕ) (cs : List Comparator) : Type 0 where
  pub followed : Bool
  pub pieces : List (List ℕ)
  pub split : ArePieces text followed pieces
  pub are : AreInGrammar f followed pieces cs

-- the whole texts of each grammar: of npm's they are trimmed first
abbrev pub IsWholeText : Flavour → List ℕ → List Comparator → Type 0
IsWholeText Npm = λ text cs. IsSplitText Npm (trim text) cs
IsWholeText Normal = IsSplitText Normal
IsWholeText Specifier = IsPart Specifier

-- ---- of versions

-- a version whose numbers fit in 64 bits, with whitespace around it or not
abbrev pub IsVersionText : List ℕ → Version → Type 0
IsVersionText text v = IsVersionOutcome (trim text) (Ok v)

-- ---- of every grammar

-- what a text of the grammar is parsed to
abbrev pub ValueOf : Grammar → Type 0
ValueOf (Ranges f sizes) = List Comparator
ValueOf Versions = Version

abbrev pub IsTextOf : (g : Grammar) → List ℕ → ValueOf g → Type 0
IsTextOf (Ranges f sizes) = Sized sizes (IsPart f)
IsTextOf Versions = IsVersionText
