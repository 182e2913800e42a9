-- The pieces of a requirement: how a text is split at `||`, and which comparators a piece parses to. Source: node-semver's
-- range grammar (`range-set`, `logical-or`, `range`), with the separators `&&` and `,` that npm accepts.
use Rattle.std.specs.Prelude.{◌≡◌, ◌<◌, ◌≤◌, ℕ, List, [], ◌∷◌, ◌++◌, length, drop, Bool, true, false, Option, Some, None, codes}
use Rattle.semver_base.specs.Characters.{bar, hyphen_sign}
use Rattle.semver_base.specs.Comparators.{Comparator, Hyphen}
use Rattle.semver_base.specs.Grammar.{After, Before, Either, Followed, IsLongest, IsText, Listed, Mapped, Prefixed}
use Rattle.semver_base.specs.Lexical.{IsWhitespace, IsSomeWhitespace}
use Rattle.semver_base.specs.declared.partial.Partial.{Partial}
use Rattle.semver_req.specs.Comparators.{IsComparator}
use Rattle.semver_req.specs.Partials.{IsPartial}
use Rattle.semver_req.specs.declared.common.values.Flavour.{Flavour}
use Rattle.semver_req.specs.declared.common.values.Flavour.TheVariants.{Npm, Normal, Specifier}

-- ---- a piece

abbrev pub IsListOperator : List ℕ → Unit {0} → Type 0
IsListOperator = Either (IsText (codes "&&")) (IsText (codes ","))

-- between npm's comparators: `&&` or `,` with optional whitespace on both sides, or whitespace alone
abbrev pub IsNpmSeparator : List ℕ → Unit {0} → Type 0
IsNpmSeparator = Either (After IsWhitespace (After IsListOperator IsWhitespace)) IsSomeWhitespace

-- between the comparators of a grammar; the strict one has no lists
abbrev pub IsSeparator : Flavour → List ℕ → Unit {0} → Type 0
IsSeparator Npm = IsNpmSeparator
IsSeparator Normal = IsSomeWhitespace
IsSeparator Specifier = λ text v. ⊥

-- comparators with separators between them, and at most one at the end
abbrev pub IsComparators : Flavour → List ℕ → List Comparator → Type 0
IsComparators f = Listed (IsComparator f) (IsSeparator f)

abbrev pub hyphen : Partial × Partial → List Comparator
hyphen v = Hyphen v.0 v.1 ∷ []

-- a partial, and the whitespace after it
abbrev pub IsUpper : List ℕ → Partial → Type 0
IsUpper = Before (IsPartial Npm) IsWhitespace

-- a `-` with whitespace on both sides, and a partial
abbrev pub IsHyphened : List ℕ → Partial → Type 0
IsHyphened = After IsSomeWhitespace (Prefixed hyphen_sign (After IsSomeWhitespace IsUpper))

-- two partials around a `-`
abbrev pub IsHyphenPair : List ℕ → Partial × Partial → Type 0
IsHyphenPair = Followed (IsPartial Npm) IsHyphened

abbrev pub IsHyphen : List ℕ → List Comparator → Type 0
IsHyphen = Mapped hyphen IsHyphenPair

-- a piece that isn't empty
abbrev pub IsFilled : Flavour → List ℕ → List Comparator → Type 0
IsFilled Npm = Either IsHyphen (Listed (IsComparator Npm) IsNpmSeparator)
IsFilled Normal = Listed (IsComparator Normal) IsSomeWhitespace
IsFilled Specifier = λ text comparators. ⊥

-- the empty piece, which is everything, or one that isn't empty
abbrev pub IsPiece : Flavour → List ℕ → List Comparator → Type 0
IsPiece f text [] = text ≡ []
IsPiece f text (c ∷ cs) = IsFilled f text (c ∷ cs)

-- every piece of the normalized grammar is one of npm's, with the same comparators
abbrev pub NormalPiecesAreNpms : Type 0
NormalPiecesAreNpms = (text : List ℕ) (cs : List Comparator) → IsPiece Normal text cs → IsPiece Npm text cs

-- ---- operators

-- the byte m twice, with optional whitespace on both sides
abbrev pub IsOperator : ℕ → List ℕ → Unit {0} → Type 0
IsOperator m = After IsWhitespace (After (IsText (m ∷ m ∷ [])) IsWhitespace)

-- a parser's result at a position in a text, as one on the text from there on
abbrev pub place_answer : List ℕ → Option ℕ → Option (Unit {0} × List ℕ)
place_answer text None = None
place_answer text (Some place) = Some (tt, drop place text)

-- ---- how a text is split

-- the two flavours whose texts are split into pieces
pub data IsCutting : Flavour → Type 0 where
  npm : IsCutting Npm
  normal : IsCutting Normal

-- the text has no `||`
abbrev pub HasNoBar : List ℕ → Type 0
HasNoBar text = (a b : List ℕ) → text ≡ a ++ (bar ∷ bar ∷ b) → ⊥

-- the text is the piece, `||` and the rest, with no `||` before that one
pub record IsCutAt (text piece rest : List ℕ) : Type 0 where
  pub text_is : text ≡ piece ++ (bar ∷ bar ∷ rest)
  pub leftmost : (a b : List ℕ) → text ≡ a ++ (bar ∷ bar ∷ b) → length piece ≤ length a

-- the text is whitespace and then the rest, which doesn't begin with whitespace
pub record IsTrimmed (text rest : List ℕ) : Type 0 where
  pub longest : IsLongest IsWhitespace text tt rest

-- the pieces of what follows a `||`: leading whitespace is skipped, and what is then empty isn't a piece
pub data AreMorePieces : List ℕ → List (List ℕ) → Type 0 where
  no_piece : {text : List ℕ} → IsTrimmed text [] → AreMorePieces text []
  last_piece : {text piece : List ℕ} → IsTrimmed text piece → 0 < length piece → HasNoBar piece
      → AreMorePieces text (piece ∷ [])
  cut_piece : {text start piece rest : List ℕ} {pieces : List (List ℕ)} → IsTrimmed text start
      → IsCutAt start piece rest → AreMorePieces rest pieces → AreMorePieces text (piece ∷ pieces)

-- the pieces of a text, split at its leftmost `||`, then the rest, and so on; true if the first piece is followed by `||`
pub data ArePieces : List ℕ → Bool → List (List ℕ) → Type 0 where
  one_piece : {text : List ℕ} → HasNoBar text → ArePieces text false (text ∷ [])
  first_cut : {text piece rest : List ℕ} {pieces : List (List ℕ)} → IsCutAt text piece rest → AreMorePieces rest pieces
      → ArePieces text true (piece ∷ pieces)
