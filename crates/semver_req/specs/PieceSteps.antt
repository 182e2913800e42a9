-- The steps in which the pieces of a text are parsed; no public contract cites them.
use Rattle.std.specs.Prelude.{◌≡◌, ◌<◌, ◌==◌, ◌⊎◌, ◌+◌, ◌-◌, ℕ, List, [], ◌∷◌, ◌++◌, length, Bool, true, false, Option, Some, None, option_to_list}
use Rattle.semver_base.specs.Comparators.{Comparator}
use Rattle.semver_base.specs.Lexical.{IsWhitespace}
use Rattle.semver_base.specs.declared.failure.Rejection.{Rejection}
use Rattle.semver_base.specs.declared.partial.Partial.{Partial}
use Rattle.semver_req.specs.RetainedSet.{retained}
use Rattle.semver_req.specs.Outcome.{AreGoodOnes}
use Rattle.semver_req.specs.Partials.{sized_partial}
use Rattle.semver_req.specs.PieceReading.{IsFirstBad, IsPieceRead, as_retained, retained_of}
use Rattle.semver_req.specs.Pieces.{AreMorePieces, ArePieces, HasNoBar, IsCutAt, IsTrimmed, hyphen}
use Rattle.semver_req.specs.declared.common.HyphenRange.{HyphenRange}
use Rattle.semver_req.specs.declared.common.values.Flavour.{Flavour}
use Rattle.semver_req.specs.declared.range_set_or_tag.pieces.Alternatives.{Alternatives}
use Rattle.semver_req.specs.declared.range_set_or_tag.pieces.Piece.{Piece}
use Rattle.semver_req.specs.declared.range_set_or_tag.pieces.RangeOrInvalid.{RangeOrInvalid}
use Rattle.semver_req.specs.declared.range_set_or_tag.pieces.RangeOrInvalid.TheVariants as read

-- ---- splitting

-- the first piece of a text, and what follows its `||`; nothing follows the only one
abbrev pub IsFirstPiece : List ℕ → List ℕ → Bool → List ℕ → Type 0
IsFirstPiece text piece followed rest =
    (pieces : List (List ℕ)) → AreMorePieces rest pieces → ArePieces text followed (piece ∷ pieces)

-- the piece that a text begins with, whether it is a first piece that a `||` follows, and what follows its `||`
pub data IsSplitOff (first : Bool) (text piece : List ℕ) : Bool → List ℕ → Type 0 where
  is_whole : HasNoBar text → piece ≡ text → IsSplitOff first text piece false []
  is_cut : {rest : List ℕ} → IsCutAt text piece rest → IsSplitOff first text piece first rest

-- that piece of a text with so many bytes before it, and where it and what follows it start
pub record IsPieceOf (first : Bool) (before : ℕ) (text : List ℕ) (p : Piece) : Type 0 where
  pub split : IsSplitOff first text p.text.now p.is_followed p.rest.now
  pub starts : p.start ≡ before
  pub behind : p.behind + length p.rest.now ≡ before + length text

-- the next piece, which begins behind whitespace, or none
abbrev pub IsNextPiece : Piece → Option Piece → Type 0
IsNextPiece p None = IsTrimmed p.rest.now []
IsNextPiece p (Some next) = (text : List ℕ) × IsTrimmed p.rest.now text × (0 < length text)
    × IsPieceOf false (p.behind + (length p.rest.now - length text)) text next

-- ---- parsing

-- the piece is empty, or whitespace followed by `||`
abbrev pub IsEverything : Bool → List ℕ → Type 0
IsEverything followed piece = (piece ≡ []) ⊎ ((followed ≡ true) × IsWhitespace piece tt)

-- a hyphen range, with both of its partial versions measured
abbrev pub sized_hyphen : Partial × Partial → HyphenRange
sized_hyphen v = record { lower = sized_partial v.0; upper = sized_partial v.1 }

-- what a hyphen range parses to, if this is what was measured of it
abbrev pub IsHyphenRead : HyphenRange → RangeOrInvalid → Type 0
IsHyphenRead measured answer = (v : Partial × Partial) → measured ≡ sized_hyphen v → answer ≡ as_retained (hyphen v)

-- the whole piece is comparators of the grammar, which parse to this, or it isn't any
abbrev pub IsWholeRead : (List ℕ → List Comparator → Type 0) → List ℕ → Option RangeOrInvalid → Type 0
IsWholeRead R piece None = (cs : List Comparator) → R piece cs → ⊥
IsWholeRead R piece (Some answer) = (cs : List Comparator) × R piece cs × (answer ≡ as_retained cs)

-- why the first invalid piece is invalid, with one more piece
abbrev pub first_rejection : Option Rejection → RangeOrInvalid → Option Rejection
first_rejection (Some rejection) piece = Some rejection
first_rejection None (read.Range range) = None
first_rejection None (read.Invalid rejection) = Some rejection

pub record IsOneMore (piece : RangeOrInvalid) (old new : Alternatives) : Type 0 where
  pub ranges : new.ranges ≡ old.ranges ++ option_to_list (retained_of piece)
  pub rejected : new.rejected ≡ first_rejection old.rejected piece
  pub is_only : new.is_only ≡ old.is_only

-- with one more piece, which is followed by `||` or not
pub record IsAdded (f : Flavour) (followed : Bool) (piece : List ℕ) (old new : Alternatives) : Type 0 where
  pub answer : RangeOrInvalid
  pub read : IsPieceRead f followed piece answer
  pub more : IsOneMore answer old new

-- all the pieces are valid, or the first invalid one is so for this reason
abbrev pub IsRejectionOf : Flavour → Bool → List (List ℕ) → List (List Comparator) → Option Rejection → Type 0
IsRejectionOf f b pieces tree None = length tree ≡ length pieces
IsRejectionOf f b pieces tree (Some rejection) = (length tree < length pieces) × IsFirstBad f b pieces rejection

-- what these pieces parse to
pub record AreRead (f : Flavour) (b : Bool) (pieces : List (List ℕ)) (all : Alternatives) : Type 0 where
  pub tree : List (List Comparator)
  pub good_ones : AreGoodOnes f b pieces tree
  pub retained : all.ranges ≡ retained f tree
  pub reported : IsRejectionOf f b pieces tree all.rejected
  pub is_only : all.is_only ≡ (length pieces == 1)

-- what the first piece and those of what follows its `||` parse to
pub record AreAllRead (f : Flavour) (piece : List ℕ) (b : Bool) (rest : List ℕ) (all : Alternatives) : Type 0 where
  pub others : List (List ℕ)
  pub more : AreMorePieces rest others
  pub read : AreRead f b (piece ∷ others) all
