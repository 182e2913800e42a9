-- What a piece parses to, and why an invalid one is invalid.
use Rattle.std.specs.Prelude.{◌≡◌, ℕ, List, ◌∷◌, map, Bool, true, false, Option, Some, None, if◌then◌else◌}
use Rattle.std.specs.List.{list_all}
use Rattle.semver_base.specs.Comparators.{Comparator, comparator_line, comparator_range}
use Rattle.semver_base.specs.Failure.{rejection_message}
use Rattle.semver_base.specs.Overlap.{ends_at_zero}
use Rattle.semver_base.specs.PartialTable.{all_fit}
use Rattle.semver_base.specs.declared.failure.Rejection.{Rejection}
use Rattle.semver_base.specs.declared.failure.Rejection.TheVariants.{BoundTooLarge, NumberTooLarge, UnexpectedCharacter}
use Rattle.semver_base.specs.declared.range.VersionRange.{VersionRange}
use Rattle.semver_req.specs.Comparators.{comparator_numbers}
use Rattle.semver_req.specs.RetainedSet.{folded, retained_range}
use Rattle.semver_req.specs.Outcome.{IsBad, IsGood}
use Rattle.semver_req.specs.Pieces.{ArePieces, IsPiece}
use Rattle.semver_req.specs.Parsers.{Failure}
use Rattle.semver_req.specs.declared.common.values.Flavour.{Flavour}
use Rattle.semver_req.specs.declared.range_set_or_tag.pieces.RangeOrInvalid.{RangeOrInvalid}
use Rattle.semver_req.specs.declared.range_set_or_tag.pieces.RangeOrInvalid.TheVariants as read

-- ---- joined comparators

abbrev pub numbers_fit : Comparator → Bool
numbers_fit c = all_fit (comparator_numbers c)

abbrev pub sums_fit : Comparator → Bool
sums_fit c = all_fit (comparator_line c).sums

-- the range, unless a number among the comparators is too large, or else a bound
abbrev pub read_as : List Comparator → VersionRange → RangeOrInvalid
read_as cs range =
    if list_all numbers_fit cs then (if list_all sums_fit cs then read.Range range else read.Invalid BoundTooLarge)
    else read.Invalid NumberTooLarge

-- the intersection of their ranges
abbrev pub joined : List Comparator → RangeOrInvalid
joined cs = read_as cs (folded (map comparator_range cs))

-- the range that is kept of them
abbrev pub as_retained : List Comparator → RangeOrInvalid
as_retained cs = read_as cs (retained_range cs)

-- ---- a piece

-- why the piece is invalid: it is outside the grammar, or a number in it is too large, or else a bound
pub data IsPieceRejection (f : Flavour) (piece : List ℕ) : Rejection → Type 0 where
  outside : ((cs : List Comparator) → IsPiece f piece cs → ⊥) → IsPieceRejection f piece UnexpectedCharacter
  large_number : (cs : List Comparator) → IsPiece f piece cs → list_all numbers_fit cs ≡ false
      → IsPieceRejection f piece NumberTooLarge
  large_bound : (cs : List Comparator) → IsPiece f piece cs → list_all numbers_fit cs ≡ true
      → list_all sums_fit cs ≡ false → IsPieceRejection f piece BoundTooLarge

-- what a piece parses to, which is followed by `||` or not
abbrev pub IsPieceRead : Flavour → Bool → List ℕ → RangeOrInvalid → Type 0
IsPieceRead f followed piece (read.Range range) =
    (cs : List Comparator) × IsGood f followed piece cs × (range ≡ retained_range cs)
IsPieceRead f followed piece (read.Invalid rejection) = IsBad f followed piece × IsPieceRejection f piece rejection

-- the range that a set keeps of a piece: None if it is invalid or ends below 0.0.0
abbrev pub retained_of : RangeOrInvalid → Option VersionRange
retained_of (read.Range range) = if ends_at_zero range.end then None else Some range
retained_of (read.Invalid rejection) = None

-- ---- a text

-- why the first invalid piece is invalid; true if the first piece is followed by `||`
pub data IsFirstBad (f : Flavour) : Bool → List (List ℕ) → Rejection → Type 0 where
  this_bad : {b : Bool} {piece : List ℕ} {pieces : List (List ℕ)} {rejection : Rejection} → IsBad f b piece
      → IsPieceRejection f piece rejection → IsFirstBad f b (piece ∷ pieces) rejection
  later_bad : {b : Bool} {piece : List ℕ} {pieces : List (List ℕ)} {rejection : Rejection} (cs : List Comparator)
      → IsGood f b piece cs → IsFirstBad f false pieces rejection → IsFirstBad f b (piece ∷ pieces) rejection

-- the failure that reports a `Rejection`, without a snippet
abbrev pub rejection_failure : Rejection → Failure
rejection_failure rejection = Some (rejection_message rejection, None)

-- why a parser rejects a text that is split at its `||`, and the failure that reports it
pub data IsCutRejection (f : Flavour) (text : List ℕ) : Failure → Type 0 where
  is_out_of_memory : IsCutRejection f text None
  bad_piece : {b : Bool} {pieces : List (List ℕ)} {rejection : Rejection} → ArePieces text b pieces
      → IsFirstBad f b pieces rejection → IsCutRejection f text (rejection_failure rejection)
