-- What is wrong with an invalid alternative, and where.
use Rattle.std.specs.Prelude.{◌≡◌, ◌⊎◌, ◌+◌, ◌-◌, ◌<◌, ◌&&◌, ℕ, List, length, take, Bool, not, true, false, Option, Some, None, IfSome}
use Rattle.std.specs.Str.{NoCharPasses}
use Rattle.std.specs.Str.Pattern.{HasPassingCharAt}
use Rattle.semver_base.specs.Comparators.{Comparator}
use Rattle.semver_base.specs.Grammar.{HasNone, IsLongest}
use Rattle.semver_base.specs.Lexical.{IsWhitespace}
use Rattle.semver_base.specs.declared.failure.Rejection.{Rejection}
use Rattle.semver_base.specs.declared.failure.Rejection.TheVariants as rejection
use Rattle.semver_req.specs.Comparators.{IsComparator, fits}
use Rattle.semver_req.specs.Outcome.{IsSpecifierRange}
use Rattle.semver_req.specs.PieceReading.{IsPieceRejection, numbers_fit, sums_fit}
use Rattle.semver_req.specs.Pieces.{IsHyphen, IsSeparator}
use Rattle.semver_req.specs.Tag.{is_tag_character}
use Rattle.semver_req.specs.declared.common.values.Flavour.{Flavour}
use Rattle.semver_req.specs.declared.common.values.Flavour.TheVariants.{Npm, Normal, Specifier}
use Rattle.semver_req.specs.Kinds.{IsExpectation}
use Rattle.semver_req.specs.Sizes.{Sized}
use Rattle.semver_req.specs.Viable.{IsErrorPlace, IsPart}
use Rattle.semver_req.specs.declared.error_places.Sizes.TheVariants.{Fitting}
use Rattle.semver_req.specs.declared.error_places.causes.Cause.{Cause}
use Rattle.semver_req.specs.declared.error_places.causes.Cause.TheVariants.{Unexpected, NoTag, Empty, NumberTooLarge, BoundTooLarge}
use Rattle.semver_req.specs.declared.error_places.expected.Expected.{Expected}

-- ---- why

-- why the parser rejects an alternative, by its cause
abbrev pub rejection_of : Cause → Rejection
rejection_of (Unexpected expected) = rejection.UnexpectedCharacter
rejection_of NoTag = rejection.UnexpectedCharacter
rejection_of Empty = rejection.EmptyConstraint
rejection_of NumberTooLarge = rejection.NumberTooLarge
rejection_of BoundTooLarge = rejection.BoundTooLarge

-- why a text isn't a range of the strict grammar: it is only whitespace, something follows the range that it begins with or it doesn't
-- begin with one, or a number of that range is too large, or else a bound
pub data IsStrictRejection (text : List ℕ) : Rejection → Type 0 where
  whitespace : IsWhitespace text tt → IsStrictRejection text rejection.EmptyConstraint
  no_range : HasNone IsSpecifierRange text → (IsWhitespace text tt → ⊥) → IsStrictRejection text rejection.UnexpectedCharacter
  followed : {c : Comparator} {rest : List ℕ} → IsLongest IsSpecifierRange text c rest → fits c ≡ true → 0 < length rest
      → IsStrictRejection text rejection.UnexpectedCharacter
  front_number : {c : Comparator} {rest : List ℕ} → IsLongest IsSpecifierRange text c rest → numbers_fit c ≡ false
      → IsStrictRejection text rejection.NumberTooLarge
  front_bound : {c : Comparator} {rest : List ℕ} → IsLongest IsSpecifierRange text c rest → numbers_fit c ≡ true
      → sums_fit c ≡ false → IsStrictRejection text rejection.BoundTooLarge

-- why the parser rejects an alternative; of the strict grammar that is the whole text
abbrev pub IsRejected : Flavour → List ℕ → Rejection → Type 0
IsRejected Npm piece why = IsPieceRejection Npm piece why
IsRejected Normal piece why = IsPieceRejection Normal piece why
IsRejected Specifier piece why = IsStrictRejection piece why

-- ---- where

abbrev pub is_outside_tag : ℕ → Bool
is_outside_tag c = not (is_tag_character c)

-- where the first character is that no tag has, if there is one
abbrev pub IsFirstOutsideTag : List ℕ → Option ℕ → Type 0
IsFirstOutsideTag text None = NoCharPasses is_outside_tag text
IsFirstOutsideTag text (Some place) =
    NoCharPasses is_outside_tag (take place text) × ((end : ℕ) × HasPassingCharAt is_outside_tag text place end)

-- the numbers of the comparator fit, and a bound doesn't
abbrev pub overflows : Comparator → Bool
overflows c = numbers_fit c && not (sums_fit c)

-- where the first comparator that overflows starts; the text begins with comparators, with a separator between neighbours
pub data IsFirstOverflow (f : Flavour) : List ℕ → ℕ → Type 0 where
  this_overflows : {c : Comparator} {text rest : List ℕ} → IsLongest (IsComparator f) text c rest → overflows c ≡ true
      → IsFirstOverflow f text 0
  later_overflows : {c : Comparator} {text rest next : List ℕ} {place : ℕ} → IsLongest (IsComparator f) text c rest
      → overflows c ≡ false → IsLongest (IsSeparator f) rest tt next → IsFirstOverflow f next place
      → IsFirstOverflow f text ((length text - length next) + place)

-- where an alternative has a bound that is too large: at the start of the first comparator that overflows, or of a hyphen range
pub data IsBoundAt : Flavour → List ℕ → ℕ → Type 0 where
  comparator : {f : Flavour} {piece : List ℕ} {place : ℕ} → IsFirstOverflow f piece place → IsBoundAt f piece place
  hyphen_range : {piece : List ℕ} {cs : List Comparator} → IsHyphen piece cs → IsBoundAt Npm piece 0

-- where an alternative is wrong: at the place at which it leaves the grammar; but if that is its start, and tags begin like it, at the
-- first character that no tag has. If a number is too large, at the place at which it leaves the grammar of numbers that fit: at the digit
-- with which it no longer does. If a bound is, at the start of its comparator.
pub data IsCauseAt (f : Flavour) (piece : List ℕ) (outside : Option ℕ) : Cause → ℕ → Type 0 where
  unexpected : {place : ℕ} {expected : Expected} → IsErrorPlace (IsPart f) piece place
      → (0 < place) ⊎ IfSome outside (λ n. n ≡ 0) → IsExpectation f (take place piece) expected
      → IsCauseAt f piece outside (Unexpected expected) place
  no_tag : {place : ℕ} → IsErrorPlace (IsPart f) piece 0 → outside ≡ Some place → 0 < place
      → IsCauseAt f piece outside NoTag place
  empty : IsCauseAt f piece outside Empty 0
  too_large : {place : ℕ} → IsErrorPlace (Sized Fitting (IsPart f)) piece place → IsCauseAt f piece outside NumberTooLarge place
  bound_too_large : {place : ℕ} → IsBoundAt f piece place → IsCauseAt f piece outside BoundTooLarge place
