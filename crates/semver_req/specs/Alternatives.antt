-- The alternatives of a text, where they stand, and what a grammar makes of each: a range, or what is wrong with it.
use Rattle.std.specs.Prelude.{◌≡◌, ◌+◌, ◌-◌, ◌<◌, ℕ, List, [], ◌∷◌, length, map, Bool, true, false, Option, Some, None, Result, Ok, Err, IsUtf8}
use Rattle.std.specs.List.{AllByRecursion}
use Rattle.std.specs.Str.{trim, trim_end}
use Rattle.semver_base.specs.Comparators.{Comparator, comparator_range}
use Rattle.semver_base.specs.Grammar.{IsLongest}
use Rattle.semver_base.specs.Lexical.{IsWhitespace}
use Rattle.semver_base.specs.NormalText.{IsWritableRange}
use Rattle.semver_base.specs.declared.failure.Rejection.{Rejection}
use Rattle.semver_base.specs.declared.range.VersionRange.{VersionRange}
use Rattle.semver_req.specs.Comparators.{fits}
use Rattle.semver_req.specs.Outcome.{IsBad, IsSpecifierRange}
use Rattle.semver_req.specs.PieceReading.{IsPieceRead}
use Rattle.semver_req.specs.Pieces.{HasNoBar, IsCutAt, IsTrimmed}
use Rattle.semver_req.specs.Sizes.{Sized}
use Rattle.semver_req.specs.Viable.{IsErrorPlace, IsWholeText}
use Rattle.semver_req.specs.declared.common.values.Flavour.{Flavour}
use Rattle.semver_req.specs.declared.common.values.Flavour.TheVariants.{Npm, Normal, Specifier}
use Rattle.semver_req.specs.Causes.{IsCauseAt, IsFirstOutsideTag, IsRejected, rejection_of}
use Rattle.semver_req.specs.declared.error_places.Sizes.{Sizes}
use Rattle.semver_req.specs.declared.error_places.Sizes.TheVariants.{Any, Fitting}
use Rattle.semver_req.specs.declared.error_places.causes.Cause.{Cause}
use Rattle.semver_req.specs.declared.error_places.causes.Cause.TheVariants.{Unexpected, NoTag, Empty, NumberTooLarge, BoundTooLarge}
use Rattle.semver_req.specs.declared.error_places.expected.Kind.{Kind}
use Rattle.semver_req.specs.declared.error_places.pieces.Alternative.{Alternative}
use Rattle.semver_req.specs.declared.error_places.pieces.InvalidPiece.{InvalidPiece}
use Rattle.semver_req.specs.declared.error_places.pieces.Parsed.{Parsed}
use Rattle.semver_req.specs.declared.error_places.pieces.Parsed.TheVariants.{Range, Invalid}
use Rattle.semver_req.specs.declared.range_set_or_tag.pieces.RangeOrInvalid.TheVariants as read

-- ---- one alternative

-- what is wrong with a piece that starts here, and where
pub record IsErrorOf (f : Flavour) (start : ℕ) (piece : List ℕ) (e : InvalidPiece) : Type 0 where
  pub starts : e.start ≡ start
  pub ends : e.end ≡ start + length piece
  pub rejected : IsRejected f piece (rejection_of e.cause)
  pub outside : Option ℕ
  pub is_outside : IsFirstOutsideTag piece outside
  pub place : ℕ
  pub is_place : IsCauseAt f piece outside e.cause place
  pub there : e.place ≡ start + place

-- what a piece that starts here parses to, which is followed by `||` or not
abbrev pub IsParsedPiece : Flavour → Bool → ℕ → List ℕ → Parsed → Type 0
IsParsedPiece f followed start piece (Range range) = IsPieceRead f followed piece (read.Range range)
IsParsedPiece f followed start piece (Invalid e) = IsBad f followed piece × IsErrorOf f start piece e

-- the alternative is this piece, and what it parses to
pub record IsAlternative (f : Flavour) (followed : Bool) (start : ℕ) (piece : List ℕ) (a : Alternative) : Type 0 where
  pub is_text : a.text.now ≡ piece
  pub parsed : IsParsedPiece f followed start piece a.parsed

-- ---- the alternatives of a text

-- those of what follows a `||`, in their order, with so many bytes before it, which the indexes count, too: each starts behind the
-- whitespace that is skipped
pub data AreMoreAlternatives (f : Flavour) : ℕ → List ℕ → List Alternative → Type 0 where
  no_piece : {before : ℕ} {text : List ℕ} → IsTrimmed text [] → AreMoreAlternatives f before text []
  last_piece : {before : ℕ} {text piece : List ℕ} {a : Alternative} → IsTrimmed text piece → 0 < length piece
      → HasNoBar piece → IsAlternative f false (before + (length text - length piece)) piece a
      → AreMoreAlternatives f before text (a ∷ [])
  cut_piece : {before : ℕ} {text start piece rest : List ℕ} {a : Alternative} {others : List Alternative}
      → IsTrimmed text start → IsCutAt start piece rest
      → IsAlternative f false (before + (length text - length start)) piece a
      → AreMoreAlternatives f (before + (length text - length rest)) rest others
      → AreMoreAlternatives f before text (a ∷ others)

-- those of a text, split at its leftmost `||`, then the rest, and so on
pub data AreSplit (f : Flavour) (before : ℕ) (text : List ℕ) : List Alternative → Type 0 where
  one_piece : {a : Alternative} → HasNoBar text → IsAlternative f false before text a → AreSplit f before text (a ∷ [])
  first_cut : {piece rest : List ℕ} {a : Alternative} {others : List Alternative} → IsCutAt text piece rest
      → IsAlternative f true before piece a → AreMoreAlternatives f (before + (length text - length rest)) rest others
      → AreSplit f before text (a ∷ others)

-- those of a text that is trimmed first
pub record AreTrimmed (f : Flavour) (before : ℕ) (text : List ℕ) (alternatives : List Alternative) : Type 0 where
  pub rest : List ℕ
  pub whitespace : IsLongest IsWhitespace text tt rest
  pub split : AreSplit f (before + (length text - length rest)) (trim text) alternatives

-- what the strict grammar makes of a whole text: the range of a comparator that fits, or what is wrong
abbrev pub IsStrictlyParsed : ℕ → List ℕ → Parsed → Type 0
IsStrictlyParsed before text (Range range) =
    (c : Comparator) × IsSpecifierRange text c × (fits c ≡ true) × (range ≡ comparator_range c)
IsStrictlyParsed before text (Invalid e) = IsErrorOf Specifier before text e

-- the whole text is the only alternative
pub data IsWhole (before : ℕ) (text : List ℕ) : List Alternative → Type 0 where
  is_whole : {a : Alternative} → a.text.now ≡ text → IsStrictlyParsed before text a.parsed → IsWhole before text (a ∷ [])

-- the alternatives of a text in the grammar of a flavour, with so many bytes before it; the strict one doesn't split a text
abbrev pub AreAlternatives : Flavour → ℕ → List ℕ → List Alternative → Type 0
AreAlternatives Npm before text alternatives = AreTrimmed Npm before text alternatives
AreAlternatives Normal before text alternatives = AreSplit Normal before text alternatives
AreAlternatives Specifier before text alternatives = IsWhole before text alternatives

-- the texts of a range's bounds parse back
abbrev pub IsWritable : Parsed → Type 0
IsWritable (Range range) = IsWritableRange range
IsWritable (Invalid e) = Unit {0}

abbrev pub AreWritable : List Alternative → Type 0
AreWritable alternatives = AllByRecursion (λ (a : Alternative). IsWritable a.parsed) alternatives

-- ---- those that are invalid

-- with the error of an alternative, if it is invalid
abbrev pub with_error : Parsed → List InvalidPiece → List InvalidPiece
with_error (Range range) errors = errors
with_error (Invalid e) errors = e ∷ errors

-- the errors of alternatives, in their order
abbrev pub errors_of : List Alternative → List InvalidPiece
errors_of [] = []
errors_of (a ∷ alternatives) = with_error a.parsed (errors_of alternatives)

-- the errors of a text's alternatives, with so many bytes before it
abbrev pub AreInvalidBehind : Flavour → ℕ → List ℕ → List InvalidPiece → Type 0
AreInvalidBehind f before text errors =
    (alternatives : List Alternative) × AreAlternatives f before text alternatives × (errors ≡ errors_of alternatives)

-- with none before it
abbrev pub AreInvalidPieces : Flavour → List ℕ → List InvalidPiece → Type 0
AreInvalidPieces f text errors = AreInvalidBehind f 0 text errors

-- ---- one list

-- what a cause says is expected: kinds of text, and whether a text may end
abbrev pub expectation : Cause → Option (List Kind × Bool)
expectation (Unexpected e) = Some (e.kinds.items, e.may_end)
expectation NoTag = None
expectation Empty = None
expectation NumberTooLarge = None
expectation BoundTooLarge = None

-- what an error says: its three indexes, why the alternative is rejected, and what is expected
abbrev pub reported : InvalidPiece → ℕ × ℕ × ℕ × Rejection × Option (List Kind × Bool)
reported e = (e.start, e.end, e.place, rejection_of e.cause, expectation e.cause)

-- the range, or what the error says
abbrev pub parsed_as : Parsed → Result VersionRange (ℕ × ℕ × ℕ × Rejection × Option (List Kind × Bool))
parsed_as (Range range) = Ok range
parsed_as (Invalid e) = Err (reported e)

-- what an alternative says
abbrev pub told : Alternative → List ℕ × Result VersionRange (ℕ × ℕ × ℕ × Rejection × Option (List Kind × Bool))
told a = (a.text.now, parsed_as a.parsed)

-- a text has one list of alternatives: two say the same
abbrev pub TextsHaveOneListOfAlternatives : Type 0
TextsHaveOneListOfAlternatives = (f : Flavour) (before : ℕ) (text : List ℕ) (alternatives others : List Alternative)
    → AreAlternatives f before text alternatives → AreAlternatives f before text others
    → map told alternatives ≡ map told others

-- so a text has one list of errors
abbrev pub TextsHaveOneListOfErrors : Type 0
TextsHaveOneListOfErrors = (f : Flavour) (before : ℕ) (text : List ℕ) (errors others : List InvalidPiece)
    → AreInvalidBehind f before text errors → AreInvalidBehind f before text others → map reported errors ≡ map reported others

-- ---- the first error

-- the sizes of numbers of the grammar that a text leaves at an error with this cause, if it leaves one
abbrev pub left_by : Cause → Option Sizes
left_by (Unexpected e) = Some Any
left_by NoTag = None
left_by Empty = None
left_by NumberTooLarge = Some Fitting
left_by BoundTooLarge = None

-- what of a text the place of an error counts: npm's parser trims the text, so not the whitespace at its end
abbrev pub counted : Flavour → List ℕ → List ℕ
counted Npm text = trim_end text
counted Normal text = text
counted Specifier text = text

-- if the first invalid alternative leaves the grammar, the whole text leaves it at the same place; and so it is with the grammar of
-- numbers that fit, if the first invalid alternative has a number that is too large
abbrev pub TextsLeaveTheirGrammarAtTheFirstError : Type 0
TextsLeaveTheirGrammarAtTheFirstError = (f : Flavour) (before : ℕ) (text : List ℕ) (e : InvalidPiece) (errors : List InvalidPiece)
    (sizes : Sizes) → IsUtf8 text → AreInvalidBehind f before text (e ∷ errors) → left_by e.cause ≡ Some sizes
    → (place : ℕ) × (e.place ≡ before + place) × IsErrorPlace (Sized sizes (IsWholeText f)) (counted f text) place
