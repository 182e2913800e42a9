-- Comparators and pieces of plain texts.
use Rattle.std.specs.Prelude.{◌≡◌, ◌⊎◌, ℕ, List, [], ◌∷◌, ◌++◌, codes, false, true}
use Rattle.semver_base.specs.Characters.{dot, space}
use Rattle.semver_base.specs.Comparators.{Comparator, Hyphen, comparator_line, greater, less, primitive_kind_text}
use Rattle.semver_base.specs.Grammar.{IsLongest}
use Rattle.semver_base.specs.Lexical.{IsQualifier}
use Rattle.semver_base.specs.Meaning.{everything, from, release}
use Rattle.semver_base.specs.Overlap.{ends_at_zero}
use Rattle.semver_base.specs.PartialTable.{IsLineRange, between, greater_than, less_than, of_short, with_qualifier}
use Rattle.semver_base.specs.ShortTexts.{IsShortFront, IsTripleFront}
use Rattle.semver_base.specs.declared.lexical.values.Qualifier.{Qualifier}
use Rattle.semver_base.specs.declared.range.RangeBound.{RangeBound}
use Rattle.semver_base.specs.declared.range.RangeBound.TheVariants.{Unbounded}
use Rattle.semver_base.specs.declared.range.VersionBoundKind.{VersionBoundKind}
use Rattle.semver_base.specs.declared.short.Numbers.{Numbers}
use Rattle.semver_base.specs.declared.short.ShortNumbers.{ShortNumbers}
use Rattle.semver_base.specs.declared.short.ShortNumbers.TheVariants as short_numbers
use Rattle.semver_base.specs.declared.range.VersionRange.{VersionRange}
use Rattle.semver_req.specs.Partials.{is_wildcard, strictness_of}
use Rattle.semver_req.specs.PieceReading.{as_retained}
use Rattle.semver_req.specs.Pieces.{HasNoBar, IsFilled}
use Rattle.semver_req.specs.Written.{IsOperatorCut, comparator_of}
use Rattle.semver_req.specs.declared.common.comparator.Operator.{Operator}
use Rattle.semver_req.specs.declared.common.values.Flavour.{Flavour}
use Rattle.semver_req.specs.declared.common.values.Flavour.TheVariants.{Normal, Npm}
use Rattle.semver_req.specs.declared.range_set_or_tag.pieces.RangeOrInvalid.TheVariants as read

-- a wildcard may follow
abbrev pub IsFewer : ShortNumbers → Type 0
IsFewer (short_numbers.One m) = Unit {0}
IsFewer (short_numbers.Two m n) = Unit {0}
IsFewer (short_numbers.Three n) = ⊥

-- the text begins with a dot and a wildcard, and rest follows
pub record IsWildcardFront (f : Flavour) (text rest : List ℕ) : Type 0 where
  pub wildcard : ℕ
  pub text_is : text ≡ dot ∷ wildcard ∷ rest
  pub is_wildcard : is_wildcard f wildcard ≡ true

-- nothing follows the numbers, or a wildcard for the last number, or for each of the last two
pub data AreWildcards (f : Flavour) : ShortNumbers → List ℕ → Type 0 where
  no_wildcard : {numbers : ShortNumbers} → AreWildcards f numbers []
  one_wildcard : (b : ℕ) {numbers : ShortNumbers} → IsFewer numbers → is_wildcard f b ≡ true → AreWildcards f numbers (dot ∷ b ∷ [])
  two_wildcards : (b c : ℕ) {m : ℕ} → is_wildcard f b ≡ true → is_wildcard f c ≡ true → AreWildcards f (short_numbers.One m) (dot ∷ b ∷ dot ∷ c ∷ [])

-- the whole text is one to three numbers, and wildcards for those that are missing, or none
pub record IsShortPartial (f : Flavour) (text : List ℕ) (numbers : ShortNumbers) : Type 0 where
  pub rest : List ℕ
  pub front : IsShortFront text numbers rest
  pub wildcards : AreWildcards f numbers rest

-- the whole text is `~`, `^` or nothing and such numbers, with this range
pub record IsShortComparator (f : Flavour) (text : List ℕ) (range : VersionRange) : Type 0 where
  pub operator : Operator
  pub rest : List ℕ
  pub numbers : ShortNumbers
  pub cut : IsOperatorCut text operator rest
  pub short_partial : IsShortPartial f rest numbers
  pub line : IsLineRange (comparator_line (comparator_of operator (of_short numbers))) range

-- the whole text is `~`, `^` or nothing, three numbers and a qualifier, with this range
pub record IsQualifiedComparator (f : Flavour) (text : List ℕ) (range : VersionRange) : Type 0 where
  pub operator : Operator
  pub rest : List ℕ
  pub numbers : Numbers
  pub behind : List ℕ
  pub qualifier : Qualifier
  pub cut : IsOperatorCut text operator rest
  pub front : IsTripleFront rest numbers.major numbers.minor numbers.patch behind
  pub longest : IsLongest (IsQualifier (strictness_of f)) behind qualifier []
  pub line : IsLineRange (comparator_line (comparator_of operator (with_qualifier qualifier numbers))) range

-- the whole text is `*` or such a comparator, and its range is in a list
pub data IsStarOrQualified (f : Flavour) (text : List ℕ) : List VersionRange → Type 0 where
  is_star : text ≡ codes "*" → IsStarOrQualified f text (everything ∷ [])
  is_qualified : {range : VersionRange} → IsQualifiedComparator f text range → IsStarOrQualified f text (range ∷ [])

-- ---- pieces

-- nothing, or a space
abbrev pub IsGap : List ℕ → Type 0
IsGap gap = (gap ≡ []) ⊎ (gap ≡ space ∷ [])

-- the text without a leading space, if there is one
abbrev pub IsAfterGap : List ℕ → List ℕ → Type 0
IsAfterGap text rest = (gap : List ℕ) × IsGap gap × (text ≡ gap ++ rest)

-- the whole text is `>` or `>=`, an optional space and such numbers, whose range begins so
pub record IsShortStart (text : List ℕ) (start : RangeBound) : Type 0 where
  pub kind : VersionBoundKind
  pub rest : List ℕ
  pub numbers : ShortNumbers
  pub gap : List ℕ
  pub is_gap : IsGap gap
  pub text_is : text ≡ primitive_kind_text (greater kind) ++ (gap ++ rest)
  pub short_partial : IsShortPartial Normal rest numbers
  pub line : IsLineRange (greater_than kind (of_short numbers)) (between start Unbounded)

-- the whole text is `<` or `<=`, an optional space and such numbers, whose range ends so
pub record IsShortEnd (text : List ℕ) (end : RangeBound) : Type 0 where
  pub kind : VersionBoundKind
  pub rest : List ℕ
  pub numbers : ShortNumbers
  pub gap : List ℕ
  pub is_gap : IsGap gap
  pub text_is : text ≡ primitive_kind_text (less kind) ++ (gap ++ rest)
  pub short_partial : IsShortPartial Normal rest numbers
  pub line : IsLineRange (less_than kind (of_short numbers)) (between (from (release 0 0 0)) end)

-- two partial versions around ` - ` have this range
pub record IsShortHyphen (front back : List ℕ) (range : VersionRange) : Type 0 where
  pub lower : ShortNumbers
  pub upper : ShortNumbers
  pub in_front : IsShortPartial Npm front lower
  pub in_back : IsShortPartial Npm back upper
  pub line : IsLineRange (comparator_line (Hyphen (of_short lower) (of_short upper))) range

-- the whole text is a piece without `||`, which may also be followed by a space, and parses to this range, which a set keeps
pub record IsShortPiece (f : Flavour) (text : List ℕ) (range : VersionRange) : Type 0 where
  pub first : Comparator
  pub others : List Comparator
  pub filled : IsFilled f text (first ∷ others)
  pub closed : IsFilled f (text ++ space ∷ []) (first ∷ others)
  pub is : read.Range range ≡ as_retained (first ∷ others)
  pub is_kept : ends_at_zero range.end ≡ false
  pub no_bar : HasNoBar text

-- shorter is the text, or the text without one trailing space
abbrev pub IsUnclosed : List ℕ → List ℕ → Type 0
IsUnclosed text shorter = (text ≡ shorter) ⊎ (text ≡ shorter ++ space ∷ [])
