-- Why the strict parser rejects a text.
use Rattle.std.specs.Prelude.{◌≡◌, ◌<◌, ℕ, List, length, true, false, Some, None}
use Rattle.semver_base.specs.Comparators.{Comparator, comparator_line}
use Rattle.semver_base.specs.Failure.{rejection_message}
use Rattle.semver_base.specs.Grammar.{HasNone, IsLongest}
use Rattle.semver_base.specs.Lexical.{IsWhitespace}
use Rattle.semver_base.specs.PartialTable.{all_fit, bound_too_large}
use Rattle.semver_base.specs.declared.failure.Rejection.{Rejection}
use Rattle.semver_base.specs.declared.failure.Rejection.TheVariants.{EmptyConstraint, NumberTooLarge, UnexpectedCharacter}
use Rattle.semver_req.specs.Comparators.{comparator_numbers, fits}
use Rattle.semver_req.specs.Outcome.{IsSpecifierRange}
use Rattle.semver_req.specs.Parsers.{Failure}
use Rattle.semver_req.specs.Tag.{is_valid_tag}

abbrev pub empty_constraint : Failure
empty_constraint = Some (rejection_message EmptyConstraint, None)

abbrev pub unexpected_character : Failure
unexpected_character = Some (rejection_message UnexpectedCharacter, None)

abbrev pub number_too_large : Failure
number_too_large = Some (rejection_message NumberTooLarge, None)

-- the failure of a text that isn't a tag: out of memory, that it is empty or only whitespace, or else the given `Rejection`
pub data IsNoTag (text : List ℕ) (rejection : Rejection) : Failure → Type 0 where
  no_memory_left : IsNoTag text rejection None
  whitespace_no_tag : is_valid_tag text ≡ false → IsWhitespace text tt → IsNoTag text rejection empty_constraint
  other_no_tag : is_valid_tag text ≡ false → (IsWhitespace text tt → ⊥)
      → IsNoTag text rejection (Some (rejection_message rejection, None))

-- why the strict parser rejects a text, and the failure that reports it
pub data IsSpecifierRejection (text : List ℕ) : Failure → Type 0 where
  is_out_of_memory : IsSpecifierRejection text None
  -- something follows a range of a specifier that fits
  something_follows : {rest : List ℕ} {c : Comparator} → IsLongest IsSpecifierRange text c rest → fits c ≡ true
      → 0 < length rest → IsSpecifierRejection text unexpected_character
  -- the text isn't a tag, and is empty or only whitespace
  whitespace_text : HasNone IsSpecifierRange text → is_valid_tag text ≡ false → IsWhitespace text tt
      → IsSpecifierRejection text empty_constraint
  -- it isn't a tag, isn't only whitespace, and doesn't begin with a range of a specifier
  no_range : HasNone IsSpecifierRange text → is_valid_tag text ≡ false → (IsWhitespace text tt → ⊥)
      → IsSpecifierRejection text unexpected_character
  -- it isn't a tag, and begins with a range of a specifier that has a number that doesn't fit
  large_number : {rest : List ℕ} {c : Comparator} → IsLongest IsSpecifierRange text c rest
      → all_fit (comparator_numbers c) ≡ false → is_valid_tag text ≡ false → IsSpecifierRejection text number_too_large
  -- it isn't a tag, and begins with a range of a specifier whose numbers fit, but not a bound that it needs
  large_bound : {rest : List ℕ} {c : Comparator} → IsLongest IsSpecifierRange text c rest
      → all_fit (comparator_numbers c) ≡ true → all_fit (comparator_line c).sums ≡ false → is_valid_tag text ≡ false
      → IsSpecifierRejection text bound_too_large
