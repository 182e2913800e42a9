-- Which texts are valid tags. Source: npm's rule that a tag needs no escape in a URL; letters and numbers are those of the
-- tables of `unicode`.
use Rattle.std.specs.Prelude.{ℕ, List, Bool, true, false, not, ◌&&◌, ◌||◌, ◌==◌, chars}
use Rattle.std.specs.Char.{is_whitespace}
use Rattle.std.specs.List.{list_all}
use Rattle.semver_base.specs.Characters.{dot, hyphen_sign, tilde_sign, underscore}
use Rattle.unicode.specs.Binary.{is_alphabetic}
use Rattle.unicode.specs.GeneralCategory.{general_category}
use Rattle.ucd_category.specs.declared.GeneralCategory.{GeneralCategory}
use Rattle.ucd_category.specs.declared.GeneralCategory.TheVariants.{DecimalNumber, LetterNumber, OtherNumber}

-- Nd, Nl or No
abbrev pub is_number_category : GeneralCategory → Bool
is_number_category DecimalNumber = true
is_number_category LetterNumber = true
is_number_category OtherNumber = true
is_number_category _ = false

-- a letter, a number, or one of `-`, `_`, `.` and `~`
abbrev pub is_tag_character : ℕ → Bool
is_tag_character c = is_alphabetic c || is_number_category (general_category c)
    || ((c == hyphen_sign) || (c == underscore) || (c == dot) || (c == tilde_sign))

-- all characters of a valid tag are such, and not all of them are whitespace
abbrev pub is_valid_tag : List ℕ → Bool
is_valid_tag text = not (list_all is_whitespace (chars text)) && list_all is_tag_character (chars text)
