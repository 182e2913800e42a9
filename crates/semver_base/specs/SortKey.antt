-- Sort keys of versions, and what they promise.
use Rattle.std.specs.Prelude.{◌≡◌, ◌≤◌, ◌+◌, ◌*◌, ℕ, List, [], ◌∷◌, ◌++◌, length, true, decimal, Option, Some, None}
use Rattle.std.specs.Char.{is_ascii_graphic}
use Rattle.std.specs.Cmp.Lexicographic.{slice_cmp}
use Rattle.std.specs.List.{list_all}
use Rattle.std.specs.Ordering.{nat_cmp}
use Rattle.semver_base.specs.Characters.{at_sign, hyphen_sign, tilde_sign}
use Rattle.semver_base.specs.LowestVersion.{IsReadable}
use Rattle.semver_base.specs.Precedence.{number_of, precedence_cmp}
use Rattle.semver_base.specs.VersionText.{version_text}
use Rattle.semver_base.specs.declared.version.Version.{Version}

-- the end of an identifier and of a list, below every byte of an identifier
abbrev pub exclamation_mark : ℕ
exclamation_mark = 33

-- before a number
abbrev pub number_sign : ℕ
number_sign = 35

-- before another identifier
abbrev pub dollar_sign : ℕ
dollar_sign = 36

-- a letter for how many digits there are, from `A` for one, and the digits
abbrev pub number_key : ℕ → List ℕ
number_key n = (at_sign + length (decimal n)) ∷ decimal n

-- `#`, the number's key, its text and `!`; or `$`, the text and `!`
abbrev pub identifier_key_of : Option ℕ → List ℕ → List ℕ
identifier_key_of (Some n) text = number_sign ∷ (number_key n ++ (text ++ (exclamation_mark ∷ [])))
identifier_key_of None text = dollar_sign ∷ (text ++ (exclamation_mark ∷ []))

abbrev pub identifier_key : List ℕ → List ℕ
identifier_key text = identifier_key_of (number_of text) text

-- the keys of the identifiers, and `!`
abbrev pub identifiers_key : List (List ℕ) → List ℕ
identifiers_key [] = exclamation_mark ∷ []
identifiers_key (identifier ∷ others) = identifier_key identifier ++ identifiers_key others

-- `~` for a release, or `-` and the identifiers
abbrev pub pre_key : List (List ℕ) → List ℕ
pre_key [] = tilde_sign ∷ []
pre_key (identifier ∷ others) = hyphen_sign ∷ identifiers_key (identifier ∷ others)

-- the keys of the three numbers and of the pre-release
abbrev pub sort_key : Version → List ℕ
sort_key v = number_key v.major ++ (number_key v.minor ++ (number_key v.patch ++ pre_key v.pre))

-- keys compare by bytes as their versions by precedence
abbrev pub SortKeysFollowPrecedence : Type 0
SortKeysFollowPrecedence =
    (v w : Version) → IsReadable v → IsReadable w → slice_cmp nat_cmp (sort_key v) (sort_key w) ≡ precedence_cmp v w

-- where a key begins another, it is that one
abbrev pub NoSortKeyBeginsAnother : Type 0
NoSortKeyBeginsAnother =
    (v w : Version) (rest : List ℕ) → IsReadable v → IsReadable w → sort_key v ++ rest ≡ sort_key w → rest ≡ []

-- each byte of a key is one of the characters from `!` to `~`
abbrev pub SortKeysArePrintable : Type 0
SortKeysArePrintable = (v : Version) → IsReadable v → list_all is_ascii_graphic (sort_key v) ≡ true

-- a key is at most three times as long as its version's text
abbrev pub SortKeysAreShort : Type 0
SortKeysAreShort = (v : Version) → length (sort_key v) ≤ 3 * length (version_text v)
