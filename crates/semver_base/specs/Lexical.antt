-- The tokens of versions and requirements: whitespace, numbers, identifiers, pre-releases, builds and qualifiers, as bytes.
-- Sources: SemVer 2.0.0, sections 2, 9 and 10, for numbers and identifiers; node-semver's range grammar, with its loose
-- forms, for numbers with leading zeros and pre-releases without `-`.
use Rattle.std.specs.Prelude.{◌≡◌, ◌<◌, ℕ, List, [], ◌∷◌, length, Bool, true, ◌||◌, ◌==◌, Option, Some, None, ◌⊎◌, slice_index, if◌then◌else◌, nat_lt, ◌^◌}
use Rattle.std.specs.Char.{is_ascii_digit, is_ascii_alphanumeric, is_not_whitespace}
use Rattle.std.specs.Str.{NoCharPasses}
use Rattle.std.specs.Str.Parse.{digits_value}
use Rattle.semver_base.specs.Characters.{dot, hyphen_sign, plus_sign, zero_digit}
use Rattle.semver_base.specs.Grammar.{Followed, Listed, Mapped, Prefixed, Optional, Run}
use Rattle.semver_base.specs.declared.lexical.values.Measured.{Measured}
use Rattle.semver_base.specs.declared.lexical.values.Measured.TheVariants.{Fits, TooLarge}
use Rattle.semver_base.specs.declared.lexical.values.Qualifier.{Qualifier}
use Rattle.semver_base.specs.declared.lexical.values.Strictness.{Strictness}
use Rattle.semver_base.specs.declared.lexical.values.Strictness.TheVariants.{Loose, Strict}

-- the byte m alone
abbrev pub IsByte : ℕ → List ℕ → Unit {0} → Type 0
IsByte m text v = text ≡ m ∷ []

-- ---- whitespace

-- whitespace characters, or none
abbrev pub IsWhitespace : List ℕ → Unit {0} → Type 0
IsWhitespace text v = NoCharPasses is_not_whitespace text

-- one or more whitespace characters
abbrev pub IsSomeWhitespace : List ℕ → Unit {0} → Type 0
IsSomeWhitespace text v = (0 < length text) × NoCharPasses is_not_whitespace text

-- ---- numbers, of any size

-- one or more digits
abbrev pub IsLooseNumber : List ℕ → ℕ → Type 0
IsLooseNumber = Mapped (digits_value 10) (Run is_ascii_digit)

-- `0`, or a digit 1 to 9 and any digits after it
pub record IsStrictNumber (text : List ℕ) (n : ℕ) : Type 0 where
  pub digits : IsLooseNumber text n
  pub no_leading_zero : slice_index text 0 ≡ zero_digit → length text ≡ 1

abbrev pub IsNumber : Strictness → List ℕ → ℕ → Type 0
IsNumber Loose = IsLooseNumber
IsNumber Strict = IsStrictNumber

-- no digit follows
abbrev pub NoDigitFollows : List ℕ → List ℕ → Type 0
NoDigitFollows before after = is_ascii_digit (slice_index after 0) ≡ true → ⊥

-- no digit follows a number: before begins with a digit exactly if it is a number
abbrev pub IsNumberEnd : List ℕ → List ℕ → Type 0
IsNumberEnd before after = is_ascii_digit (slice_index before 0) ≡ true → NoDigitFollows before after

-- the number if it fits in 64 bits
abbrev pub sized : ℕ → Measured ℕ
sized n = if nat_lt n (2 ^ 64) then Fits n else TooLarge

-- a parsed number, where None means too large
abbrev pub measured_of : Option ℕ → Measured ℕ
measured_of None = TooLarge
measured_of (Some n) = Fits n

-- ---- identifiers

-- one of `0-9`, `A-Z`, `a-z` and `-`
abbrev pub is_identifier_byte : ℕ → Bool
is_identifier_byte b = is_ascii_alphanumeric b || (b == hyphen_sign)

abbrev pub IsIdentifier : List ℕ → List ℕ → Type 0
IsIdentifier = Run is_identifier_byte

-- identifiers with a dot between neighbours, and at most one at the end
abbrev pub IsIdentifiers : List ℕ → List (List ℕ) → Type 0
IsIdentifiers = Listed IsIdentifier (IsByte dot)

-- ---- qualifiers

-- a leading `-` is stripped, and only that one; a text without one is identifiers as it is
abbrev pub IsLoosePre : List ℕ → List (List ℕ) → Type 0
IsLoosePre [] ids = ⊥
IsLoosePre (b ∷ rest) ids =
    ((b ≡ hyphen_sign) × IsIdentifiers rest ids)
    ⊎ ((b ≡ hyphen_sign → ⊥) × IsIdentifiers (b ∷ rest) ids)

-- `-`, and identifiers after it
abbrev pub IsStrictPre : List ℕ → List (List ℕ) → Type 0
IsStrictPre = Prefixed hyphen_sign IsIdentifiers

abbrev pub IsPre : Strictness → List ℕ → List (List ℕ) → Type 0
IsPre Loose = IsLoosePre
IsPre Strict = IsStrictPre

-- `+`, and identifiers after it
abbrev pub IsBuild : List ℕ → List (List ℕ) → Type 0
IsBuild = Prefixed plus_sign IsIdentifiers

-- the identifiers, or none if nothing was parsed
abbrev pub or_none : Option (List (List ℕ)) → List (List ℕ)
or_none None = []
or_none (Some ids) = ids

abbrev pub qualifier_of : Option (List (List ℕ)) × Option (List (List ℕ)) → Qualifier
qualifier_of v = record { pre = or_none v.0; build = or_none v.1 }

-- an optional pre-release, and then an optional build
abbrev pub IsQualifier : Strictness → List ℕ → Qualifier → Type 0
IsQualifier s = Mapped qualifier_of (Followed (Optional (IsPre s)) (Optional IsBuild))
