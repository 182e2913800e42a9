-- Leading numbers with dots between them, which every grammar parses alike.
use Rattle.std.specs.Prelude.{◌≡◌, ◌<◌, ◌^◌, ℕ, List, [], ◌∷◌}
use Rattle.semver_base.specs.Characters.{dot}
use Rattle.semver_base.specs.Grammar.{IsLongest}
use Rattle.semver_base.specs.Lexical.{IsLooseNumber, IsStrictNumber}
use Rattle.semver_base.specs.declared.short.ShortNumbers.{ShortNumbers}
use Rattle.semver_base.specs.declared.short.ShortNumbers.TheVariants as short_numbers

-- the longest leading number by either grammar, which fits
pub record IsBareNumber (text : List ℕ) (n : ℕ) (rest : List ℕ) : Type 0 where
  pub loose : IsLongest IsLooseNumber text n rest
  pub strict : IsLongest IsStrictNumber text n rest
  pub fits : n < 2 ^ 64

-- a number of at most 19 digits
abbrev pub IsShort : ℕ → Type 0
IsShort n = n < 10 ^ 19

-- the text doesn't begin with such a number
abbrev pub LacksShortNumber : List ℕ → Type 0
LacksShortNumber text = (n : ℕ) (rest : List ℕ) → IsBareNumber text n rest → IsShort n → ⊥

-- the text begins with a dot and this number, and rest follows
pub record IsDottedNumber (text : List ℕ) (n : ℕ) (rest : List ℕ) : Type 0 where
  pub from_number : List ℕ
  pub text_is : text ≡ dot ∷ from_number
  pub number : IsBareNumber from_number n rest

-- the text doesn't begin with a dot and such a number
abbrev pub LacksDottedNumber : List ℕ → Type 0
LacksDottedNumber text = (from_number : List ℕ) → text ≡ dot ∷ from_number → LacksShortNumber from_number

-- the text begins with these numbers with dots between them, and rest follows
pub record IsTripleFront (text : List ℕ) (m n p : ℕ) (rest : List ℕ) : Type 0 where
  pub from_minor : List ℕ
  pub from_patch : List ℕ
  pub major : IsBareNumber text m (dot ∷ from_minor)
  pub minor : IsBareNumber from_minor n (dot ∷ from_patch)
  pub patch : IsBareNumber from_patch p rest

-- the text doesn't begin with three numbers of at most 19 digits
abbrev pub LacksShortTriple : List ℕ → Type 0
LacksShortTriple text = (m n p : ℕ) (rest : List ℕ) → IsTripleFront text m n p rest → IsShort m × IsShort n × IsShort p → ⊥

-- the whole text is these numbers with dots between them
abbrev pub IsBareTriple : List ℕ → ℕ → ℕ → ℕ → Type 0
IsBareTriple text m n p = IsTripleFront text m n p []

-- the text begins with these two numbers with a dot between them, and rest follows
pub record IsPairFront (text : List ℕ) (m n : ℕ) (rest : List ℕ) : Type 0 where
  pub from_minor : List ℕ
  pub major : IsBareNumber text m (dot ∷ from_minor)
  pub minor : IsBareNumber from_minor n rest

-- the text begins with these numbers with dots between them, and rest follows
abbrev pub IsShortFront : List ℕ → ShortNumbers → List ℕ → Type 0
IsShortFront text (short_numbers.One m) rest = IsBareNumber text m rest
IsShortFront text (short_numbers.Two m n) rest = IsPairFront text m n rest
IsShortFront text (short_numbers.Three n) rest = IsTripleFront text n.major n.minor n.patch rest

-- each of the numbers has at most 19 digits
abbrev pub AreShort : ShortNumbers → Type 0
AreShort (short_numbers.One m) = IsShort m
AreShort (short_numbers.Two m n) = IsShort m × IsShort n
AreShort (short_numbers.Three n) = IsShort n.major × IsShort n.minor × IsShort n.patch

-- these are three numbers, or no dot and such a number follow
abbrev pub AreAll : ShortNumbers → List ℕ → Type 0
AreAll (short_numbers.One m) rest = LacksDottedNumber rest
AreAll (short_numbers.Two m n) rest = LacksDottedNumber rest
AreAll (short_numbers.Three n) rest = Unit {0}
