-- Partial versions in the three grammars of requirements. Numbers are of any size. Source: node-semver's range grammar (`xr`,
-- `partial`, `qualifier`); the normalized and the strict grammar are narrower.
use Rattle.std.specs.Prelude.{◌≡◌, ◌∷◌, ℕ, List, [], Bool, true, ◌||◌, ◌&&◌, ◌==◌, Option, Some, None, if◌then◌else◌, drop}
use Rattle.semver_base.specs.Characters.{asterisk, capital_x, dot, letter_v, letter_x}
use Rattle.semver_base.specs.Grammar.{Either, Followed, HasNone, IsLongest, IsSeen, Joined, Mapped, Prefixed, OneByte, Optional, ReadsAs}
use Rattle.semver_base.specs.Lexical.{IsNumber, IsNumberEnd, IsQualifier}
use Rattle.semver_base.specs.PartialTable.{number_fits}
use Rattle.semver_base.specs.declared.lexical.values.Measured.{Measured}
use Rattle.semver_base.specs.declared.lexical.values.Measured.TheVariants.{Fits, TooLarge}
use Rattle.semver_base.specs.declared.lexical.values.Qualifier.{Qualifier}
use Rattle.semver_base.specs.declared.lexical.values.Strictness.{Strictness}
use Rattle.semver_base.specs.declared.lexical.values.Strictness.TheVariants.{Loose, Strict}
use Rattle.semver_base.specs.declared.partial.Partial.{Partial}
use Rattle.semver_base.specs.declared.partial.XRange.{XRange}
use Rattle.semver_base.specs.declared.partial.XRange.TheVariants.{Wildcard, Val}
use Rattle.semver_req.specs.declared.common.values.Flavour.{Flavour}
use Rattle.semver_req.specs.declared.common.values.Flavour.TheVariants.{Npm, Normal, Specifier}

-- ---- components

-- the strict grammar has strict numbers and pre-releases, the others loose ones
abbrev pub strictness_of : Flavour → Strictness
strictness_of Npm = Loose
strictness_of Normal = Loose
strictness_of Specifier = Strict

-- `*`, and except in the normalized grammar `x` and `X`
abbrev pub is_wildcard : Flavour → ℕ → Bool
is_wildcard Npm b = (b == asterisk) || (b == letter_x) || (b == capital_x)
is_wildcard Normal b = b == asterisk
is_wildcard Specifier b = (b == asterisk) || (b == letter_x) || (b == capital_x)

-- a wildcard or a number
abbrev pub IsComponent : Flavour → List ℕ → XRange → Type 0
IsComponent f text Wildcard = (b : ℕ) × OneByte (is_wildcard f) text b
IsComponent f text (Val n) = IsNumber (strictness_of f) text n

-- ---- partial versions

-- `.`, a component and a qualifier, which may be empty; no digit follows a number
abbrev pub IsThird : Flavour → List ℕ → XRange × Qualifier → Type 0
IsThird f = Prefixed dot (Joined IsNumberEnd (IsComponent f) (IsQualifier (strictness_of f)))

-- `.` and a component, and then an optional third part
abbrev pub IsSecond : Flavour → List ℕ → XRange × Option (XRange × Qualifier) → Type 0
IsSecond f = Prefixed dot (Followed (IsComponent f) (Optional (IsThird f)))

-- missing components are wildcards
abbrev pub partial_of : XRange × Option (XRange × Option (XRange × Qualifier)) → Partial
partial_of (m, None) = record { major = m; minor = Wildcard; patch = Wildcard; pre = []; build = [] }
partial_of (m, Some (n, None)) = record { major = m; minor = n; patch = Wildcard; pre = []; build = [] }
partial_of (m, Some (n, Some (p, q))) = record { major = m; minor = n; patch = p; pre = q.pre; build = q.build }

-- a component, and then an optional second part
abbrev pub IsBarePartial : Flavour → List ℕ → Partial → Type 0
IsBarePartial f = Mapped partial_of (Followed (IsComponent f) (Optional (IsSecond f)))

-- npm's grammar allows one `v` before the first component
abbrev pub IsPartial : Flavour → List ℕ → Partial → Type 0
IsPartial Npm = Either (Prefixed letter_v (IsBarePartial Npm)) (IsBarePartial Npm)
IsPartial Normal = IsBarePartial Normal
IsPartial Specifier = IsBarePartial Specifier

-- ---- whether they fit in 64 bits

abbrev pub component_fits : XRange → Bool
component_fits Wildcard = true
component_fits (Val n) = number_fits n

abbrev pub sized_component : XRange → Measured XRange
sized_component x = if component_fits x then Fits x else TooLarge

abbrev pub partial_fits : Partial → Bool
partial_fits p = component_fits p.major && component_fits p.minor && component_fits p.patch

-- a partial version, unless a number in it is too large
abbrev pub sized_partial : Partial → Measured Partial
sized_partial p = if partial_fits p then Fits p else TooLarge

-- ---- what the parsers of their parts return

-- a measured number, as a component
abbrev pub component_of : Measured ℕ → Measured XRange
component_of (Fits n) = Fits (Val n)
component_of TooLarge = TooLarge

-- the partial version of these components, if none is too large
abbrev pub assembled : Measured XRange → Measured XRange → Measured XRange → Qualifier → Measured Partial
assembled (Fits m) (Fits n) (Fits p) q =
    Fits (record { major = m; minor = n; patch = p; pre = q.pre; build = q.build })
assembled TooLarge n p q = TooLarge
assembled (Fits m) TooLarge p q = TooLarge
assembled (Fits m) (Fits n) TooLarge q = TooLarge

-- the component behind a `.`, and what follows it; or None if the text doesn't begin with both
abbrev pub ReadsDotted : Flavour → List ℕ → Option (Measured XRange × List ℕ) → Type 0
ReadsDotted f text None = HasNone (Prefixed dot (IsComponent f)) text
ReadsDotted f text (Some p) =
    (after : List ℕ) × (text ≡ dot ∷ after) × IsSeen sized_component (IsComponent f) after p.0 p.1

-- a parser's result at a position in a text, as one on the text from there on
abbrev pub answer_at : {X : Type 0} → List ℕ → Option (X × ℕ) → Option (X × List ℕ)
answer_at text None = None
answer_at text (Some p) = Some (p.0, drop p.1 text)

-- what a parser returns at a position in a text: the value of the longest prefix from there on, and the position after it
abbrev pub ReadsAt : {V X : Type 0} → (V → X) → (List ℕ → V → Type 0) → List ℕ → ℕ → Option (X × ℕ) → Type 0
ReadsAt see R text place answer = ReadsAs see R (drop place text) (answer_at text answer)

-- the longest prefix from the position on has this value, and ends at end
abbrev pub IsLongestAt : {V : Type 0} → (List ℕ → V → Type 0) → List ℕ → ℕ → V → ℕ → Type 0
IsLongestAt R text place value end = IsLongest R (drop place text) value (drop end text)
