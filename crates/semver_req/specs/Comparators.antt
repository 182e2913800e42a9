-- Comparators as texts. Source: node-semver's range grammar (`primitive`, `tilde`, `caret`), with the ignored operators and
-- the leading `v` that npm accepts.
use Rattle.std.specs.Prelude.{◌≡◌, ◌⊎◌, ℕ, List, [], ◌∷◌, ◌++◌, Bool, ◌&&◌, Option, codes, if◌then◌else◌}
use Rattle.semver_base.specs.Characters.{caret_sign, equals_sign, letter_v, tilde_sign}
use Rattle.semver_base.specs.Comparators.{Caret, Comparator, Hyphen, OfPrimitive, Bare, Tilde, comparator_line, of_primitive, primitive_kind_text}
use Rattle.semver_base.specs.Grammar.{After, Either, Followed, IsText, Mapped, Prefixed, Optional}
use Rattle.semver_base.specs.Lexical.{IsWhitespace, IsByte, IsSomeWhitespace}
use Rattle.semver_base.specs.PartialTable.{all_fit}
use Rattle.semver_base.specs.declared.lexical.values.Measured.{Measured}
use Rattle.semver_base.specs.declared.lexical.values.Measured.TheVariants.{Fits, TooLarge}
use Rattle.semver_base.specs.declared.partial.Partial.{Partial}
use Rattle.semver_base.specs.declared.partial.PrimitiveKind.{PrimitiveKind}
use Rattle.semver_base.specs.declared.partial.XRange.{XRange}
use Rattle.semver_base.specs.declared.partial.XRange.TheVariants.{Wildcard, Val}
use Rattle.semver_req.specs.Partials.{IsPartial, partial_fits}
use Rattle.semver_req.specs.declared.common.values.Flavour.{Flavour}
use Rattle.semver_req.specs.declared.common.values.Flavour.TheVariants.{Npm, Normal, Specifier}
use Rattle.semver_req.specs.declared.common.values.Primitive.{Primitive}

-- ---- comparison operators

-- a comparison operator
abbrev pub IsPrimitiveKind : List ℕ → PrimitiveKind → Type 0
IsPrimitiveKind text kind = text ≡ primitive_kind_text kind

-- the operator is with_equal if text begins with a `=`, which is part of it, and otherwise alone; rest is what follows
abbrev pub IsMaybeEqual : List ℕ → PrimitiveKind → PrimitiveKind → PrimitiveKind → List ℕ → Type 0
IsMaybeEqual text alone with_equal kind rest =
    ((kind ≡ with_equal) × (text ≡ equals_sign ∷ rest))
    ⊎ ((kind ≡ alone) × (rest ≡ text) × ((more : List ℕ) → text ≡ equals_sign ∷ more → ⊥))

-- a comparison operator, optional whitespace and a partial version
abbrev pub IsPrimitive : Flavour → List ℕ → PrimitiveKind × Partial → Type 0
IsPrimitive f = Followed IsPrimitiveKind (After IsWhitespace (IsPartial f))

-- a comparison operator and a partial version, unless a number in it is too large
abbrev pub sized_primitive : PrimitiveKind × Partial → Measured Primitive
sized_primitive v = if partial_fits v.1 then Fits (record { kind = v.0; partial = v.1 }) else TooLarge

-- the same, for a partial version that is measured already
abbrev pub primitive_of : PrimitiveKind → Measured Partial → Measured Primitive
primitive_of kind (Fits p) = Fits (record { kind = kind; partial = p })
primitive_of kind TooLarge = TooLarge

-- ---- comparators as texts

-- any number of `=`
pub data IsEquals : List ℕ → Unit {0} → Type 0 where
  no_more : IsEquals [] tt
  one_more : {rest : List ℕ} → IsEquals rest tt → IsEquals (equals_sign ∷ rest) tt

-- what npm's grammar allows before the partial of a tilde or caret: any number of `=` and an optional `v`, with optional
-- whitespace after each
abbrev pub IsLed : List ℕ → Partial → Type 0
IsLed = After IsEquals (After IsWhitespace (After (Optional (IsByte letter_v)) (After IsWhitespace (IsPartial Npm))))

-- an ignored operator with whitespace after it, or nothing
abbrev pub IsIgnored : List ℕ → Option (PrimitiveKind × Unit {0}) → Type 0
IsIgnored = Optional (Followed IsPrimitiveKind IsSomeWhitespace)

abbrev pub IsNpmTilde : List ℕ → Comparator → Type 0
IsNpmTilde = Mapped Tilde (After IsIgnored (After (Either (IsText (codes "~>")) (IsText (codes "~"))) IsLed))

abbrev pub IsNpmCaret : List ℕ → Comparator → Type 0
IsNpmCaret = Mapped Caret (After IsIgnored (Prefixed caret_sign IsLed))

-- a comparison operator, optional whitespace and a partial
abbrev pub IsOfPrimitive : Flavour → List ℕ → Comparator → Type 0
IsOfPrimitive f = Mapped of_primitive (IsPrimitive f)

abbrev pub IsBare : Flavour → List ℕ → Comparator → Type 0
IsBare f = Mapped Bare (IsPartial f)

-- `~` or `^` and a partial
abbrev pub HasOperator : Flavour → List ℕ → Comparator → Type 0
HasOperator f =
    Either (Mapped Tilde (Prefixed tilde_sign (IsPartial f))) (Mapped Caret (Prefixed caret_sign (IsPartial f)))

abbrev pub IsComparator : Flavour → List ℕ → Comparator → Type 0
IsComparator Npm = Either (Either IsNpmTilde IsNpmCaret) (Either (IsOfPrimitive Npm) (IsBare Npm))
IsComparator Normal = Either (HasOperator Normal) (Either (IsOfPrimitive Normal) (IsBare Normal))
IsComparator Specifier = Either (HasOperator Specifier) (IsBare Specifier)

-- ---- which fit

abbrev pub component_numbers : XRange → List ℕ
component_numbers Wildcard = []
component_numbers (Val n) = n ∷ []

-- the numbers among the components of a partial version
abbrev pub numbers : Partial → List ℕ
numbers p = component_numbers p.major ++ component_numbers p.minor ++ component_numbers p.patch

abbrev pub comparator_numbers : Comparator → List ℕ
comparator_numbers (Tilde p) = numbers p
comparator_numbers (Caret p) = numbers p
comparator_numbers (OfPrimitive kind p) = numbers p
comparator_numbers (Bare p) = numbers p
comparator_numbers (Hyphen p q) = numbers p ++ numbers q

-- every number among the components, and every sum that the line needs, is at most 18446744073709551615
abbrev pub fits : Comparator → Bool
fits c = all_fit (comparator_numbers c) && all_fit (comparator_line c).sums
