-- Comparators and their bounds. Source: node-semver's range grammar (`primitive`, `tilde`, `caret`, `hyphen`).
use Rattle.std.specs.Prelude.{ℕ, List, codes}
use Rattle.semver_base.specs.Meaning.{from}
use Rattle.semver_base.specs.PartialTable.{Line, between, caret, equal, greater_than, less_than, lowest, tilde, upper}
use Rattle.semver_base.specs.declared.partial.Partial.{Partial}
use Rattle.semver_base.specs.declared.partial.PrimitiveKind.{PrimitiveKind}
use Rattle.semver_base.specs.declared.partial.PrimitiveKind.TheVariants.{GreaterThan, LessThan, GreaterThanOrEqual, LessThanOrEqual, Equal}
use Rattle.semver_base.specs.declared.range.VersionBoundKind.{VersionBoundKind}
use Rattle.semver_base.specs.declared.range.VersionBoundKind.TheVariants as kind
use Rattle.semver_base.specs.declared.range.VersionRange.{VersionRange}

-- an operator's text
abbrev pub primitive_kind_text : PrimitiveKind → List ℕ
primitive_kind_text GreaterThan = codes ">"
primitive_kind_text LessThan = codes "<"
primitive_kind_text GreaterThanOrEqual = codes ">="
primitive_kind_text LessThanOrEqual = codes "<="
primitive_kind_text Equal = codes "="

-- `>=` or `>`
abbrev pub greater : VersionBoundKind → PrimitiveKind
greater kind.Inclusive = GreaterThanOrEqual
greater kind.Exclusive = GreaterThan

-- `<=` or `<`
abbrev pub less : VersionBoundKind → PrimitiveKind
less kind.Inclusive = LessThanOrEqual
less kind.Exclusive = LessThan

pub data Comparator : Type 0 where
  Tilde : Partial → Comparator
  Caret : Partial → Comparator
  OfPrimitive : PrimitiveKind → Partial → Comparator
  Bare : Partial → Comparator
  Hyphen : Partial → Partial → Comparator

abbrev pub of_primitive : PrimitiveKind × Partial → Comparator
of_primitive v = OfPrimitive v.0 v.1

-- ---- what they mean

-- the bounds of a comparison operator and a partial version
abbrev pub primitive_line : PrimitiveKind → Partial → Line
primitive_line GreaterThan p = greater_than kind.Exclusive p
primitive_line LessThan p = less_than kind.Exclusive p
primitive_line GreaterThanOrEqual p = greater_than kind.Inclusive p
primitive_line LessThanOrEqual p = less_than kind.Inclusive p
primitive_line Equal p = equal p

-- the bounds of a comparator, and the sums that they need
abbrev pub comparator_line : Comparator → Line
comparator_line (Tilde p) = tilde p
comparator_line (Caret p) = caret p
comparator_line (OfPrimitive primitive_kind p) = primitive_line primitive_kind p
comparator_line (Bare p) = equal p
comparator_line (Hyphen p q) = record { range = between (from (lowest p)) (upper q).end; sums = (upper q).sums }

abbrev pub comparator_range : Comparator → VersionRange
comparator_range c = (comparator_line c).range
