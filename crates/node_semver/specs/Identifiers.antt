-- The identifiers of a pre-release, as a text of their own.
use Rattle.std.specs.Prelude.{ℕ, List, [], codes}
use Rattle.semver_base.specs.Lexical.{IsQualifier}
use Rattle.semver_base.specs.declared.lexical.values.Strictness.TheVariants.{Loose}

-- the text is a pre-release as the loose grammar of versions has it, or empty, and there is no build
abbrev pub IsPre : List ℕ → List (List ℕ) → Type 0
IsPre text identifiers = IsQualifier Loose text (record { pre = identifiers; build = [] })

-- no identifiers are the text
abbrev pub IsNoPre : List ℕ → Type 0
IsNoPre text = (identifiers : List (List ℕ)) → IsPre text identifiers → ⊥

-- what is said of such a text
abbrev pub invalid_message : List ℕ
invalid_message = codes "An identifier has only letters, digits and hyphens."
