-- How the text of a package is split: a leading `/` that import maps may leave, a scope followed by `/`, the last part of the
-- name, `@` and the version's text, and a `/` with the path. Sources: npm's package specifiers; for the leading `/` and the
-- path the crate `deno_semver`.
use Rattle.std.specs.Prelude.{◌≡◌, ◌<◌, ◌++◌, ◌∷◌, ◌&&◌, ◌==◌, [], ℕ, List, Bool, true, false, not, length, Option, Some, None, if◌then◌else◌}
use Rattle.std.specs.List.{list_all, list_any}
use Rattle.semver_base.specs.Characters.{at_sign, slash}
use Rattle.semver_base.specs.Grammar.{Stops}
use Rattle.deno_semver.specs.Cuts.{is_not}

-- the parts of a text
pub record PackageParts : Type 0 where
  pub scope : Option (List ℕ)
  -- the last part of the name
  pub name : List ℕ
  pub version : Option (List ℕ)
  pub path : List ℕ

-- without the leading `/`, if there is one
abbrev pub without_slash : List ℕ → List ℕ
without_slash [] = []
without_slash (first ∷ rest) = if first == slash then rest else first ∷ rest

-- whether the text begins with `@`
abbrev pub starts_with_at : List ℕ → Bool
starts_with_at [] = false
starts_with_at (first ∷ rest) = first == at_sign

-- `@`, followed by anything without a `/`
pub record IsScope (scope : List ℕ) : Type 0 where
  pub at : starts_with_at scope ≡ true
  pub no_slash : list_all (is_not slash) scope ≡ true

-- `rest` is what follows the scope and its `/`, or everything if the text doesn't begin with `@`
abbrev pub IsAfterScope : Option (List ℕ) → List ℕ → List ℕ → Type 0
IsAfterScope None body rest = (starts_with_at body ≡ false) × (body ≡ rest)
IsAfterScope (Some scope) body rest = IsScope scope × (body ≡ scope ++ (slash ∷ rest))

-- the version follows the last `@`; without an `@` there is none
abbrev pub IsNamePart : List ℕ → List ℕ → Option (List ℕ) → Type 0
IsNamePart last name None = (last ≡ name) × (list_all (is_not at_sign) name ≡ true)
IsNamePart last name (Some version) = (last ≡ name ++ (at_sign ∷ version)) × (list_all (is_not at_sign) version ≡ true)

-- nothing, or a `/` and the path
abbrev pub IsPathPart : List ℕ → List ℕ → Type 0
IsPathPart [] path = path ≡ []
IsPathPart (first ∷ rest) path = (first ≡ slash) × (path ≡ rest)

-- the parts of a text; the last part of the name with its version is non-empty and contains no `/`
pub record IsPackageText (text : List ℕ) (parts : PackageParts) : Type 0 where
  pub rest : List ℕ
  pub scope : IsAfterScope parts.scope (without_slash text) rest
  pub last : List ℕ
  pub tail : List ℕ
  pub rest_is : rest ≡ last ++ tail
  pub last_some : 0 < length last
  pub last_is : list_all (is_not slash) last ≡ true
  pub named : IsNamePart last parts.name parts.version
  pub path : IsPathPart tail parts.path

-- the last part of a name, preceded by the scope and `/` if there is one
abbrev pub scoped_name : Option (List ℕ) → List ℕ → List ℕ
scoped_name None name = name
scoped_name (Some scope) name = scope ++ (slash ∷ name)

-- ---- texts that lack a part

-- nothing stands before the end or the next `/`
abbrev pub LacksPart : List ℕ → Type 0
LacksPart = Stops (is_not slash)

-- nothing follows the scope's `/`, or there is no such `/`
abbrev pub LacksLast : List ℕ → Type 0
LacksLast [] = Unit {0}
LacksLast (first ∷ rest) = (first ≡ slash) × LacksPart rest

-- a scope without the last part of a name
pub record IsScopeAlone (body : List ℕ) : Type 0 where
  pub scope : List ℕ
  pub tail : List ℕ
  pub body_is : body ≡ scope ++ tail
  pub is_scope : IsScope scope
  pub lacks : LacksLast tail

-- whether the text contains a `/` and doesn't begin with `@`
abbrev pub lacks_at : List ℕ → Bool
lacks_at text = list_any (λ b. b == slash) text && not (starts_with_at text)
