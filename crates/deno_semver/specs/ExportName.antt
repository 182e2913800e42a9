-- The name of the export that a path in a package means. Sources: the exports of JSR's packages; the crate `deno_semver`.
use Rattle.std.specs.Prelude.{◌≡◌, ◌++◌, ◌∷◌, ◌==◌, ◌||◌, ◌⊎◌, [], ℕ, List, Bool, Option, Some, None, bytes_eq, codes, nat_eq, if◌then◌else◌}
use Rattle.std.specs.List.{starts_with}
use Rattle.semver_base.specs.Characters.{slash}
use Rattle.deno_semver.specs.PackageText.{without_slash}

-- the path of the package's own export: empty, `/` or `.`
abbrev pub is_whole_package : List ℕ → Bool
is_whole_package path = bytes_eq path [] || bytes_eq path (codes "/") || bytes_eq path (codes ".")

-- without the trailing `/`, if there is one
abbrev pub without_last_slash : List ℕ → List ℕ
without_last_slash [] = []
without_last_slash (last ∷ []) = if last == slash then [] else last ∷ []
without_last_slash (first ∷ next ∷ rest) = first ∷ without_last_slash (next ∷ rest)

-- with `./` in front in place of one `/`; unchanged if the path begins with `./`
abbrev pub dotted : List ℕ → List ℕ
dotted path = if starts_with nat_eq path (codes "./") then path else codes "./" ++ without_slash path

-- the export that a path names
abbrev pub export_name : Option (List ℕ) → List ℕ
export_name None = codes "."
export_name (Some path) = if is_whole_package path then codes "." else dotted (without_last_slash path)

-- `.`, or `./` and what follows
abbrev pub IsExportName : List ℕ → Type 0
IsExportName name = (name ≡ codes ".") ⊎ ((rest : List ℕ) × (name ≡ codes "./" ++ rest))
