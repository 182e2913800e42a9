-- The registries and their schemes. Source: the crate `deno_semver`.
use Rattle.std.specs.Prelude.{ℕ, List, codes}
use Rattle.deno_semver.specs.declared.package.values.PackageKind.{PackageKind}
use Rattle.deno_semver.specs.declared.package.values.PackageKind.TheVariants.{Jsr, Npm}

-- the scheme of a specifier, with its colon
abbrev pub scheme_of : PackageKind → List ℕ
scheme_of Jsr = codes "jsr:"
scheme_of Npm = codes "npm:"
