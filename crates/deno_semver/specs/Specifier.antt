-- The URL of a reference to a version: the crate `url` says what its text parses to under the URL Standard. Source: the crate
-- `deno_semver`.
use Rattle.std.specs.Prelude.{◌≡◌, ◌∷◌, ℕ, List, None, Result, Ok, Err, MatchResult}
use Rattle.url.specs.Parser.{parse_url}
use Rattle.url.specs.Parts.{Parts}
use Rattle.url.specs.declared.error.ParseError.{ParseError}
use Rattle.semver_base.specs.Characters.{slash}
use Rattle.deno_semver.specs.NvReference.{nv_reference_text}
use Rattle.deno_semver.specs.ReferenceText.{with_scheme}
use Rattle.deno_semver.specs.declared.package.values.PackageKind.{PackageKind}
use Rattle.deno_semver.specs.declared.package.nv_reference.PackageNvReference.{PackageNvReference}
use Rattle.deno_semver.specs.declared.package.nv_reference.SpecifierError.{SpecifierError}
use Rattle.deno_semver.specs.declared.package.nv_reference.SpecifierError.TheVariants as error

-- the scheme, `/` and the reference
abbrev pub specifier_text : PackageKind → PackageNvReference → List ℕ
specifier_text kind reference = with_scheme kind (slash ∷ nv_reference_text reference)

-- the text isn't valid under the URL Standard; or out of memory, which includes a URL of 4 GB, and says no more
abbrev pub IsUrlRejection : List ℕ → SpecifierError → Type 0
IsUrlRejection text error.Url = (cause : ParseError) × (parse_url None text ≡ Err cause)
IsUrlRejection text error.Memory = Unit {0}

-- what `url` parses the text to, or why there is no URL
abbrev pub IsSpecifier : List ℕ → Result Parts SpecifierError → Type 0
IsSpecifier text result = MatchResult result (λ url. parse_url None text ≡ Ok url) (IsUrlRejection text)
