-- How package references are written: the text of a package requirement, or of a name and version, and a `/` and the path of
-- a module; a registry's scheme may come first. Sources: npm's and JSR's specifiers; the crate `deno_semver`.
use Rattle.std.specs.Prelude.{◌≡◌, ◌++◌, ◌∷◌, ◌||◌, [], ℕ, List, Option, Some, None, bytes_eq, codes, if◌then◌else◌}
use Rattle.semver_base.specs.Characters.{at_sign, slash}
use Rattle.deno_semver.specs.Kind.{scheme_of}
use Rattle.deno_semver.specs.RequirementText.{req_text}
use Rattle.deno_semver.specs.declared.package.values.PackageKind.{PackageKind}
use Rattle.deno_semver.specs.declared.package.reference.PackageReqReference.{PackageReqReference}
use Rattle.deno_semver.specs.declared.package.values.PackageReq.{PackageReq}

-- the text doesn't begin with the scheme
abbrev pub LacksScheme : PackageKind → List ℕ → Type 0
LacksScheme kind text = (body : List ℕ) → text ≡ scheme_of kind ++ body → ⊥

-- the scheme and the text
abbrev pub with_scheme : PackageKind → List ℕ → List ℕ
with_scheme kind text = scheme_of kind ++ text

-- the path of a module that a text names; an empty text and `/` name none
abbrev pub sub_path_of : List ℕ → Option (List ℕ)
sub_path_of path = if bytes_eq path [] || bytes_eq path (codes "/") then None else Some path

-- nothing, or `/` and the path
abbrev pub path_text : Option (List ℕ) → List ℕ
path_text None = []
path_text (Some path) = slash ∷ path

-- the package requirement, and the path after a `/`
abbrev pub reference_text : PackageReqReference → List ℕ
reference_text reference = req_text reference.req ++ path_text reference.sub_path

-- the same with a version after the package requirement
abbrev pub text_with_version : PackageReq → List ℕ → List ℕ → List ℕ
text_with_version req version path = req_text req ++ (at_sign ∷ (version ++ (slash ∷ path)))
