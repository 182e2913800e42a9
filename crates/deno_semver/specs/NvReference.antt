-- How references to one version of a package are parsed and written, and what they mean. Sources: npm's and JSR's specifiers;
-- the crate `deno_semver`.
use Rattle.std.specs.Prelude.{◌≡◌, ◌≢◌, ◌++◌, ◌∷◌, ◌⊎◌, [], ℕ, List, Option, Result, Ok, Err, MatchResult, IsErrAnd}
use Rattle.semver_base.specs.Characters.{slash}
use Rattle.semver_base.specs.declared.failure.Rejection.{Rejection}
use Rattle.semver_base.specs.declared.failure.Rejection.TheVariants.{UnexpectedCharacter}
use Rattle.deno_semver.specs.Kind.{scheme_of}
use Rattle.deno_semver.specs.NameAndVersion.{IsNvFront, IsNvMemory, ReportsNvFault, nv_text}
use Rattle.deno_semver.specs.Parsed.{IsParsed}
use Rattle.deno_semver.specs.PackageText.{without_slash}
use Rattle.deno_semver.specs.ReferenceText.{LacksScheme, path_text}
use Rattle.deno_semver.specs.declared.package.values.PackageKind.{PackageKind}
use Rattle.deno_semver.specs.declared.package.values.PackageNv.{PackageNv}
use Rattle.deno_semver.specs.declared.package.name_version.PackageNvParseError.{PackageNvParseError}
use Rattle.deno_semver.specs.declared.package.nv_reference.PackageNvReference.{PackageNvReference}
use Rattle.deno_semver.specs.declared.package.nv_reference.PackageNvReferenceParseError.{PackageNvReferenceParseError}

-- `name@version`, followed by `/` and the path if there is one
abbrev pub nv_reference_text : PackageNvReference → List ℕ
nv_reference_text reference = nv_text reference.nv ++ path_text reference.sub_path

-- a non-empty text that doesn't begin with `/`
abbrev pub IsNoPath : List ℕ → Type 0
IsNoPath [] = ⊥
IsNoPath (first ∷ rest) = first ≢ slash

-- what a text parses to: a name and version after the scheme and at most one `/`, with a path, which may be empty, or nothing
-- after it; or the error for its first fault
pub data IsNvReferenceOutcome (kind : PackageKind) (text : List ℕ) : Result PackageNvReference Rejection → Type 0 where
  other_scheme : LacksScheme kind text → IsNvReferenceOutcome kind text (Err UnexpectedCharacter)
  is_reference : (body : List ℕ) {nv : PackageNv} {path : Option (List ℕ)} → text ≡ scheme_of kind ++ body
      → IsNvFront (without_slash body) (Ok (nv, path_text path))
      → IsNvReferenceOutcome kind text (Ok (record { nv = nv; sub_path = path }))
  bad_front : (body : List ℕ) {fault : Rejection} → text ≡ scheme_of kind ++ body
      → IsNvFront (without_slash body) (Err fault) → IsNvReferenceOutcome kind text (Err fault)
  is_followed : (body : List ℕ) {rest : List ℕ} {nv : PackageNv} → text ≡ scheme_of kind ++ body
      → IsNvFront (without_slash body) (Ok (nv, rest)) → IsNoPath rest
      → IsNvReferenceOutcome kind text (Err UnexpectedCharacter)

-- ---- results

-- the same texts as a name and version's error
abbrev pub nv_error : PackageNvReferenceParseError → PackageNvParseError
nv_error e = record { message = e.message; text = e.text }

-- the error is out of memory, or reports the parse error that is the text's outcome
abbrev pub IsNvReferenceRejection : PackageKind → List ℕ → PackageNvReferenceParseError → Type 0
IsNvReferenceRejection kind text e =
    IsNvMemory (nv_error e)
    ⊎ ((fault : Rejection) × IsNvReferenceOutcome kind text (Err fault) × ReportsNvFault fault text (nv_error e))

-- the result for a text with this outcome, or out of memory
abbrev pub IsNvReferenceAnswer : List ℕ → Result PackageNvReference Rejection
    → Result PackageNvReference PackageNvReferenceParseError → Type 0
IsNvReferenceAnswer text (Ok reference) result =
    MatchResult result (λ answer. answer ≡ reference) (λ e. IsNvMemory (nv_error e))
IsNvReferenceAnswer text (Err fault) result =
    IsErrAnd result (λ e. IsNvMemory (nv_error e) ⊎ ReportsNvFault fault text (nv_error e))

-- what the parser of references to versions returns
abbrev pub IsParsedNvReference : PackageKind → List ℕ → Result PackageNvReference PackageNvReferenceParseError → Type 0
IsParsedNvReference kind text =
    IsParsed (IsNvReferenceOutcome kind text) (IsNvReferenceRejection kind text) (IsNvReferenceAnswer text)

-- after the scheme, the text of a reference parses to it, if its name doesn't begin with `/`
abbrev pub NvReferenceReadsBack : PackageKind → PackageNvReference → Type 0
NvReferenceReadsBack kind reference = ((rest : List ℕ) → reference.nv.name ≡ slash ∷ rest → ⊥)
    → IsNvReferenceOutcome kind (scheme_of kind ++ nv_reference_text reference) (Ok reference)
