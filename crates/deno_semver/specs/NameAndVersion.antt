-- How a name and version is split and written, and what it parses to. Source: the crate `deno_semver`.
use Rattle.std.specs.Prelude.{◌≡◌, ◌<◌, ◌++◌, ◌∷◌, ◌&&◌, ◌==◌, ◌⊎◌, [], ℕ, List, Bool, true, length, Option, Some, None, Result, Ok, Err, MatchResult, IsErrAnd, if◌then◌else◌}
use Rattle.std.specs.List.{list_all, take_while}
use Rattle.std.specs.Str.{trim}
use Rattle.semver_base.specs.Characters.{at_sign, slash, underscore}
use Rattle.semver_base.specs.Failure.{rejection_message}
use Rattle.semver_base.specs.Grammar.{Stops}
use Rattle.semver_base.specs.VersionGrammar.{IsVersionOutcome}
use Rattle.semver_base.specs.VersionText.{version_text}
use Rattle.semver_base.specs.declared.failure.Rejection.{Rejection}
use Rattle.semver_base.specs.declared.failure.Rejection.TheVariants.{UnexpectedCharacter}
use Rattle.semver_base.specs.declared.version.Version.{Version}
use Rattle.deno_semver.specs.Cuts.{is_not}
use Rattle.deno_semver.specs.Parsed.{IsParsed}
use Rattle.deno_semver.specs.declared.package.values.PackageNv.{PackageNv}
use Rattle.deno_semver.specs.declared.package.name_version.PackageNvParseError.{PackageNvParseError}

-- ---- the text

-- non-empty; after the first byte, which may begin a scope, there is no `@`
abbrev pub IsNvName : List ℕ → Type 0
IsNvName [] = ⊥
IsNvName (first ∷ more) = list_all (is_not at_sign) more ≡ true

-- neither `_` nor `/`
abbrev pub is_version_byte : ℕ → Bool
is_version_byte b = is_not underscore b && is_not slash b

-- a name, `@`, a non-empty version up to the first `_` or `/`, and what follows it
pub record IsNvText (text name version rest : List ℕ) : Type 0 where
  pub text_is : text ≡ name ++ (at_sign ∷ (version ++ rest))
  pub name_is : IsNvName name
  pub version_some : 0 < length version
  pub version_is : list_all is_version_byte version ≡ true
  pub version_ends : Stops is_version_byte rest

-- `name@version`
abbrev pub nv_text : PackageNv → List ℕ
nv_text nv = nv.name ++ (at_sign ∷ version_text nv.version)

-- for a name that begins with `@`, the part before its first `/`, or all of it if it has none
abbrev pub scope_of : List ℕ → Option (List ℕ)
scope_of [] = None
scope_of (first ∷ more) = if first == at_sign then Some (take_while (is_not slash) (first ∷ more)) else None

-- ---- outcomes

-- the text isn't of this form
abbrev pub IsNoNvText : List ℕ → Type 0
IsNoNvText text = (name version rest : List ℕ) → IsNvText text name version rest → ⊥

-- the result for the start of a text: a name and version with what follows it, or the error for the first fault
pub data IsNvFront (text : List ℕ) : Result (PackageNv × List ℕ) Rejection → Type 0 where
  is_front : {name version rest : List ℕ} {v : Version} → IsNvText text name version rest
      → IsVersionOutcome (trim version) (Ok v)
      → IsNvFront text (Ok (record { name = name; version = v }, rest))
  is_uncut : IsNoNvText text → IsNvFront text (Err UnexpectedCharacter)
  is_bad_version : {name version rest : List ℕ} {fault : Rejection} → IsNvText text name version rest
      → IsVersionOutcome (trim version) (Err fault) → IsNvFront text (Err fault)

-- what a text parses to: a name and version with nothing after it, or the error for its first fault
pub data IsNvOutcome (text : List ℕ) : Result PackageNv Rejection → Type 0 where
  is_nv : {nv : PackageNv} → IsNvFront text (Ok (nv, [])) → IsNvOutcome text (Ok nv)
  is_bad : {fault : Rejection} → IsNvFront text (Err fault) → IsNvOutcome text (Err fault)
  is_followed : {nv : PackageNv} {rest : List ℕ} → IsNvFront text (Ok (nv, rest)) → 0 < length rest
      → IsNvOutcome text (Err UnexpectedCharacter)

-- ---- results

-- out of memory has no texts
pub record IsNvMemory (e : PackageNvParseError) : Type 0 where
  pub message : e.message ≡ []
  pub text : e.text ≡ []

-- the message for the fault, and the whole text
pub record ReportsNvFault (fault : Rejection) (text : List ℕ) (e : PackageNvParseError) : Type 0 where
  pub message : e.message ≡ rejection_message fault
  pub text_is : e.text ≡ text

-- the error is out of memory, or reports the parse error that is the text's outcome
abbrev pub IsNvRejection : List ℕ → PackageNvParseError → Type 0
IsNvRejection text e = IsNvMemory e ⊎ ((fault : Rejection) × IsNvOutcome text (Err fault) × ReportsNvFault fault text e)

-- the result for a text with this outcome, or out of memory
abbrev pub IsNvAnswer : List ℕ → Result PackageNv Rejection → Result PackageNv PackageNvParseError → Type 0
IsNvAnswer text (Ok nv) result = MatchResult result (λ answer. answer ≡ nv) IsNvMemory
IsNvAnswer text (Err fault) result = IsErrAnd result (λ e. IsNvMemory e ⊎ ReportsNvFault fault text e)

-- what the parser of names with versions returns
abbrev pub IsParsedNv : List ℕ → Result PackageNv PackageNvParseError → Type 0
IsParsedNv text = IsParsed (IsNvOutcome text) (IsNvRejection text) (IsNvAnswer text)

-- the text of a name and version parses to it
abbrev pub NvReadsBack : PackageNv → Type 0
NvReadsBack nv = IsNvOutcome (nv_text nv) (Ok nv)
