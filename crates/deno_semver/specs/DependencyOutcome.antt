-- What the text of a JSR package's dependency parses to, and why it is rejected. Source: the crate `deno_semver`.
use Rattle.std.specs.Prelude.{◌≡◌, ◌++◌, ◌⊎◌, ℕ, List, Result, Ok, Err, MatchResult, IsErrAnd, string_bytes, take_while}
use Rattle.semver_base.specs.Characters.{colon}
use Rattle.semver_req.specs.declared.common.values.Flavour.{Flavour}
use Rattle.deno_semver.specs.Cuts.{is_not}
use Rattle.deno_semver.specs.Kind.{scheme_of}
use Rattle.deno_semver.specs.PackageOutcome.{PackageFault, IsPackageOutcome, ReportsFault}
use Rattle.deno_semver.specs.Parsed.{IsParsed}
use Rattle.deno_semver.specs.ReferenceText.{LacksScheme}
use Rattle.deno_semver.specs.declared.jsr.dependency.JsrDepPackageReq.{JsrDepPackageReq}
use Rattle.deno_semver.specs.declared.jsr.dependency.JsrDepPackageReqParseError.{JsrDepPackageReqParseError}
use Rattle.deno_semver.specs.declared.jsr.dependency.JsrDepPackageReqParseError.TheVariants as error
use Rattle.deno_semver.specs.declared.package.errors.PackageReqParseError.{PackageReqParseError}
use Rattle.deno_semver.specs.declared.package.errors.PackageReqPartsParseError.TheVariants as parts
use Rattle.deno_semver.specs.declared.package.values.PackageKind.{PackageKind}
use Rattle.deno_semver.specs.declared.package.values.PackageReq.{PackageReq}

-- why a text is rejected
pub data DependencyFault : Type 0 where
  OtherScheme : DependencyFault
  -- the text after the scheme isn't a valid package requirement
  BadRequirement : List ℕ → PackageFault → DependencyFault

-- what a text parses to: a package requirement after either registry's scheme, or its first fault
pub data IsDependencyOutcome (f : Flavour) (text : List ℕ) : Result JsrDepPackageReq DependencyFault → Type 0 where
  other_scheme : ((kind : PackageKind) → LacksScheme kind text) → IsDependencyOutcome f text (Err OtherScheme)
  is_dependency : (kind : PackageKind) (body : List ℕ) {req : PackageReq} → text ≡ scheme_of kind ++ body
      → IsPackageOutcome f body (Ok req)
      → IsDependencyOutcome f text (Ok (record { kind = kind; req = req }))
  bad_requirement : (kind : PackageKind) (body : List ℕ) {fault : PackageFault} → text ≡ scheme_of kind ++ body
      → IsPackageOutcome f body (Err fault)
      → IsDependencyOutcome f text (Err (BadRequirement body fault))

-- the text before the first `:`, or the whole text
abbrev pub reported_scheme : List ℕ → List ℕ
reported_scheme text = take_while (is_not colon) text

-- the error reports the fault
abbrev pub ReportsDependency : Flavour → List ℕ → DependencyFault → JsrDepPackageReqParseError → Type 0
ReportsDependency f text OtherScheme (error.NotExpectedScheme scheme) = string_bytes scheme ≡ reported_scheme text
ReportsDependency f text (BadRequirement body fault) (error.PackageReqParse inner) = ReportsFault f fault body inner
ReportsDependency f text fault e = ⊥

-- the error is out of memory, or reports the fault that is the text's outcome
abbrev pub IsDependencyRejection : Flavour → List ℕ → JsrDepPackageReqParseError → Type 0
IsDependencyRejection f text e =
    (e ≡ error.Memory)
    ⊎ ((fault : DependencyFault) × IsDependencyOutcome f text (Err fault) × ReportsDependency f text fault e)

-- the result for a text with this outcome, or out of memory
abbrev pub IsDependencyAnswer : Flavour → List ℕ → Result JsrDepPackageReq DependencyFault
    → Result JsrDepPackageReq JsrDepPackageReqParseError → Type 0
IsDependencyAnswer f text (Ok dependency) result =
    MatchResult result (λ answer. answer ≡ dependency) (λ e. e ≡ error.Memory)
IsDependencyAnswer f text (Err fault) result =
    IsErrAnd result (λ e. (e ≡ error.Memory) ⊎ ReportsDependency f text fault e)

-- what the parser of dependencies returns
abbrev pub IsParsedDependency : Flavour → List ℕ → Result JsrDepPackageReq JsrDepPackageReqParseError → Type 0
IsParsedDependency f text = IsParsed (IsDependencyOutcome f text) (IsDependencyRejection f text) (IsDependencyAnswer f text)

-- ---- steps

-- the error made of a package requirement's error
abbrev pub IsOfPackageError : PackageReqParseError → JsrDepPackageReqParseError → Type 0
IsOfPackageError inner e =
    ((inner.source ≡ parts.Memory) × (e ≡ error.Memory))
    ⊎ ((inner.source ≡ parts.Memory → ⊥) × (e ≡ error.PackageReqParse inner))

-- the same error, however its texts are stored
abbrev pub IsSameError : JsrDepPackageReqParseError → JsrDepPackageReqParseError → Type 0
IsSameError (error.NotExpectedScheme scheme) (error.NotExpectedScheme other) = string_bytes other ≡ string_bytes scheme
IsSameError (error.PackageReqParse inner) e = e ≡ error.PackageReqParse inner
IsSameError error.Memory e = e ≡ error.Memory
IsSameError (error.NotExpectedScheme scheme) e = ⊥
