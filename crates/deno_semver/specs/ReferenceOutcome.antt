-- What the text of a package reference parses to, and why it is rejected. Sources: npm's and JSR's specifiers; which fault is
-- reported is the crate `deno_semver`'s choice.
use Rattle.std.specs.Prelude.{◌≡◌, ◌++◌, ◌∷◌, ◌⊎◌, [], ℕ, List, drop, true, Some, Result, Ok, Err, MatchResult, IsErrAnd, codes}
use Rattle.std.specs.List.{list_all}
use Rattle.semver_base.specs.Characters.{at_sign, slash}
use Rattle.semver_req.specs.declared.common.values.Flavour.TheVariants.{Specifier}
use Rattle.deno_semver.specs.Cuts.{is_not}
use Rattle.deno_semver.specs.Kind.{scheme_of}
use Rattle.deno_semver.specs.Parsed.{IsParsed}
use Rattle.deno_semver.specs.PackageOutcome.{PackageFault, HasPath, IsFirstPackageFault, IsVersionReq, Reports}
use Rattle.deno_semver.specs.PackageText.{IsPackageText, PackageParts, scoped_name}
use Rattle.deno_semver.specs.ReferenceText.{LacksScheme, reference_text, sub_path_of, text_with_version}
use Rattle.deno_semver.specs.declared.package.errors.PackageReqPartsParseError.{PackageReqPartsParseError}
use Rattle.deno_semver.specs.declared.package.values.PackageKind.{PackageKind}
use Rattle.deno_semver.specs.declared.package.reference.PackageReqReference.{PackageReqReference}
use Rattle.deno_semver.specs.declared.package.errors.PackageReqReferenceInvalidParseError.{PackageReqReferenceInvalidParseError}
use Rattle.deno_semver.specs.declared.package.errors.PackageReqReferenceInvalidWithVersionParseError.{PackageReqReferenceInvalidWithVersionParseError}
use Rattle.deno_semver.specs.declared.package.errors.PackageReqReferenceParseError.{PackageReqReferenceParseError}
use Rattle.deno_semver.specs.declared.package.errors.PackageReqReferenceParseError.TheVariants as boxed

-- a text without its scheme: a package requirement by the strict grammar, and the path after it, if there is one
pub record IsReadReference (body : List ℕ) (reference : PackageReqReference) : Type 0 where
  pub cut : PackageParts
  pub is_cut : IsPackageText body cut
  pub name : reference.req.name ≡ scoped_name cut.scope cut.name
  pub version_req : IsVersionReq Specifier cut.version reference.req.version_req
  pub sub_path : reference.sub_path ≡ sub_path_of cut.path

-- the version requirement's text is `*`, and a version follows the last `@` of the path
pub record HasVersionInPath (reference : PackageReqReference) (before version : List ℕ) : Type 0 where
  pub any : reference.req.version_req.raw_text ≡ codes "*"
  pub path : reference.sub_path ≡ Some (before ++ (at_sign ∷ version))
  pub last_at : list_all (is_not at_sign) version ≡ true

abbrev pub HasNoVersionInPath : PackageReqReference → Type 0
HasNoVersionInPath reference = (before version : List ℕ) → HasVersionInPath reference before version → ⊥

-- why a text is rejected
pub data ReferenceFault : Type 0 where
  OtherScheme : ReferenceFault
  -- what follows the scheme isn't a valid package requirement
  BadText : PackageFault → ReferenceFault
  -- the reference as written, and with its version moved after the name
  VersionInPath : List ℕ → List ℕ → ReferenceFault

-- a path may follow the package requirement
abbrev pub IsOfReference : PackageFault → Type 0
IsOfReference (HasPath path) = ⊥
IsOfReference fault = Unit {0}

-- what a text parses to: a reference without a version in its path, or its first fault
pub data IsReferenceOutcome (kind : PackageKind)
    (text : List ℕ) : Result PackageReqReference ReferenceFault → Type 0 where
  other_scheme : LacksScheme kind text → IsReferenceOutcome kind text (Err OtherScheme)
  is_reference : {body : List ℕ} {reference : PackageReqReference} → text ≡ scheme_of kind ++ body
      → IsReadReference body reference → HasNoVersionInPath reference
      → IsReferenceOutcome kind text (Ok reference)
  bad_text : {body : List ℕ} {fault : PackageFault} → text ≡ scheme_of kind ++ body → IsFirstPackageFault Specifier body fault
      → IsOfReference fault
      → IsReferenceOutcome kind text (Err (BadText fault))
  version_in_path : {body before version : List ℕ} {reference : PackageReqReference} → text ≡ scheme_of kind ++ body
      → IsReadReference body reference → HasVersionInPath reference before version
      → IsReferenceOutcome kind text
      (Err (VersionInPath (reference_text reference) (text_with_version reference.req version before)))

-- ---- results

-- an error without its boxes
pub data ReferenceError : Type 0 where
  NotExpectedScheme : PackageKind → ReferenceError
  Invalid : PackageReqReferenceInvalidParseError → ReferenceError
  InvalidPathWithVersion : PackageReqReferenceInvalidWithVersionParseError → ReferenceError
  Memory : ReferenceError

-- the error of a reference, out of its box
abbrev pub unboxed : PackageReqReferenceParseError → ReferenceError
unboxed (boxed.NotExpectedScheme kind) = NotExpectedScheme kind
unboxed (boxed.Invalid error) = Invalid error.value
unboxed (boxed.InvalidPathWithVersion error) = InvalidPathWithVersion error.value
unboxed boxed.Memory = Memory

-- the error reports the fault
abbrev pub ReportsReference : PackageKind → List ℕ → ReferenceFault → PackageReqReferenceParseError → Type 0
ReportsReference kind text OtherScheme e = unboxed e ≡ NotExpectedScheme kind
ReportsReference kind text (BadText fault) e =
    (source : PackageReqPartsParseError) × Reports Specifier fault source
    × (unboxed e ≡ Invalid (record { specifier = text; source = source }))
ReportsReference kind text (VersionInPath current suggested) e =
    unboxed e ≡ InvalidPathWithVersion (record { kind = kind; current = current; suggested = suggested })

-- the error is out of memory, or reports the fault that is the text's outcome
abbrev pub IsReferenceRejection : PackageKind → List ℕ → PackageReqReferenceParseError → Type 0
IsReferenceRejection kind text e =
    (unboxed e ≡ Memory)
    ⊎ ((fault : ReferenceFault) × IsReferenceOutcome kind text (Err fault) × ReportsReference kind text fault e)

-- the result for a text with this outcome, or out of memory
abbrev pub IsReferenceAnswer : PackageKind → List ℕ → Result PackageReqReference ReferenceFault
    → Result PackageReqReference PackageReqReferenceParseError → Type 0
IsReferenceAnswer kind text (Ok reference) result =
    MatchResult result (λ answer. answer ≡ reference) (λ e. unboxed e ≡ Memory)
IsReferenceAnswer kind text (Err fault) result =
    IsErrAnd result (λ e. (unboxed e ≡ Memory) ⊎ ReportsReference kind text fault e)

-- what the parser of references returns
abbrev pub IsParsedReference : PackageKind → List ℕ → Result PackageReqReference PackageReqReferenceParseError → Type 0
IsParsedReference kind text = IsParsed (IsReferenceOutcome kind text) (IsReferenceRejection kind text) (IsReferenceAnswer kind text)

-- ---- parsing the text back

-- no `@` after the first byte, which may begin a scope, and no trailing `/`
pub record IsBareName (name : List ℕ) : Type 0 where
  pub no_at : list_all (is_not at_sign) (drop 1 name) ≡ true
  pub no_slash : (front : List ℕ) → name ≡ front ++ (slash ∷ []) → ⊥

-- after the scheme, the text of a reference parses to it, if the text of its version isn't `*` or its name is plain
abbrev pub ReferenceReadsBack : PackageKind → PackageReqReference → Type 0
ReferenceReadsBack kind reference = (reference.req.version_req.raw_text ≡ codes "*" → IsBareName reference.req.name)
    → IsReferenceOutcome kind (scheme_of kind ++ reference_text reference) (Ok reference)
