-- The grammar of version texts, and which fault of a text comes first. Source: SemVer 2.0.0, section 2 and its grammar, in
-- node-semver's loose form: a leading `=` or `v`, leading zeros, and a pre-release without `-`.
use Rattle.std.specs.Prelude.{◌≡◌, ◌≤◌, ◌<◌, ◌^◌, ℕ, List, [], ◌∷◌, Option, Some, None, Result, Ok, Err, ◌⊎◌, MatchResult, IsErrAnd}
use Rattle.semver_base.specs.Characters.{dot, equals_sign, letter_v}
use Rattle.semver_base.specs.Failure.{rejection_message}
use Rattle.semver_base.specs.Grammar.{After, Followed, IsLongest, Joined, Mapped, Prefixed, Optional}
use Rattle.semver_base.specs.Lexical.{IsWhitespace, IsByte, IsLooseNumber, IsQualifier, NoDigitFollows}
use Rattle.semver_base.specs.declared.failure.Rejection.{Rejection}
use Rattle.semver_base.specs.declared.failure.Rejection.TheVariants.{UnexpectedCharacter, EmptyConstraint, MissingMinor, MissingPatch, NumberTooLarge, BoundTooLarge}
use Rattle.semver_base.specs.declared.lexical.values.Qualifier.{Qualifier}
use Rattle.semver_base.specs.declared.lexical.values.Strictness.TheVariants.{Loose}
use Rattle.semver_base.specs.declared.version.Version.{Version}

-- ---- the grammar

abbrev pub ignored : Option (Unit {0}) → Unit {0}
ignored v = tt

-- an optional `=`, and an optional `v`, with optional whitespace after each
abbrev pub IsLead : List ℕ → Unit {0} → Type 0
IsLead = Mapped ignored (After (Optional (IsByte equals_sign)) (After IsWhitespace (Optional (Prefixed letter_v IsWhitespace))))

-- three numbers with dots between them
abbrev pub IsTriple : List ℕ → ℕ × (ℕ × ℕ) → Type 0
IsTriple = Followed IsLooseNumber (Prefixed dot (Followed IsLooseNumber (Prefixed dot IsLooseNumber)))

abbrev pub version_of : (ℕ × (ℕ × ℕ)) × Qualifier → Version
version_of v = record { major = v.0.0; minor = v.0.1.0; patch = v.0.1.1; pre = v.1.pre; build = v.1.build }

-- the lead, three numbers, and an optional pre-release and build
abbrev pub IsVersion : List ℕ → Version → Type 0
IsVersion = Mapped version_of (After IsLead (Joined NoDigitFollows IsTriple (IsQualifier Loose)))

-- ---- faults

pub record AllNumbersFit (v : Version) : Type 0 where
  pub major : v.major < 2 ^ 64
  pub minor : v.minor < 2 ^ 64
  pub patch : v.patch < 2 ^ 64

-- the text doesn't begin with a `.`
abbrev pub LacksDot : List ℕ → Type 0
LacksDot text = (rest : List ℕ) → text ≡ dot ∷ rest → ⊥

-- the first fault of numbers with dots between them, each number as long as possible; missing has the error of each dot that
-- has to come
pub data IsNumberFault : List Rejection → List ℕ → Rejection → Type 0 where
  too_large : {missing : List Rejection} {text rest : List ℕ} {n : ℕ} → IsLongest IsLooseNumber text n rest → 2 ^ 64 ≤ n
      → IsNumberFault missing text NumberTooLarge
  no_dot : {rejection : Rejection} {missing : List Rejection} {text rest : List ℕ} {n : ℕ}
      → IsLongest IsLooseNumber text n rest → n < 2 ^ 64 → LacksDot rest
      → IsNumberFault (rejection ∷ missing) text rejection
  later : {rejection fault : Rejection} {missing : List Rejection} {text rest : List ℕ} {n : ℕ}
      → IsLongest IsLooseNumber text n (dot ∷ rest) → n < 2 ^ 64 → IsNumberFault missing rest fault
      → IsNumberFault (rejection ∷ missing) text fault

-- the first fault of the text is a number that is too large or a missing component
pub record IsFirstFault (text : List ℕ) (fault : Rejection) : Type 0 where
  pub rest : List ℕ
  pub lead : IsLongest IsLead text tt rest
  pub fault_of_rest : IsNumberFault (MissingMinor ∷ MissingPatch ∷ []) rest fault

-- the outcome of a trimmed text: a version, its first fault, or outside the grammar
pub data IsVersionOutcome (text : List ℕ) : Result Version Rejection → Type 0 where
  is_version : {v : Version} → IsVersion text v → AllNumbersFit v → IsVersionOutcome text (Ok v)
  is_fault : {fault : Rejection} → IsFirstFault text fault → IsVersionOutcome text (Err fault)
  is_outside : ((v : Version) → IsVersion text v → ⊥) → ((fault : Rejection) → IsFirstFault text fault → ⊥)
      → IsVersionOutcome text (Err UnexpectedCharacter)

-- ---- results

-- the snippet of a missing component is the whole text
abbrev pub version_snippet : Rejection → List ℕ → Option (List ℕ)
version_snippet MissingMinor text = Some text
version_snippet MissingPatch text = Some text
version_snippet UnexpectedCharacter text = None
version_snippet EmptyConstraint text = None
version_snippet NumberTooLarge text = None
version_snippet BoundTooLarge text = None

-- the failure that reports a `Rejection`
abbrev pub version_failure : Rejection → List ℕ → Option (List ℕ × Option (List ℕ))
version_failure fault text = Some (rejection_message fault, version_snippet fault text)

-- the failure is out of memory, or reports the error that is the text's outcome
abbrev pub IsVersionRejection : List ℕ → Option (List ℕ × Option (List ℕ)) → Type 0
IsVersionRejection text failure =
    (failure ≡ None) ⊎ ((fault : Rejection) × IsVersionOutcome text (Err fault) × (failure ≡ version_failure fault text))

-- the result for a text with this outcome, or out of memory; source is the failure in the error
abbrev pub IsVersionAnswer : {E : Type 0} → (E → Option (List ℕ × Option (List ℕ))) → List ℕ → Result Version Rejection
    → Result Version E → Type 0
IsVersionAnswer source text (Ok v) result = MatchResult result (λ version. version ≡ v) (λ e. source e ≡ None)
IsVersionAnswer source text (Err fault) result =
    IsErrAnd result (λ e. (source e ≡ None) ⊎ (source e ≡ version_failure fault text))
