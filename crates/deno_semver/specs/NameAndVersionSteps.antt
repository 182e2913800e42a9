-- The steps of parsing names with versions.
use Rattle.std.specs.Prelude.{◌≡◌, ◌⊎◌, ℕ, List, Option, None, Result, Ok, Err, MatchResult, IsErrAnd}
use Rattle.std.specs.Borrow.{Bor}
use Rattle.semver_base.specs.Failure.{message_of}
use Rattle.deno_semver.specs.NameAndVersion.{IsNvFront, IsNvMemory, ReportsNvFault}
use Rattle.semver_base.specs.declared.failure.Rejection.{Rejection}
use Rattle.deno_semver.specs.declared.package.values.PackageNv.{PackageNv}
use Rattle.deno_semver.specs.declared.package.name_version.PackageNvParseError.{PackageNvParseError}

-- the message of a failure that isn't out of memory, and the whole text
pub record ReportsFailure (failure : Option (List ℕ × Option (List ℕ))) (text : List ℕ)
    (e : PackageNvParseError) : Type 0 where
  pub no_memory : failure ≡ None → ⊥
  pub message : e.message ≡ message_of failure
  pub text_is : e.text ≡ text

-- the error is out of memory, or reports the whole text and the fault at the start of a text
abbrev pub IsFrontRejection : List ℕ → List ℕ → PackageNvParseError → Type 0
IsFrontRejection text whole e =
    IsNvMemory e ⊎ ((fault : Rejection) × IsNvFront text (Err fault) × ReportsNvFault fault whole e)

-- the result for a text with this at its start, or out of memory
abbrev pub IsFrontAnswer : List ℕ → Result (PackageNv × List ℕ) Rejection
    → Result (PackageNv × Bor (List ℕ)) PackageNvParseError → Type 0
IsFrontAnswer whole (Ok front) result =
    MatchResult result (λ answer. (answer.0 ≡ front.0) × (answer.1.now ≡ front.1)) IsNvMemory
IsFrontAnswer whole (Err fault) result = IsErrAnd result (λ e. IsNvMemory e ⊎ ReportsNvFault fault whole e)
