-- Why the parser of a grammar rejects a text, and the failure that says so.
use Rattle.std.specs.Prelude.{◌≡◌, ℕ, List, None}
use Rattle.std.specs.Str.{trim}
use Rattle.semver_req.specs.PieceReading.{IsCutRejection}
use Rattle.semver_req.specs.Parsers.{Failure}
use Rattle.semver_req.specs.SpecifierRejections.{IsSpecifierRejection}
use Rattle.semver_req.specs.declared.common.values.Flavour.{Flavour}
use Rattle.semver_req.specs.declared.common.values.Flavour.TheVariants.{Npm, Normal, Specifier}

abbrev pub IsTextRejection : Flavour → List ℕ → Failure → Type 0
IsTextRejection Npm text failure = IsCutRejection Npm (trim text) failure
IsTextRejection Normal text failure = IsCutRejection Normal text failure
IsTextRejection Specifier text failure = IsSpecifierRejection text failure

-- a grammar rejects a text for one reason: of its failures all but out of memory are the same
abbrev pub TextsAreRejectedForOneReason : Type 0
TextsAreRejectedForOneReason = (f : Flavour) (text : List ℕ) (failure other : Failure) → IsTextRejection f text failure
    → IsTextRejection f text other → (failure ≡ None → ⊥) → (other ≡ None → ⊥) → failure ≡ other
