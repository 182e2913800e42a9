-- The name with a version that a text parses to, and its parts as JSON.
use Rattle.std.specs.Prelude.{◌≡◌, ℕ, List, None, Some, Result, codes}
use Rattle.serde_json.specs.Data.{Data, member, no_members, object, string}
use Rattle.serde_json.specs.Written.{compact_text}
use Rattle.semver_base.specs.Failure.{rejection_message}
use Rattle.semver_base.specs.VersionText.{version_text}
use Rattle.semver_base.specs.declared.failure.Rejection.{Rejection}
use Rattle.semver_req.specs.Parsers.{Failure}
use Rattle.deno_semver.specs.NameAndVersion.{IsNvOutcome}
use Rattle.deno_semver.specs.declared.package.values.PackageNv.{PackageNv}
use Rattle.answers.specs.Asking.{Fault, Given, Is}
use Rattle.answers.specs.Object.{text_or_null}
use Rattle.answers.specs.Reading.{Parsed, ReadBy}
use Rattle.answers.specs.declared.asking.Kind.TheVariants as kind
use Rattle.package_answers.specs.Packages.{last_part, scope_part}

-- the name without its scope, the scope, and the version as displayed
abbrev pub nv_json : PackageNv → Data
nv_json nv =
    object (member (codes "name") (string (last_part nv.name))
    (member (codes "scope") (text_or_null (scope_part nv.name))
    (member (codes "version") (string (version_text nv.version)) no_members)))

-- the failure has the message of the fault
abbrev pub ShowsRejection : Rejection → Failure → Type 0
ShowsRejection fault failure = failure ≡ Some (rejection_message fault, None)

-- the name with a version that a text parses to
abbrev pub IsNameWithVersion : List ℕ → Result PackageNv Fault → Type 0
IsNameWithVersion text = Parsed kind.Package 0 (ReadBy (IsNvOutcome text) ShowsRejection)

-- its parts
abbrev pub NameWithVersionParts : List ℕ → Result (List ℕ) Fault → Type 0
NameWithVersionParts text = Given (IsNameWithVersion text) (λ nv. Is (compact_text (nv_json nv)))
