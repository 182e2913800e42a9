-- Where the text of a package or a reference is invalid, and why, also as JSON.
use Rattle.std.specs.Prelude.{◌≡◌, ◌++◌, ◌-◌, ℕ, List, [], ◌∷◌, true, Option, None, Some, codes, length, map}
use Rattle.std.specs.List.{list_all}
use Rattle.serde_json.specs.Data.{Data, array, member, no_members, number, object, string, unsigned}
use Rattle.serde_json.specs.View.{items_of}
use Rattle.semver_base.specs.Characters.{slash}
use Rattle.semver_base.specs.Failure.{message_of}
use Rattle.semver_req.specs.Parsers.{Failure}
use Rattle.deno_semver.specs.Cuts.{is_not}
use Rattle.deno_semver.specs.PackageOutcome.{BadName, PackageFault, HasPath, NoAt, NoName}
use Rattle.deno_semver.specs.PackageText.{without_slash}
use Rattle.answers.specs.Errors.{errors_json}
use Rattle.package_answers.specs.declared.errors.PackageErrors.{PackageErrors}
use Rattle.package_answers.specs.declared.errors.PackageErrors.TheVariants as errors
use Rattle.package_answers.specs.declared.errors.Part.{Part}
use Rattle.package_answers.specs.declared.errors.Part.TheVariants.{At, Name, Scheme, Slash}
use Rattle.package_answers.specs.declared.errors.PartError.{PartError}

-- ---- places

-- where the text of a package has a fault, and the part that is missing there; a path isn't allowed at all
pub data IsFaultAt (text : List ℕ) : PackageFault → Option Part → ℕ → Type 0 where
  no_at : IsFaultAt text NoAt (Some At) 0
  no_name : IsFaultAt text NoName (Some Name) (length text - length (without_slash text))
  -- no `/` follows the scope
  no_slash : list_all (is_not slash) (without_slash text) ≡ true → IsFaultAt text BadName (Some Slash) (length text)
  -- no name follows the scope and its `/`
  no_last : (scope rest : List ℕ) → without_slash text ≡ scope ++ (slash ∷ rest) → list_all (is_not slash) scope ≡ true
      → IsFaultAt text BadName (Some Name) (length text - length rest)
  has_path : {path : List ℕ} → IsFaultAt text (HasPath path) None (length text - length path - 1)

-- the error of a part, at such a place, with this failure
abbrev pub IsPartError : (Option Part → ℕ → Type 0) → Failure → PackageErrors → Type 0
IsPartError IsAt failure (errors.Range pieces) = ⊥
IsPartError IsAt failure (errors.Part e) = IsAt e.missing e.place × (e.failure ≡ failure)

-- ---- JSON

-- what is expected where a part is missing
abbrev pub part_texts : Option Part → List (List ℕ)
part_texts (Some At) = codes "@" ∷ []
part_texts (Some Slash) = codes "/" ∷ []
part_texts (Some Name) = codes "name" ∷ []
part_texts (Some Scheme) = codes "jsr:" ∷ codes "npm:" ∷ []
part_texts None = []

abbrev pub missing_json : Option Part → Data
missing_json missing = array (items_of (map string (part_texts missing)))

-- one error: where the text ends, what is expected, why the text is invalid, and where
abbrev pub part_errors_json : ℕ → PartError → Data
part_errors_json end e =
    array (items_of (object (member (codes "end") (number (unsigned end))
    (member (codes "expected") (missing_json e.missing)
    (member (codes "message") (string (message_of e.failure))
    (member (codes "start") (number (unsigned e.place)) no_members)))) ∷ []))

-- the errors of a text that ends here
abbrev pub package_errors_json : ℕ → PackageErrors → Data
package_errors_json end (errors.Range pieces) = errors_json pieces.items
package_errors_json end (errors.Part e) = part_errors_json end e
