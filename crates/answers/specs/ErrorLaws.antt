-- Errors that say the same have the same JSON.
use Rattle.std.proofs.Common.{◌≡◌, ◌∙◌, ◌++◌, ℕ, Bool, List, [], ◌∷◌, map, Option, Some, None, refl, sym, ap, codes, if◌then◌else◌}
use Rattle.serde_json.specs.Data.{Data, array, member, no_members, number, object, string, unsigned}
use Rattle.serde_json.specs.View.{items_of}
use Rattle.semver_base.specs.Failure.{rejection_message}
use Rattle.semver_base.specs.declared.failure.Rejection.{Rejection}
use Rattle.semver_req.specs.Causes.{rejection_of}
use Rattle.semver_req.specs.Alternatives.{expectation, reported}
use Rattle.semver_req.specs.declared.error_places.causes.Cause.{Cause}
use Rattle.semver_req.specs.declared.error_places.causes.Cause.TheVariants.{Unexpected, NoTag, Empty, NumberTooLarge, BoundTooLarge}
use Rattle.semver_req.specs.declared.error_places.expected.Kind.{Kind}
use Rattle.semver_req.specs.declared.error_places.pieces.InvalidPiece.{InvalidPiece}
use Rattle.answers.specs.Errors.{error_json, errors_json, expected_texts, kind_name}

abbrev names_of : Option (List Kind × Bool) → List (List ℕ)
names_of (Some (kinds, ends)) = map kind_name kinds ++ (if ends then codes "end" ∷ [] else [])
names_of None = []

names_are : (cause : Cause) → expected_texts cause ≡ names_of (expectation cause)
names_are (Unexpected e) = refl
names_are NoTag = refl
names_are Empty = refl
names_are NumberTooLarge = refl
names_are BoundTooLarge = refl

-- the JSON by what is expected, and by what the error says
abbrev with_names : InvalidPiece → List (List ℕ) → Data
with_names e names =
    object (member (codes "end") (number (unsigned e.end))
    (member (codes "expected") (array (items_of (map string names)))
    (member (codes "message") (string (rejection_message (rejection_of e.cause)))
    (member (codes "start") (number (unsigned e.place)) no_members))))

abbrev json_of : ℕ × ℕ × ℕ × Rejection × Option (List Kind × Bool) → Data
json_of (start, end, place, why, expected) =
    object (member (codes "end") (number (unsigned end))
    (member (codes "expected") (array (items_of (map string (names_of expected))))
    (member (codes "message") (string (rejection_message why))
    (member (codes "start") (number (unsigned place)) no_members))))

json_is : (e : InvalidPiece) → error_json e ≡ json_of (reported e)
json_is e = ap (with_names e) (names_are e.cause)

pub same_error_json : (e d : InvalidPiece) → reported e ≡ reported d → error_json e ≡ error_json d
same_error_json e d same = json_is e ∙ (ap json_of same ∙ sym (json_is d))

each_is : (errors : List InvalidPiece) → map error_json errors ≡ map json_of (map reported errors)
each_is [] = refl
each_is (e ∷ errors) = ap (λ json. json ∷ map error_json errors) (json_is e)
    ∙ ap (λ more. json_of (reported e) ∷ more) (each_is errors)

pub same_errors_json : (errors others : List InvalidPiece) → map reported errors ≡ map reported others
    → errors_json errors ≡ errors_json others
same_errors_json errors others same = ap (λ all. array (items_of all))
    (each_is errors ∙ (ap (map json_of) same ∙ sym (each_is others)))
