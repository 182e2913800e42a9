-- What is wrong with a range, and where, as JSON.
use Rattle.std.specs.Prelude.{◌≡◌, ◌++◌, ℕ, List, [], ◌∷◌, codes, map, if◌then◌else◌}
use Rattle.serde_json.specs.Data.{Data, array, member, no_members, number, object, string, unsigned}
use Rattle.serde_json.specs.View.{items_of}
use Rattle.serde_json.specs.Written.{compact_text}
use Rattle.semver_base.specs.Failure.{rejection_message}
use Rattle.semver_req.specs.declared.common.values.Flavour.{Flavour}
use Rattle.semver_req.specs.Causes.{rejection_of}
use Rattle.semver_req.specs.Alternatives.{AreInvalidPieces}
use Rattle.semver_req.specs.Kinds.{kind_text}
use Rattle.semver_req.specs.declared.error_places.causes.Cause.{Cause}
use Rattle.semver_req.specs.declared.error_places.causes.Cause.TheVariants.{Unexpected, NoTag, Empty, NumberTooLarge, BoundTooLarge}
use Rattle.semver_req.specs.declared.error_places.expected.Expected.{Expected}
use Rattle.semver_req.specs.declared.error_places.expected.Kind.{Kind}
use Rattle.semver_req.specs.declared.error_places.expected.Kind.TheVariants.{Digit, Letter, Space}
use Rattle.semver_req.specs.declared.error_places.pieces.InvalidPiece.{InvalidPiece}

-- a kind of which each text may stand there has a name, any other its one text
abbrev pub kind_name : Kind → List ℕ
kind_name Digit = codes "digit"
kind_name Letter = codes "letter"
kind_name Space = codes "whitespace"
kind_name kind = kind_text kind

-- the names of what is expected: kinds of text, and `end` if the text may end
abbrev pub expected_names : Expected → List (List ℕ)
expected_names e = map kind_name e.kinds.items ++ (if e.may_end then codes "end" ∷ [] else [])

-- nothing is expected of an alternative that is wrong in another way
abbrev pub expected_texts : Cause → List (List ℕ)
expected_texts (Unexpected e) = expected_names e
expected_texts NoTag = []
expected_texts Empty = []
expected_texts NumberTooLarge = []
expected_texts BoundTooLarge = []

-- what is expected at the place of an error
abbrev pub expected_json : Cause → Data
expected_json cause = array (items_of (map string (expected_texts cause)))

-- where the error is, where its alternative ends, why that is invalid, and what is expected in its place
abbrev pub error_json : InvalidPiece → Data
error_json e =
    object (member (codes "end") (number (unsigned e.end))
    (member (codes "expected") (expected_json e.cause)
    (member (codes "message") (string (rejection_message (rejection_of e.cause)))
    (member (codes "start") (number (unsigned e.place)) no_members))))

-- the JSON of several errors
abbrev pub errors_json : List InvalidPiece → Data
errors_json errors = array (items_of (map error_json errors))

-- the text is that of the errors of the invalid alternatives
abbrev pub IsErrorsText : Flavour → List ℕ → List ℕ → Type 0
IsErrorsText f range text =
    (errors : List InvalidPiece) × AreInvalidPieces f range errors × (text ≡ compact_text (errors_json errors))
