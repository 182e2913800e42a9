-- Messages and snippets of failures.
use Rattle.std.specs.Prelude.{ℕ, List, Option, Some, None, codes}
use Rattle.semver_base.specs.declared.failure.ParserError.{ParserError}
use Rattle.semver_base.specs.declared.failure.Rejection.{Rejection}
use Rattle.semver_base.specs.declared.failure.Rejection.TheVariants.{UnexpectedCharacter, EmptyConstraint, MissingMinor, MissingPatch, NumberTooLarge, BoundTooLarge}

-- a failure's message; a failure without texts is out of memory
abbrev pub message_of : Option (List ℕ × Option (List ℕ)) → List ℕ
message_of None = codes "Out of memory."
message_of (Some texts) = texts.0

-- the offending part of the text, if the failure has one
abbrev pub snippet_of : Option (List ℕ × Option (List ℕ)) → Option (List ℕ)
snippet_of None = None
snippet_of (Some texts) = texts.1

-- the message of a `Rejection`
abbrev pub rejection_message : Rejection → List ℕ
rejection_message UnexpectedCharacter = codes "Unexpected character."
rejection_message EmptyConstraint = codes "Empty version constraint."
rejection_message MissingMinor =
    codes "Missing minor version. Versions must be in the form MAJOR.MINOR.PATCH (ex. 1.0.0)."
rejection_message MissingPatch =
    codes "Missing patch version. Versions must be in the form MAJOR.MINOR.PATCH (ex. 1.0.0)."
rejection_message NumberTooLarge = codes "Number is too large."
rejection_message BoundTooLarge = codes "Version bound is too large."

-- what is wrong, of the error of any parser
abbrev pub source_of : {parser : ℕ} → ParserError parser → Option (List ℕ × Option (List ℕ))
source_of error = error.source
