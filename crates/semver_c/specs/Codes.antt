-- How outcomes are returned to C: as a code, with a text in the caller's buffer or a place.
use Rattle.std.specs.Prelude.{◌≡◌, ◌⊎◌, ◌++◌, ◌∷◌, ℕ, ℤ, pos, negsuc, List, [], drop, length, map, Bool, true, false, Option, Some, None, nat_le, Result, Ok, Err, if◌then◌else◌}
use Rattle.std.specs.declared.cmp.Ordering.{Ordering}
use Rattle.std.specs.declared.cmp.Ordering.TheVariants.{Less, Equal, Greater}
use Rattle.semver_base.specs.VersionText.{version_text}
use Rattle.semver_base.specs.declared.version.Version.{Version}
use Rattle.node_semver.specs.declared.release_type.ReleaseType.{ReleaseType}
use Rattle.node_semver.specs.declared.release_type.ReleaseType.TheVariants as type
use Rattle.answers.specs.Asking.{Invalid, OutOfMemory}
use Rattle.answers.specs.declared.asking.Answer.{Answer}
use Rattle.answers.specs.declared.asking.Answer.TheVariants.{Value, Tag}
use Rattle.answers.specs.declared.asking.Kind.{Kind}
use Rattle.answers.specs.declared.asking.Kind.TheVariants as kind
use Rattle.answers.specs.declared.questions.Best.{Best}
use Rattle.semver_c.specs.Arguments.{CallFault, NoGrammar, NoValue, NotUtf8, Unanswered, call_message, fault_place}
use Rattle.semver_c.specs.declared.codes.Code.{Code}
use Rattle.semver_c.specs.declared.codes.Code.TheVariants as code
use Rattle.semver_c.specs.declared.questions.Numbers.{Numbers}

-- ---- numbers: 0 and above for an answer, negative for none

-- the number of a kind of release
abbrev pub kind_number : ReleaseType → ℤ
kind_number type.Major = pos 0
kind_number type.Minor = pos 1
kind_number type.Patch = pos 2
kind_number type.PreMajor = pos 3
kind_number type.PreMinor = pos 4
kind_number type.PrePatch = pos 5
kind_number type.PreRelease = pos 6
kind_number type.Release = pos 7

-- the number of a code
abbrev pub number_of : Code → ℤ
number_of code.No = pos 0
number_of code.Yes = pos 1
number_of code.Before = pos 0
number_of code.Same = pos 1
number_of code.After = pos 2
number_of code.Tag = negsuc 0
number_of code.InvalidRange = negsuc 1
number_of code.InvalidVersion = negsuc 2
number_of code.NotUtf8 = negsuc 3
number_of code.NoGrammar = negsuc 4
number_of code.NoMemory = negsuc 5
number_of code.NoValue = negsuc 6
number_of code.NoStep = negsuc 7
number_of (code.Kind (Some t)) = kind_number t
number_of (code.Kind None) = pos 8

abbrev pub yes : ℤ
yes = number_of code.Yes

abbrev pub no_memory : ℤ
no_memory = number_of code.NoMemory

-- ---- the codes of faults

-- the code of an invalid argument
abbrev pub kind_code : Kind → Code
kind_code kind.Range = code.InvalidRange
kind_code kind.Version = code.InvalidVersion
kind_code kind.Package = code.InvalidRange
kind_code kind.Reference = code.InvalidRange
kind_code kind.Step = code.NoStep

-- the code of a fault
abbrev pub fault_code : CallFault → Code
fault_code (Unanswered (Invalid k place failure)) = kind_code k
fault_code (Unanswered OutOfMemory) = code.NoMemory
fault_code NoGrammar = code.NoGrammar
fault_code NotUtf8 = code.NotUtf8
fault_code NoValue = code.NoValue

-- ---- the codes of values

-- the code of a yes or no
abbrev pub bool_code : Bool → Code
bool_code false = code.No
bool_code true = code.Yes

-- the code of a match
abbrev pub match_code : Answer Bool → Code
match_code (Value matches) = bool_code matches
match_code (Tag tag) = code.Tag

-- the code of an order
abbrev pub order_code : Ordering → Code
order_code Less = code.Before
order_code Equal = code.Same
order_code Greater = code.After

-- one code if there is a lowest version, another if there is none
abbrev pub lowest_code : Code → Code → Answer (Option Version) → Code
lowest_code found nothing (Value (Some v)) = found
lowest_code found nothing (Value None) = nothing
lowest_code found nothing (Tag tag) = code.Tag

-- the text of a lowest version
abbrev pub lowest_text : Answer (Option Version) → List ℕ
lowest_text (Value (Some v)) = version_text v
lowest_text (Value None) = []
lowest_text (Tag tag) = []

-- the code of a text or a tag
abbrev pub text_code : Answer (List ℕ) → Code
text_code (Value text) = code.Yes
text_code (Tag tag) = code.Tag

-- a tag has no text
abbrev pub text_of : Answer (List ℕ) → List ℕ
text_of (Value text) = text
text_of (Tag tag) = []

-- the code of a best match
abbrev pub best_code : Answer (Option Best) → Code
best_code (Value (Some best)) = code.Yes
best_code (Value None) = code.No
best_code (Tag tag) = code.Tag

-- the place of a best match
abbrev pub best_place : Answer (Option Best) → ℕ → ℕ
best_place (Value (Some best)) old = best.place
best_place (Value None) old = old
best_place (Tag tag) old = old

-- a place that is found, or none
abbrev pub place_code : Option ℕ → Code
place_code (Some place) = code.Yes
place_code None = code.No

-- the place, or the old one
abbrev pub place_or : Option ℕ → ℕ → ℕ
place_or (Some place) old = place
place_or None old = old

-- of a line: whether its version matches, or that it is invalid
abbrev pub line_code : Option Bool → Code
line_code (Some matches) = bool_code matches
line_code None = code.InvalidVersion

-- the code of a filter
abbrev pub filter_code : Answer (List (Option Bool)) → Code
filter_code (Value answers) = code.Yes
filter_code (Tag tag) = code.Tag

-- the numbers of a filter
abbrev pub filter_numbers : Answer (List (Option Bool)) → List ℤ
filter_numbers (Value answers) = map (λ answer. number_of (line_code answer)) answers
filter_numbers (Tag tag) = []

-- the three numbers of a version, and whether it has neither a pre-release nor a build
abbrev pub three_numbers : Numbers → List ℕ
three_numbers numbers = numbers.major ∷ numbers.minor ∷ numbers.patch ∷ []

-- whether a version has neither a pre-release nor a build
abbrev pub unqualified_code : Numbers → Code
unqualified_code numbers = bool_code numbers.is_unqualified

-- ---- codes

-- the number of an outcome's code
abbrev pub code_of : {X : Type 0} → (X → Code) → Result X CallFault → ℤ
code_of coded (Ok x) = number_of (coded x)
code_of coded (Err fault) = number_of (fault_code fault)

-- the code is that of the question's outcome, which has no other code, or memory ran out
pub record IsCode {X : Type 0} (Asked : Result X CallFault → Type 0) (coded : X → Code) (code : ℤ) : Type 0 where
  pub is : (code ≡ no_memory) ⊎ ((outcome : Result X CallFault) × Asked outcome × (code ≡ code_of coded outcome))
  pub only : (outcome : Result X CallFault) → Asked outcome → (code ≡ no_memory) ⊎ (code ≡ code_of coded outcome)

-- ---- texts and lists

-- items at the start of the buffer, the rest of which is unchanged; if they don't fit, the buffer is unchanged
abbrev pub placed : {I : Type 0} → List I → List I → List I
placed items old = if nat_le (length items) (length old) then items ++ drop (length items) old else old

-- the items are placed, and their number is stored
pub record IsPlaced {I : Type 0} (items old new : List I) (needed : ℕ) : Type 0 where
  pub new_is : new ≡ placed items old
  pub needed_is : needed ≡ length items

-- the text of a value; for a problem, its message
abbrev pub or_message : {X : Type 0} → (X → List ℕ) → Result X CallFault → List ℕ
or_message shown (Ok x) = shown x
or_message shown (Err fault) = call_message fault

-- the items of a value; for a problem, none
abbrev pub or_nothing : {X I : Type 0} → (X → List I) → Result X CallFault → List I
or_nothing shown (Ok x) = shown x
or_nothing shown (Err fault) = []

-- the code and the items report the outcome, or that memory ran out
abbrev pub Reports : {X I : Type 0} → (X → Code) → (Result X CallFault → List I) → Result X CallFault → ℤ → List I → Type 0
Reports coded shown outcome code items = (code ≡ no_memory) ⊎ ((code ≡ code_of coded outcome) × (items ≡ shown outcome))

-- items are placed that report the outcome, together with the code
pub record IsReported {X I : Type 0} (coded : X → Code) (shown : Result X CallFault → List I) (outcome : Result X CallFault)
    (old new : List I) (needed : ℕ) (code : ℤ) : Type 0 where
  pub items : List I
  pub placed_is : IsPlaced items old new needed
  pub reports : Reports coded shown outcome code items

-- items are placed that report the question's outcome, together with the code, and each of its outcomes is so reported
pub record IsReply {X I : Type 0} (Asked : Result X CallFault → Type 0) (coded : X → Code) (shown : Result X CallFault → List I)
    (old new : List I) (needed : ℕ) (code : ℤ) : Type 0 where
  pub items : List I
  pub placed_is : IsPlaced items old new needed
  pub is : (code ≡ no_memory)
      ⊎ ((outcome : Result X CallFault) × Asked outcome × Reports coded shown outcome code items)
  pub only : (outcome : Result X CallFault) → Asked outcome → Reports coded shown outcome code items

-- for any code but 1 nothing is written, and the length is 0
abbrev pub IsUntouched : {I : Type 0} → List I → List I → ℕ → ℤ → Type 0
IsUntouched old new needed code = (code ≡ yes → ⊥) → (new ≡ old) × (needed ≡ 0)

-- for a code that is neither 0 nor 1 nothing is written, and the length is 0
abbrev pub IsUntouchedWithoutValue : {I : Type 0} → List I → List I → ℕ → ℤ → Type 0
IsUntouchedWithoutValue old new needed returned = (returned ≡ number_of code.No → ⊥) → IsUntouched old new needed returned

-- the outcome that is a value
abbrev pub as_value : {X : Type 0} → X → Result X CallFault
as_value x = Ok x

-- no text
abbrev pub no_text : {X : Type 0} → X → List ℕ
no_text x = []

-- a text or a list comes with code 1
abbrev pub always_yes : {X : Type 0} → X → Code
always_yes x = code.Yes

-- ---- places

-- the place of a value, or of the argument that is invalid; without one, the place is unchanged
abbrev pub place_after : {X : Type 0} → (X → ℕ → ℕ) → Result X CallFault → ℕ → ℕ
place_after given (Ok x) old = given x old
place_after given (Err fault) old = fault_place fault old

-- a value that is a place
abbrev pub as_place : ℕ → ℕ → ℕ
as_place place old = place

-- a value has no place
abbrev pub no_place : {X : Type 0} → X → ℕ → ℕ
no_place x old = old

-- the place is that of the question's outcome, which has no other, or memory ran out and it is unchanged
pub record IsPlaceReply {X : Type 0} (Asked : Result X CallFault → Type 0) (given : X → ℕ → ℕ) (old new : ℕ) (code : ℤ) :
    Type 0 where
  pub is : ((code ≡ no_memory) × (new ≡ old))
      ⊎ ((outcome : Result X CallFault) × Asked outcome × (new ≡ place_after given outcome old))
  pub only : (outcome : Result X CallFault) → Asked outcome
      → ((code ≡ no_memory) × (new ≡ old)) ⊎ (new ≡ place_after given outcome old)
