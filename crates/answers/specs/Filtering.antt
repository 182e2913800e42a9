-- Which of several versions match a range.
use Rattle.std.specs.Prelude.{ℕ, List, Bool, false, Option, None, Some, Result, Ok, Err, map}
use Rattle.std.specs.Option.{option_cmp}
use Rattle.std.specs.Ordering.{is_lt}
use Rattle.semver_base.specs.Precedence.{precedence_cmp}
use Rattle.semver_base.specs.declared.range.PreRelease.{PreRelease}
use Rattle.semver_base.specs.declared.version.Version.{Version}
use Rattle.semver_req.specs.Requirement.{inner_means_with, tag_of}
use Rattle.semver_req.specs.declared.common.values.Flavour.{Flavour}
use Rattle.semver_req.specs.declared.range_set_or_tag.RangeSetOrTag.{RangeSetOrTag}
use Rattle.semver_req.specs.declared.range_set_or_tag.RangeSetOrTag.TheVariants as inner
use Rattle.answers.specs.Asking.{Each, Fault, Given, Is, OrElse}
use Rattle.answers.specs.Questions.{UnlessTag}
use Rattle.answers.specs.Reading.{IsRangeAt, IsVersionAt}
use Rattle.answers.specs.declared.asking.Answer.{Answer}
use Rattle.answers.specs.declared.asking.Answer.TheVariants.{Value, Tag}
use Rattle.answers.specs.declared.questions.End.{End}
use Rattle.answers.specs.declared.questions.End.TheVariants.{Highest, Lowest}

-- a list of answers, or the tag
abbrev pub list_answer : {E X : Type 0} → (E → X) → Answer E → Answer X
list_answer items (Value list) = Value (items list)
list_answer items (Tag tag) = Tag tag

-- what is asked of the version that a text parses to; none if the text isn't a version
abbrev pub IsLine : {X : Type 0} → (Version → X) → ℕ → List ℕ → Result (Option X) Fault → Type 0
IsLine value place text = OrElse (IsVersionAt place text) (λ v. Some (value v)) None

-- whether the version that a text parses to passes the test
abbrev pub LineMatch : (Version → Bool) → ℕ → List ℕ → Result (Option Bool) Fault → Type 0
LineMatch test = IsLine test

-- of a parsed range, whether the version of each text matches it
abbrev pub FilterOf : PreRelease → RangeSetOrTag → List (List ℕ) → Result (Answer (List (Option Bool))) Fault → Type 0
FilterOf flag read texts = UnlessTag (tag_of read)
    (Given (Each (LineMatch (inner_means_with flag read)) 0 texts) (λ answers. Is (Value answers)))

-- for each of the texts whether its version matches the range; or the tag
abbrev pub Filter : PreRelease → Flavour → List ℕ → List (List ℕ) → Result (Answer (List (Option Bool))) Fault → Type 0
Filter flag f range texts = Given (IsRangeAt f 0 range) (λ req. FilterOf flag req.inner texts)

-- ---- versions that are parsed once

-- the version that each text parses to; none for one that isn't a version
abbrev pub VersionLines : List (List ℕ) → Result (List (Option Version)) Fault → Type 0
VersionLines texts = Each (IsLine (λ v. v)) 0 texts

-- what is asked of the version of a line, if it has one
abbrev pub line_answer : (Version → Bool) → Option Version → Option Bool
line_answer test (Some v) = Some (test v)
line_answer test None = None

-- for each line whether its version matches; or the tag
abbrev pub list_matches : PreRelease → RangeSetOrTag → List (Option Version) → Answer (List (Option Bool))
list_matches flag (inner.RangeSet set) lines = Value (map (line_answer (inner_means_with flag (inner.RangeSet set))) lines)
list_matches flag (inner.Tag tag) lines = Tag tag

-- the line's version passes the test; a line without one doesn't
abbrev pub line_passes : (Version → Bool) → Option Version → Bool
line_passes test (Some v) = test v
line_passes test None = false

-- at this end of the order, which of two lines has the better version; a line without one passes no test, wherever it stands
abbrev pub better_line : End → Option Version → Option Version → Bool
better_line Highest one other = is_lt (option_cmp precedence_cmp other one)
better_line Lowest one other = is_lt (option_cmp precedence_cmp one other)
