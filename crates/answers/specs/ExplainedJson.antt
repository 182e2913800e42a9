-- Explanations as JSON.
use Rattle.std.specs.Prelude.{◌++◌, ◌==◌, ◌&&◌, ℕ, Bool, not, List, [], ◌∷◌, Option, Some, None, Result, Ok, Err, codes, length, map, string_bytes, if◌then◌else◌, decimal}
use Rattle.std.specs.Str.{trim}
use Rattle.serde_json.specs.Data.{Data, array, member, no_members, null, object, string}
use Rattle.serde_json.specs.View.{items_of}
use Rattle.serde_json.specs.Written.{compact_text}
use Rattle.semver_base.specs.Characters.{dot}
use Rattle.semver_base.specs.VersionText.{version_text}
use Rattle.semver_base.specs.declared.range.PreRelease.{PreRelease}
use Rattle.semver_base.specs.declared.range.PreRelease.TheVariants as pre_release
use Rattle.semver_base.specs.declared.range.RangeBound.{RangeBound}
use Rattle.semver_base.specs.declared.range.RangeBound.TheVariants as bound
use Rattle.semver_base.specs.declared.range.VersionRange.{VersionRange}
use Rattle.semver_base.specs.declared.version.Version.{Version}
use Rattle.semver_req.specs.declared.common.values.Flavour.{Flavour}
use Rattle.answers.specs.Asking.{Fault}
use Rattle.answers.specs.Errors.{error_json}
use Rattle.answers.specs.Explained.{IsExplained, shown}
use Rattle.answers.specs.Parts.{bound_json}
use Rattle.answers.specs.Reading.{IsRangeAt}
use Rattle.answers.specs.declared.asking.Answer.{Answer}
use Rattle.answers.specs.declared.asking.Answer.TheVariants.{Value, Tag}
use Rattle.answers.specs.declared.explained.Explanation.{Explanation}
use Rattle.answers.specs.declared.explained.Explanation.TheVariants as explanation
use Rattle.answers.specs.declared.explained.Matches.{Matches}
use Rattle.answers.specs.declared.explained.Meaning.{Meaning}
use Rattle.answers.specs.declared.explained.Meaning.TheVariants as meaning
use Rattle.answers.specs.declared.explained.Piece.{Piece}

-- ---- the pre-releases that a range matches by npm's rule

-- the version of a bound that is a pre-release, if pre-releases of its numbers match
abbrev pub pre_release_of : RangeBound → Bool → Option Version
pre_release_of bound.Unbounded matches = None
pre_release_of (bound.Version b) matches = if matches && not (length b.version.pre == 0) then Some b.version else None

-- two versions have the same three numbers
abbrev pub have_same_numbers : Version → Version → Bool
have_same_numbers v w = (v.major == w.major) && (v.minor == w.minor) && (v.patch == w.patch)

-- a value, or none, as a list
abbrev pub option_list : {X : Type 0} → Option X → List X
option_list (Some x) = x ∷ []
option_list None = []

-- both, but not the same numbers twice
abbrev pub distinct : Option Version → Option Version → List Version
distinct (Some v) (Some w) = if have_same_numbers v w then v ∷ [] else v ∷ w ∷ []
distinct (Some v) None = v ∷ []
distinct None other = option_list other

-- versions of whose numbers pre-releases match
abbrev pub pre_releases : Matches → List Version
pre_releases m = distinct (pre_release_of m.range.start m.pre_of_start) (pre_release_of m.range.end m.pre_of_end)

-- ---- alternatives

-- the three numbers of a version
abbrev pub numbers_text : Version → List ℕ
numbers_text v = decimal v.major ++ (dot ∷ (decimal v.minor ++ (dot ∷ decimal v.patch)))

-- the numbers of which pre-releases match, or that all do
abbrev pub pre_releases_json : PreRelease → Matches → Data
pre_releases_json pre_release.Restricted m = array (items_of (map string (map numbers_text (pre_releases m))))
pre_releases_json pre_release.Admitted m = string (codes "all")

-- the lowest version as displayed, or null
abbrev pub lowest_json : Option Version → Data
lowest_json (Some v) = string (version_text v)
lowest_json None = null

-- a comparator: the bounds of its range, and its text without the whitespace around it
abbrev pub comparator_json : List ℕ × VersionRange → Data
comparator_json c =
    object (member (codes "end") (bound_json c.1.end)
    (member (codes "start") (bound_json c.1.start)
    (member (codes "text") (string (trim c.0)) no_members)))

abbrev pub comparators_json : List (List ℕ × VersionRange) → Data
comparators_json comparators = array (items_of (map comparator_json comparators))

-- a range: its comparators, its bounds, the lowest version that matches, which pre-releases match, and its text
abbrev pub matches_json : PreRelease → List ℕ → List (List ℕ × VersionRange) → Matches → Data
matches_json flag text comparators m =
    object (member (codes "comparators") (comparators_json comparators)
    (member (codes "end") (bound_json m.range.end)
    (member (codes "lowest") (lowest_json m.lowest)
    (member (codes "pre-releases") (pre_releases_json flag m)
    (member (codes "start") (bound_json m.range.start)
    (member (codes "text") (string text) no_members))))))

-- an alternative that is left out: its error and its text
abbrev pub left_out_json : List ℕ → Data → Data
left_out_json text error = object (member (codes "error") error (member (codes "text") (string text) no_members))

abbrev pub meaning_json : PreRelease → List ℕ → List (List ℕ × VersionRange) → Meaning → Data
meaning_json flag text comparators (meaning.Range m) = matches_json flag text comparators m
meaning_json flag text comparators (meaning.LeftOut error) = left_out_json text (error_json error)

-- an alternative, without the whitespace around it
abbrev pub alternative_json : PreRelease → Piece → Data
alternative_json flag piece = meaning_json flag (trim (string_bytes piece.text)) (map shown piece.comparators.items) piece.meaning

-- ---- texts

-- the alternatives, those that are left out with their errors, and the canonical form
abbrev pub ranges_explained : PreRelease → List Piece → List ℕ → Data
ranges_explained flag pieces normal =
    object (member (codes "alternatives") (array (items_of (map (alternative_json flag) pieces)))
    (member (codes "normal") (string normal) no_members))

-- the tag, or the JSON of the alternatives
abbrev pub explained_as : PreRelease → Explanation → Answer (List ℕ)
explained_as flag (explanation.Tag tag) = Tag tag
explained_as flag (explanation.Ranges pieces normal) =
    Value (compact_text (ranges_explained flag pieces.items (string_bytes normal)))

-- what a range means, or that its text is invalid
pub data Explains (flag : PreRelease) (f : Flavour) (text : List ℕ) : Result (Answer (List ℕ)) Fault → Type 0 where
  explained : (e : Explanation) → IsExplained f flag text e → Explains flag f text (Ok (explained_as flag e))
  invalid_range : {fault : Fault} → IsRangeAt f 0 text (Err fault) → Explains flag f text (Err fault)
