-- The parts of versions and ranges, as JSON.
use Rattle.std.specs.Prelude.{ℕ, Bool, true, false, List, Result, codes, map, decimal}
use Rattle.serde_json.specs.Data.{Data, array, boolean, member, no_members, null, object, string}
use Rattle.serde_json.specs.View.{items_of}
use Rattle.serde_json.specs.Written.{compact_text}
use Rattle.semver_base.specs.VersionText.{version_text}
use Rattle.semver_base.specs.declared.range.RangeBound.{RangeBound}
use Rattle.semver_base.specs.declared.range.RangeBound.TheVariants as bound
use Rattle.semver_base.specs.declared.range.VersionBoundKind.{VersionBoundKind}
use Rattle.semver_base.specs.declared.range.VersionBoundKind.TheVariants as ends
use Rattle.semver_base.specs.declared.range.VersionRange.{VersionRange}
use Rattle.semver_base.specs.declared.version.Version.{Version}
use Rattle.semver_req.specs.declared.common.values.Flavour.{Flavour}
use Rattle.semver_req.specs.declared.range_set_or_tag.RangeSetOrTag.{RangeSetOrTag}
use Rattle.semver_req.specs.declared.range_set_or_tag.RangeSetOrTag.TheVariants as inner
use Rattle.answers.specs.Asking.{Fault, Given, Is}
use Rattle.answers.specs.Reading.{IsRangeAt, IsVersionAt}
use Rattle.answers.specs.declared.asking.Answer.{Answer}
use Rattle.answers.specs.declared.asking.Answer.TheVariants.{Value, Tag}

-- ---- versions

-- texts as an array
abbrev pub texts_json : List (List ℕ) → Data
texts_json texts = array (items_of (map string texts))

-- its numbers as texts, and the parts of its pre-release and of its build
abbrev pub version_json : Version → Data
version_json v =
    object (member (codes "build") (texts_json v.build)
    (member (codes "major") (string (decimal v.major))
    (member (codes "minor") (string (decimal v.minor))
    (member (codes "patch") (string (decimal v.patch))
    (member (codes "pre") (texts_json v.pre) no_members)))))

-- the parts of the version of a text
abbrev pub VersionParts : List ℕ → Result (List ℕ) Fault → Type 0
VersionParts version = Given (IsVersionAt 0 version) (λ v. Is (compact_text (version_json v)))

-- ---- ranges

-- whether the version itself lies within the bound
abbrev pub is_inclusive : VersionBoundKind → Bool
is_inclusive ends.Inclusive = true
is_inclusive ends.Exclusive = false

-- null, if there is no bound
abbrev pub bound_json : RangeBound → Data
bound_json bound.Unbounded = null
bound_json (bound.Version b) =
    object (member (codes "inclusive") (boolean (is_inclusive b.kind))
    (member (codes "version") (string (version_text b.version)) no_members))

-- the bounds of a range
abbrev pub range_json : VersionRange → Data
range_json range =
    object (member (codes "end") (bound_json range.end) (member (codes "start") (bound_json range.start) no_members))

-- those of several ranges
abbrev pub ranges_json : List VersionRange → Data
ranges_json ranges = array (items_of (map range_json ranges))

-- the ranges of a requirement, or the tag
abbrev pub ranges_answer : RangeSetOrTag → Answer (List ℕ)
ranges_answer (inner.RangeSet set) = Value (compact_text (ranges_json set.0))
ranges_answer (inner.Tag tag) = Tag tag

-- the ranges of a text, or the tag
abbrev pub RangeParts : Flavour → List ℕ → Result (Answer (List ℕ)) Fault → Type 0
RangeParts f range = Given (IsRangeAt f 0 range) (λ req. Is (ranges_answer req.inner))
