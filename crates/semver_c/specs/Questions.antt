-- The question of each call: the grammar is looked up first, then the texts are checked, then the question about texts is
-- asked.
use Rattle.std.specs.Prelude.{◌≡◌, ◌==◌, ◌&&◌, ℕ, List, [], ◌∷◌, is_some, length, Bool, Option, Some, Result, Ok}
use Rattle.std.specs.Str.Lines.{lines}
use Rattle.semver_base.specs.declared.version.Version.{Version}
use Rattle.semver_req.specs.Requirement.{Requirement, tag_of}
use Rattle.semver_req.specs.declared.common.values.Flavour.{Flavour}
use Rattle.deno_semver.specs.ExportName.{export_name}
use Rattle.node_semver.specs.Coerce.{IsCoerced}
use Rattle.node_semver.specs.declared.coerce.Direction.{Direction}
use Rattle.node_semver.specs.declared.coerce.Parts.{Parts}
use Rattle.node_semver.specs.declared.outside.Side.{Side}
use Rattle.semver_req.specs.Viable.{IsErrorPlace, IsVersionText}
use Rattle.answers.specs.Asking.{Fault, Given, Is}
use Rattle.answers.specs.Errors.{IsErrorsText}
use Rattle.answers.specs.ExplainedJson.{Explains}
use Rattle.answers.specs.Filtering.{Filter, VersionLines}
use Rattle.package_answers.specs.Packages.{IsPackageErrorsText}
use Rattle.answers.specs.Questions.{BestMatch, Common, Equivalent, LiesOutside, Matches, Outside, match_of}
use Rattle.answers.specs.Reading.{IsRangeAt, IsVersionAt}
use Rattle.package_answers.specs.References.{IsReferenceErrorsText}
use Rattle.answers.specs.Simplifying.{Simplifies}
use Rattle.answers.specs.Sorting.{Sorts}
use Rattle.answers.specs.Steps.{Increments}
use Rattle.answers.specs.declared.asking.Answer.{Answer}
use Rattle.answers.specs.declared.asking.Answer.TheVariants.{Value}
use Rattle.answers.specs.declared.questions.Best.{Best}
use Rattle.answers.specs.declared.questions.End.{End}
use Rattle.answers.specs.declared.sorting.Order.TheVariants.{Ascending}
use Rattle.semver_c.specs.Arguments.{CallFault, Called, IsNumbered, IsUtf8Text, bases, directions, parts_by, pre_release_by, release_types}
use Rattle.semver_c.specs.Codes.{match_code}
use Rattle.semver_c.specs.Given.{IsWithText, IsWithTexts}
use Rattle.semver_c.specs.declared.codes.Code.{Code}
use Rattle.semver_c.specs.declared.questions.Numbers.{Numbers}

-- ---- arguments before the question

-- a grammar and a text
abbrev pub ByOne : {Y : Type 0} → ℕ → List ℕ → (Flavour → List ℕ → Result Y Fault → Type 0) → Result Y CallFault → Type 0
ByOne number one Asked = Given (IsWithText number one) (λ given. Called (Asked given.0 given.1))

-- a grammar and two texts
abbrev pub ByTwo : {Y : Type 0} → ℕ → List ℕ → List ℕ → (Flavour → List ℕ → List ℕ → Result Y Fault → Type 0) → Result Y CallFault → Type 0
ByTwo number one other Asked = Given (IsWithTexts number one other) (λ given. Called (Asked given.0 given.1.0 given.1.1))

-- a text
abbrev pub OfText : {Y : Type 0} → List ℕ → (List ℕ → Result Y Fault → Type 0) → Result Y CallFault → Type 0
OfText one Asked = Given (IsUtf8Text one) (λ text. Called (Asked text))

-- two texts
abbrev pub OfTexts : {Y : Type 0} → List ℕ → List ℕ → (List ℕ → List ℕ → Result Y Fault → Type 0) → Result Y CallFault → Type 0
OfTexts one other Asked = Given (IsUtf8Text one) (λ text. Given (IsUtf8Text other) (λ more. Called (Asked text more)))

-- ---- the calls

-- `semver_increment`
abbrev pub IncrementBy : ℕ → List ℕ → List ℕ → ℕ → Result (List ℕ) CallFault → Type 0
IncrementBy kind version identifiers number = Given (IsNumbered release_types kind)
    (λ t. Given (IsNumbered bases number) (λ b. OfTexts version identifiers (Increments t b)))

-- the version that a text holds, if it holds one
abbrev pub Holds : Direction → Parts → List ℕ → Result (Answer (Option Version)) CallFault → Type 0
Holds d kept text outcome = (found : Option Version) × IsCoerced d kept text found × (outcome ≡ Ok (Value found))

-- `semver_coerce`
abbrev pub CoercesTo : ℕ → List ℕ → ℕ → Result (Answer (Option Version)) CallFault → Type 0
CoercesTo number bytes kept = Given (IsNumbered directions number) (λ d. Given (IsUtf8Text bytes) (Holds d (parts_by kept)))

-- `semver_fits`
abbrev pub Fits : ℕ → ℕ → List ℕ → List ℕ → Result (Answer Bool) CallFault → Type 0
Fits number g range version = ByTwo g range version (λ f r v. Matches (pre_release_by number) f r v)

-- `semver_above` and `semver_below`
abbrev pub Lies : Side → ℕ → ℕ → List ℕ → List ℕ → Result (Answer Bool) CallFault → Type 0
Lies side number g range version = ByTwo g range version (λ f r v. LiesOutside side (pre_release_by number) f r v)

-- `semver_filter`
abbrev pub Filters : ℕ → ℕ → List ℕ → List ℕ → Result (Answer (List (Option Bool))) CallFault → Type 0
Filters number g range versions = ByTwo g range versions (λ f r v. Filter (pre_release_by number) f r (lines v))

-- `semver_best` and `semver_lowest`
abbrev pub BestLine : End → ℕ → ℕ → List ℕ → List ℕ → Result (Answer (Option Best)) CallFault → Type 0
BestLine end number g range versions = ByTwo g range versions (λ f r v. BestMatch end (pre_release_by number) f r (lines v))

-- `semver_simplify`
abbrev pub SimplifiesBy : ℕ → ℕ → List ℕ → List ℕ → Result (Answer (List ℕ)) CallFault → Type 0
SimplifiesBy number g range versions = ByTwo g range versions (λ f r v. Simplifies (pre_release_by number) f r (lines v))

-- `semver_equivalent`
abbrev pub EquivalentBy : ℕ → ℕ → List ℕ → List ℕ → Result (Answer Bool) CallFault → Type 0
EquivalentBy number g one other = ByTwo g one other (λ f r s. Equivalent (pre_release_by number) f r s)

-- `semver_min_version`
abbrev pub LowestBy : ℕ → ℕ → List ℕ → Result (Answer (Option Version)) CallFault → Type 0
LowestBy number g range = ByOne g range (λ f r. Common (pre_release_by number) f (r ∷ []))

-- `semver_common`
abbrev pub CommonBy : ℕ → ℕ → List ℕ → List ℕ → Result (Answer (Option Version)) CallFault → Type 0
CommonBy number g one other = ByTwo g one other (λ f r s. Common (pre_release_by number) f (r ∷ s ∷ []))

-- of all the ranges, one per line
abbrev pub CommonOfAll : ℕ → ℕ → List ℕ → Result (Answer (Option Version)) CallFault → Type 0
CommonOfAll number g ranges = ByOne g ranges (λ f text. Common (pre_release_by number) f (lines text))

-- `semver_within`
abbrev pub OutsideBy : ℕ → ℕ → List ℕ → List ℕ → Result (Answer (Option Version)) CallFault → Type 0
OutsideBy number g one other = ByTwo g one other (λ f r s. Outside (pre_release_by number) f r s)

-- whether a range is a tag
abbrev pub TagBy : ℕ → List ℕ → Result Bool CallFault → Type 0
TagBy g range = ByOne g range (λ f text. Given (IsRangeAt f 0 text) (λ req. Is (is_some (tag_of req.inner))))

-- `semver_sort`
abbrev pub SortsOf : List ℕ → Result (List ℕ) CallFault → Type 0
SortsOf versions = OfText versions (λ text. Sorts Ascending (lines text))

-- what a range means
abbrev pub ExplainsBy : ℕ → ℕ → List ℕ → Result (Answer (List ℕ)) CallFault → Type 0
ExplainsBy number g range = ByOne g range (λ f text. Explains (pre_release_by number) f text)

-- what is wrong with a range, and where
abbrev pub ErrorsBy : ℕ → List ℕ → Result (List ℕ) CallFault → Type 0
ErrorsBy g range = ByOne g range (λ f text outcome. (json : List ℕ) × IsErrorsText f text json × (outcome ≡ Ok json))

-- what is wrong with a package, and where
abbrev pub PackageErrorsBy : ℕ → List ℕ → Result (List ℕ) CallFault → Type 0
PackageErrorsBy g text = ByOne g text (λ f text outcome. (json : List ℕ) × IsPackageErrorsText f text json × (outcome ≡ Ok json))

-- of a reference
abbrev pub ReferenceErrorsOf : List ℕ → Result (List ℕ) CallFault → Type 0
ReferenceErrorsOf text = OfText text (λ text outcome. (json : List ℕ) × IsReferenceErrorsText text json × (outcome ≡ Ok json))

-- where a text stops being a version
abbrev pub VersionErrorOf : List ℕ → Result ℕ CallFault → Type 0
VersionErrorOf version = OfText version (λ text outcome. (place : ℕ) × IsErrorPlace IsVersionText text place × (outcome ≡ Ok place))

-- the name of the export that a path means
abbrev pub ExportNameOf : List ℕ → Result (List ℕ) CallFault → Type 0
ExportNameOf path = OfText path (λ text. Is (export_name (Some text)))

-- ---- values that are held across calls

-- `semver_req_read`
abbrev pub RangeBy : ℕ → List ℕ → Result Requirement CallFault → Type 0
RangeBy g text = ByOne g text (λ f t. IsRangeAt f 0 t)

-- the versions of the lines; none for a line that isn't a version
abbrev pub VersionListOf : List ℕ → Result (List (Option Version)) CallFault → Type 0
VersionListOf versions = OfText versions (λ text. VersionLines (lines text))

-- the numbers of a version
abbrev pub version_numbers : Version → Numbers
version_numbers v =
    record { major = v.major; minor = v.minor; patch = v.patch; is_unqualified = (length v.pre == 0) && (length v.build == 0) }

-- those of a text's version
abbrev pub NumbersOf : List ℕ → Result Numbers CallFault → Type 0
NumbersOf version = OfText version (λ text. Given (IsVersionAt 0 text) (λ v. Is (version_numbers v)))

-- the code of the match of a text's version
abbrev pub MatchesHeld : ℕ → Requirement → List ℕ → Result Code CallFault → Type 0
MatchesHeld number req version =
    OfText version (λ text. Given (IsVersionAt 0 text) (λ v. Is (match_code (match_of (pre_release_by number) req.inner v))))
