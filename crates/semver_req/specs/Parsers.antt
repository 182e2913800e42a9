-- What a parser returns for a text, by the outcome of the text in its grammar.
use Rattle.std.specs.Prelude.{◌≡◌, ◌⊎◌, ℕ, List, Option, None, Result, Ok, IfErr, IfOk, IsErr, IsUtf8, MatchResult}
use Rattle.std.specs.List.{AllByRecursion}
use Rattle.std.specs.Str.{trim_start}
use Rattle.semver_base.specs.Comparators.{Comparator}
use Rattle.semver_base.specs.Meaning.{tree_means_with}
use Rattle.semver_base.specs.declared.range.PreRelease.{PreRelease}
use Rattle.semver_base.specs.declared.version.Version.{Version}
use Rattle.semver_req.specs.RetainedSet.{IsReadSet, retained}
use Rattle.semver_req.specs.Outcome.{IsCutOutcome, IsOutcome, Outcome, Ranges, Rejected, Tag, tree_ranges, worked_on}
use Rattle.semver_req.specs.Requirement.{Requirement, inner_means_with}
use Rattle.semver_req.specs.declared.common.values.Flavour.{Flavour}
use Rattle.semver_req.specs.declared.common.values.Flavour.TheVariants.{Npm, Normal, Specifier}
use Rattle.semver_req.specs.declared.range_set_or_tag.RangeSetOrTag.{RangeSetOrTag}
use Rattle.semver_req.specs.declared.range_set_or_tag.RangeSetOrTag.TheVariants as inner

-- a failure's message and snippet; None is out of memory
abbrev pub Failure : Type 0
Failure = Option (List ℕ × Option (List ℕ))

-- what a text with this outcome parses to: the kept set of its tree, or its tag
abbrev pub IsRead : Flavour → Outcome → RangeSetOrTag → Type 0
IsRead f (Ranges tree) answer = answer ≡ inner.RangeSet (record { 0 = retained f tree })
IsRead f (Tag text) answer = answer ≡ inner.Tag text
IsRead f Rejected answer = ⊥

-- some outcome of the text parses to this
pub record IsReading (f : Flavour) (text : List ℕ) (answer : RangeSetOrTag) : Type 0 where
  pub outcome : Outcome
  pub is_outcome : IsOutcome f text outcome
  pub is_read : IsRead f outcome answer

-- some outcome of the text parses to this, where npm's parser has trimmed it
pub record IsCutReading (f : Flavour) (text : List ℕ) (answer : RangeSetOrTag) : Type 0 where
  pub outcome : Outcome
  pub is_outcome : IsCutOutcome f text outcome
  pub is_read : IsRead f outcome answer

-- the result for a text with this outcome, or out of memory; source is the failure in the error
abbrev pub IsResultOf : {E : Type 0} → (E → Failure) → Flavour → Outcome → Result Requirement E → Type 0
IsResultOf source f (Ranges tree) result =
    MatchResult result (λ req. IsRead f (Ranges tree) req.inner) (λ e. source e ≡ None)
IsResultOf source f (Tag text) result = MatchResult result (λ req. IsRead f (Tag text) req.inner) (λ e. source e ≡ None)
IsResultOf source f Rejected result = IsErr result

-- for every tree of the text in the grammar, the result matches what the tree matches, with or without npm's rule about
-- pre-releases
abbrev pub MeansTrees : Flavour → List ℕ → RangeSetOrTag → Type 0
MeansTrees f text answer = (tree : List (List Comparator)) → IsOutcome f text (Ranges tree)
    → (flag : PreRelease) (v : Version) → inner_means_with flag answer v ≡ tree_means_with flag (tree_ranges tree) v

-- a result that isn't a tag is what is kept of a tree of the text in the grammar
abbrev pub HasTree : Flavour → List ℕ → RangeSetOrTag → Type 0
HasTree f text (inner.RangeSet set) =
    (tree : List (List Comparator)) × IsOutcome f text (Ranges tree) × (set.0 ≡ retained f tree)
HasTree f text (inner.Tag tag) = Unit {0}

-- ranges in the result are what some parser keeps
abbrev pub IsReadOrTag : RangeSetOrTag → Type 0
IsReadOrTag (inner.RangeSet set) = IsReadSet set.0
IsReadOrTag (inner.Tag tag) = Unit {0}

abbrev pub AreReadOrTags : List Requirement → Type 0
AreReadOrTags requirements = AllByRecursion (λ (req : Requirement). IsReadOrTag req.inner) requirements

-- only the normalized parser makes a tag of a text with leading whitespace, which it strips
abbrev pub StartsFit : Flavour → List ℕ → Type 0
StartsFit Npm text = Unit {0}
StartsFit Normal text = trim_start text ≡ text
StartsFit Specifier text = Unit {0}

-- the normalized parser returns the same tag for a tag
abbrev pub TagReadsBack : Flavour → List ℕ → RangeSetOrTag → Type 0
TagReadsBack f text (inner.RangeSet set) = Unit {0}
TagReadsBack f text (inner.Tag tag) = StartsFit f text → IsOutcome Normal tag (Tag tag)

-- the requirement means some outcome of the text, and keeps the text that was parsed
pub record IsReadFrom (f : Flavour) (text : List ℕ) (req : Requirement) : Type 0 where
  pub reading : IsReading f text req.inner
  pub raw_text : req.raw_text ≡ worked_on f text

-- what the parser of a flavour returns for a text
pub record IsParserAnswer {E : Type 0} (source : E → Failure) (f : Flavour) (text : List ℕ)
    (result : Result Requirement E) : Type 0 where
  -- the result means some outcome of the text
  pub outcome : IfOk result (λ req. IsReading f text req.inner)
  -- it fails only if that is the outcome, or out of memory
  pub rejected : IfErr result (λ e. (source e ≡ None) ⊎ IsOutcome f text Rejected)
  -- every outcome of the text is returned, or out of memory
  pub answer : (o : Outcome) → IsOutcome f text o → IsResultOf source f o result
  -- a version matches exactly if it matches the text's comparators, with pre-releases restricted or admitted
  pub means : IfOk result (λ req. MeansTrees f text req.inner)
  -- ranges are kept of a tree of the text
  pub tree : IfOk result (λ req. HasTree f text req.inner)
  pub read_set : IfOk result (λ req. IsReadOrTag req.inner)
  -- a tag parses back
  pub tag : IfOk result (λ req. TagReadsBack f text req.inner)
  -- the requirement keeps the text that was parsed
  pub raw_text : IfOk result (λ req. req.raw_text ≡ worked_on f text)

-- all that is said of a parser's result holds of what a text parses to
abbrev pub ReadRequirementsAreAnswers : Type 0
ReadRequirementsAreAnswers = (f : Flavour) (text : List ℕ) (req : Requirement) → IsUtf8 text → IsReadFrom f text req
    → IsParserAnswer (λ (failure : Failure). failure) f text (Ok req)
