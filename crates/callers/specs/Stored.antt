-- What a requirement stored in canonical form parses to.
use Rattle.std.specs.Prelude.{◌≡◌, ◌⊎◌, ℕ, Bool, List, true, None, Result, IfErr, IfOk, IsErr, MatchResult}
use Rattle.std.specs.List.{list_all}
use Rattle.callers.specs.Allowance.{yes_or_no}
use Rattle.callers.specs.declared.requirements.Allowance.{Allowance}
use Rattle.callers.specs.declared.requirements.Allowance.TheVariants as answer
use Rattle.callers.specs.declared.stored.Reread.{Reread}
use Rattle.semver_base.specs.Comparators.{Comparator}
use Rattle.semver_base.specs.Meaning.{alternatives, tree_means, tree_means_with}
use Rattle.semver_base.specs.declared.range.PreRelease.{PreRelease}
use Rattle.semver_base.specs.declared.range.VersionRange.{VersionRange}
use Rattle.semver_base.specs.declared.version.Version.{Version}
use Rattle.semver_req.specs.RetainedSet.{IsReadSet, retained}
use Rattle.semver_req.specs.Outcome.{IsOutcome, Outcome, Ranges, Rejected, Tag, tree_ranges}
use Rattle.semver_req.specs.Parsers.{Failure}
use Rattle.semver_req.specs.Requirement.{Requirement}
use Rattle.semver_req.specs.Rereading.{IsStableSet, is_orderly, keeps_meaning}
use Rattle.semver_req.specs.declared.common.values.Flavour.{Flavour}
use Rattle.semver_req.specs.declared.range_set_or_tag.RangeSetOrTag.{RangeSetOrTag}
use Rattle.semver_req.specs.declared.range_set_or_tag.RangeSetOrTag.TheVariants as inner

-- what holds for ranges that some parser returned; for a tag nothing, since its text may parse to a range
abbrev pub OfRanges : (List VersionRange → Type 0) → RangeSetOrTag → Type 0
OfRanges Says (inner.RangeSet set) = IsReadSet set.0 → Says set.0
OfRanges Says (inner.Tag tag) = Unit {0}

-- what holds for a tag whose text parses to it
abbrev pub OfTag : Flavour → (List ℕ → Type 0) → RangeSetOrTag → Type 0
OfTag f Says (inner.RangeSet set) = Unit {0}
OfTag f Says (inner.Tag tag) = IsOutcome f tag (Tag tag) → Says tag

-- what holds for a text that is a tag
abbrev pub TagOfText : Flavour → List ℕ → (List ℕ → Type 0) → Type 0
TagOfText f text Says = (name : List ℕ) → IsOutcome f text (Tag name) → Says name

-- the value is so, or out of memory
abbrev pub Answers : {T E : Type 0} → (E → Failure) → (T → Type 0) → Result T E → Type 0
Answers source Says result = MatchResult result Says (λ e. source e ≡ None)

-- the result is this tag, or out of memory
abbrev pub IsTagRead : {E : Type 0} → (E → Failure) → Result Requirement E → List ℕ → Type 0
IsTagRead source result tag = Answers source (λ req. req.inner ≡ inner.Tag tag) result

-- what the text of ranges parses to
pub record IsReadAgain (ranges : List VersionRange) (read : RangeSetOrTag) : Type 0 where
  pub again : List VersionRange
  pub is_ranges : read ≡ inner.RangeSet (record { 0 = again })
  pub read_set : IsReadSet again
  -- it means the same if each range keeps its meaning, with npm's rule about pre-releases and without
  pub means : list_all keeps_meaning ranges ≡ true → (flag : PreRelease) (v : Version)
      → tree_means_with flag (alternatives again) v ≡ tree_means_with flag (alternatives ranges) v
  -- it is the same if each range is orderly too
  pub equal : list_all is_orderly ranges ≡ true → list_all keeps_meaning ranges ≡ true → again ≡ ranges
  -- it is stable, and what was stable stays as it is
  pub stable : IsStableSet again
  pub stays : IsStableSet ranges → again ≡ ranges

-- the result is such ranges, or out of memory
abbrev pub IsReread : {E : Type 0} → (E → Failure) → Result Requirement E → List VersionRange → Type 0
IsReread source result ranges = Answers source (λ req. IsReadAgain ranges req.inner) result

-- the result is what such ranges parse to, and what that parses to, which is the same; or out of memory
abbrev pub IsRereadTwice : {E : Type 0} → (E → Failure) → Result Reread E → List VersionRange → Type 0
IsRereadTwice source result ranges =
    Answers source (λ r. IsReadAgain ranges r.once.inner × (r.twice.inner ≡ r.once.inner)) result

-- what is returned for ranges: never that they are a tag; and, if each keeps its meaning, that a version is allowed exactly
-- if they mean it
abbrev pub IsReportedOfRanges : Bool → Bool → Allowance → Type 0
IsReportedOfRanges keep mean allowance = (allowance ≡ answer.Tag → ⊥) × (keep ≡ true → allowance ≡ yes_or_no mean)

abbrev pub AllowsAsBefore : {E : Type 0} → (E → Failure) → Version → Result Allowance E → List VersionRange → Type 0
AllowsAsBefore source v result ranges =
    Answers source (IsReportedOfRanges (list_all keeps_meaning ranges) (tree_means (alternatives ranges) v)) result

-- a tag is returned as one, or out of memory
abbrev pub IsTagReported : {E : Type 0} → (E → Failure) → Result Allowance E → List ℕ → Type 0
IsTagReported source result tag = Answers source (λ allowance. allowance ≡ answer.Tag) result

-- the result for a text whose requirement is stored and parsed again
pub record AllowsAsItsText (f : Flavour) (text : List ℕ) (v : Version)
    (result : Result Allowance Failure) : Type 0 where
  -- a text with a result has an outcome; the clauses below hold for each of its outcomes
  pub reported : IfOk result (λ allowance. (o : Outcome) × IsOutcome f text o)
  -- for every tree of the text, the result for the tree's ranges
  pub ranges : (tree : List (List Comparator)) → IsOutcome f text (Ranges tree)
      → Answers (λ failure. failure)
      (IsReportedOfRanges (list_all keeps_meaning (retained f tree)) (tree_means (tree_ranges tree) v)) result
  pub tag : TagOfText f text (IsTagReported (λ failure. failure) result)
  -- a text is rejected exactly if that is its outcome, out of memory aside
  pub rejected : IsOutcome f text Rejected → IsErr result
  pub rejected_only : IfErr result (λ failure. (failure ≡ None) ⊎ IsOutcome f text Rejected)
