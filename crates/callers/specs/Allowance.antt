-- Whether a requirement allows a version, and the result for its text.
use Rattle.std.specs.Prelude.{◌≡◌, ◌⊎◌, ℕ, List, Bool, true, false, None, Result, IfErr, IfOk, IsErr, MatchResult}
use Rattle.callers.specs.declared.requirements.Allowance.{Allowance}
use Rattle.callers.specs.declared.requirements.Allowance.TheVariants as answer
use Rattle.semver_base.specs.Comparators.{Comparator}
use Rattle.semver_base.specs.Meaning.{tree_means}
use Rattle.semver_base.specs.declared.version.Version.{Version}
use Rattle.semver_req.specs.Outcome.{IsOutcome, Outcome, Ranges, Rejected, Tag, tree_ranges}
use Rattle.semver_req.specs.Parsers.{Failure}
use Rattle.semver_req.specs.Requirement.{inner_means}
use Rattle.semver_req.specs.declared.common.values.Flavour.{Flavour}
use Rattle.semver_req.specs.declared.range_set_or_tag.RangeSetOrTag.{RangeSetOrTag}
use Rattle.semver_req.specs.declared.range_set_or_tag.RangeSetOrTag.TheVariants as inner

abbrev pub yes_or_no : Bool → Allowance
yes_or_no true = answer.Yes
yes_or_no false = answer.No

-- a requirement of ranges allows the versions it means; a tag is returned as one
abbrev pub allowance_of : RangeSetOrTag → Version → Allowance
allowance_of (inner.RangeSet set) v = yes_or_no (inner_means (inner.RangeSet set) v)
allowance_of (inner.Tag tag) v = answer.Tag

-- the result for a text with this outcome
abbrev pub IsAllowanceOf : Outcome → Version → Allowance → Type 0
IsAllowanceOf (Ranges tree) v allowance = allowance ≡ yes_or_no (tree_means (tree_ranges tree) v)
IsAllowanceOf (Tag text) v allowance = allowance ≡ answer.Tag
IsAllowanceOf Rejected v allowance = ⊥

-- the result for a text and a version; `source` is the failure in the error
pub record IsAllowance {E : Type 0} (source : E → Failure) (f : Flavour) (text : List ℕ) (v : Version)
    (result : Result Allowance E) : Type 0 where
  -- a result is that of some outcome of the text
  pub reported : IfOk result (λ allowance. (o : Outcome) × IsOutcome f text o × IsAllowanceOf o v allowance)
  -- for every tree of the text it is yes exactly if the tree means the version, or out of memory
  pub ranges : (tree : List (List Comparator)) → IsOutcome f text (Ranges tree)
      → MatchResult result (λ allowance. allowance ≡ yes_or_no (tree_means (tree_ranges tree) v)) (λ e. source e ≡ None)
  -- a tag is returned as one, or out of memory
  pub tag : (name : List ℕ) → IsOutcome f text (Tag name)
      → MatchResult result (λ allowance. allowance ≡ answer.Tag) (λ e. source e ≡ None)
  -- a text is rejected exactly if that is its outcome, out of memory aside
  pub rejected : IsOutcome f text Rejected → IsErr result
  pub rejected_only : IfErr result (λ e. (source e ≡ None) ⊎ IsOutcome f text Rejected)
