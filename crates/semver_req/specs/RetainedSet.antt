-- The ranges that a parser keeps of the comparators of a text. Source: node-semver's description of ranges, in which the
-- comparators of an alternative are joined by "and", and alternatives by "or".
use Rattle.std.specs.Prelude.{◌≡◌, ℕ, List, [], ◌∷◌, map, not, filter, fold}
use Rattle.semver_base.specs.Clamp.{clamped}
use Rattle.semver_base.specs.Comparators.{Comparator, Hyphen, comparator_range}
use Rattle.semver_base.specs.Meaning.{alternatives, everything, tree_means_with}
use Rattle.semver_base.specs.Overlap.{ends_at_zero}
use Rattle.semver_base.specs.declared.range.PreRelease.{PreRelease}
use Rattle.semver_base.specs.declared.range.VersionRange.{VersionRange}
use Rattle.semver_base.specs.declared.version.Version.{Version}
use Rattle.semver_req.specs.Outcome.{IsOutcome, Ranges, tree_ranges}
use Rattle.semver_req.specs.declared.common.values.Flavour.{Flavour}
use Rattle.semver_req.specs.declared.common.values.Flavour.TheVariants.{Npm, Normal, Specifier}

-- the intersection of the ranges, clamped from left to right, beginning with everything
abbrev pub folded : List VersionRange → VersionRange
folded ranges = fold clamped everything ranges

-- the range of the comparators of an alternative; a hyphen range is left as it is
abbrev pub retained_range : List Comparator → VersionRange
retained_range (Hyphen p q ∷ []) = comparator_range (Hyphen p q)
retained_range comparators = folded (map comparator_range comparators)

-- without the ranges that end below 0.0.0, for which `VersionRange::is_none` is true
abbrev pub without_none : List VersionRange → List VersionRange
without_none ranges = filter (λ range. not (ends_at_zero range.end)) ranges

-- the ranges of the alternatives of a tree; the strict parser drops none
abbrev pub retained : Flavour → List (List Comparator) → List VersionRange
retained Npm tree = without_none (map retained_range tree)
retained Normal tree = without_none (map retained_range tree)
retained Specifier tree = map retained_range tree

-- what some parser keeps of some text
pub record IsReadSet (ranges : List VersionRange) : Type 0 where
  pub flavour : Flavour
  pub text : List ℕ
  pub tree : List (List Comparator)
  pub is_outcome : IsOutcome flavour text (Ranges tree)
  pub is_retained : ranges ≡ retained flavour tree

-- what is kept of a tree matches what the tree matches, with or without npm's rule about pre-releases
abbrev pub RetainedSetsMeanTheirTrees : Type 0
RetainedSetsMeanTheirTrees = (f : Flavour) (tree : List (List Comparator)) (flag : PreRelease) (v : Version)
    → tree_means_with flag (alternatives (retained f tree)) v ≡ tree_means_with flag (tree_ranges tree) v
