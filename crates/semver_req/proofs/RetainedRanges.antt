-- What is true of every range that a parser keeps.
use Rattle.std.proofs.Common.{◌≡◌, ◌&&◌, ℕ, List, [], ◌∷◌, Bool, true, false, not, refl, ap, if◌then◌else◌}
use Rattle.std.specs.List.{list_all}
use Rattle.std.proofs.lemmas.Bool.{and_from}
use Rattle.semver_base.specs.Comparators.{Comparator}
use Rattle.semver_base.specs.Overlap.{ends_at_zero}
use Rattle.semver_base.specs.declared.range.VersionRange.{VersionRange}
use Rattle.semver_req.specs.RetainedSet.{retained, retained_range}
use Rattle.semver_req.specs.Outcome.{IsOutcome, IsSpecifierOutcome, IsTagOr, Outcome, Ranges, Rejected, Tag, left_over, no_fit, no_front, no_tag, tag, whole}
use Rattle.semver_req.specs.declared.common.values.Flavour.{Flavour}
use Rattle.semver_req.specs.declared.common.values.Flavour.TheVariants.{Npm, Normal, Specifier}
use Rattle.semver_req.proofs.Starts.{has_start, retained_range_starts}
use Rattle.semver_req.proofs.SpecifierRetained.{specifier_ends}

-- every range that a parser keeps has a start or no bounds, and doesn't end below 0.0.0
abbrev pub is_retained : VersionRange → Bool
is_retained range = has_start range && not (ends_at_zero range.end)

rest_is_retained : (tree : List (List Comparator)) → list_all is_retained (retained Normal tree) ≡ true
rest_is_retained [] = refl
rest_is_retained (comparators ∷ tree) = go (ends_at_zero (retained_range comparators).end) refl (rest_is_retained tree)
  where
    go : (b : Bool) → ends_at_zero (retained_range comparators).end ≡ b → list_all is_retained (retained Normal tree) ≡ true
        → list_all is_retained (if not b then retained_range comparators ∷ retained Normal tree else retained Normal tree) ≡ true
    go true e rest = rest
    go false e rest = and_from _ _ (and_from _ _ (retained_range_starts comparators) (ap not e)) rest

-- ---- the strict parser, which drops no range

-- the ranges that the strict parser keeps of an outcome
abbrev AreRetained : Outcome → Type 0
AreRetained (Ranges tree) = list_all is_retained (retained Specifier tree) ≡ true
AreRetained (Tag text) = Unit {0}
AreRetained Rejected = Unit {0}

tag_or_retained : {text : List ℕ} {o : Outcome} → IsTagOr text o → AreRetained o
tag_or_retained (tag e) = tt
tag_or_retained (no_tag e) = tt

specifier_is_retained : {text : List ℕ} {o : Outcome} → IsSpecifierOutcome text o → AreRetained o
specifier_is_retained (whole {c = c} s fit) = and_from _ _ (and_from _ _ (retained_range_starts (c ∷ [])) (ap not (specifier_ends s.stands))) refl
specifier_is_retained (left_over s fit more) = tt
specifier_is_retained (no_front n t) = tag_or_retained t
specifier_is_retained (no_fit s e t) = tag_or_retained t

-- what a parser keeps
pub outcome_is_retained : (f : Flavour) (text : List ℕ) (tree : List (List Comparator)) → IsOutcome f text (Ranges tree) → list_all is_retained (retained f tree) ≡ true
outcome_is_retained Npm text tree o = rest_is_retained tree
outcome_is_retained Normal text tree o = rest_is_retained tree
outcome_is_retained Specifier text tree o = specifier_is_retained o
