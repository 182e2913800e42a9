-- The comparators of every outcome fit.
use Rattle.std.proofs.Common.{◌≡◌, ℕ, List, Bool, true, refl, ap, inl, inr}
use Rattle.std.specs.List.{list_all}
use Rattle.std.proofs.lemmas.Bool.{and_from}
use Rattle.semver_base.specs.Comparators.{Comparator}
use Rattle.semver_req.specs.Comparators.{fits}
use Rattle.semver_req.specs.Outcome.{AreGoodOnes, IsCutOutcome, IsGood, IsOutcome, IsSpecifierOutcome, IsTagOr, Outcome, Ranges, Rejected, Tag, bad, good, left_over, no_fit, no_front, no_tag, none_left, normal_many, normal_rejected, npm_many, one_bad, one_good, tag, whole}
use Rattle.semver_req.specs.declared.common.values.Flavour.{Flavour}
use Rattle.semver_req.specs.declared.common.values.Flavour.TheVariants.{Npm, Normal, Specifier}
use Rattle.semver_req.proofs.WritableRanges.{all_trees_fit}

good_fits : (f : Flavour) (b : Bool) (piece : List ℕ) {cs : List Comparator} → IsGood f b piece cs → list_all fits cs ≡ true
good_fits f b piece (inl h) = h.1
good_fits f b piece (inr h) = ap (λ (cs : List Comparator). list_all fits cs) h.2

good_ones_fit : {f : Flavour} {b : Bool} {pieces : List (List ℕ)} {tree : List (List Comparator)} → AreGoodOnes f b pieces tree → all_trees_fit tree ≡ true
good_ones_fit none_left = refl
good_ones_fit (good g more) = and_from _ _ (good_fits _ _ _ g) (good_ones_fit more)
good_ones_fit (bad g more) = good_ones_fit more

abbrev Fits : Outcome → Type 0
Fits (Ranges tree) = all_trees_fit tree ≡ true
Fits (Tag text) = Unit {0}
Fits Rejected = Unit {0}

tag_or_fits : {text : List ℕ} {o : Outcome} → IsTagOr text o → Fits o
tag_or_fits (tag e) = tt
tag_or_fits (no_tag e) = tt

cut_outcome_fits : {f : Flavour} {text : List ℕ} {o : Outcome} → IsCutOutcome f text o → Fits o
cut_outcome_fits (one_good pieces g) = and_from _ _ (good_fits _ _ _ g) refl
cut_outcome_fits (one_bad pieces g t) = tag_or_fits t
cut_outcome_fits (npm_many pieces g) = good_ones_fit g
cut_outcome_fits (normal_many pieces g all) = good_ones_fit g
cut_outcome_fits (normal_rejected pieces g some) = tt

specifier_outcome_fits : {text : List ℕ} {o : Outcome} → IsSpecifierOutcome text o → Fits o
specifier_outcome_fits (whole s fit) = and_from _ _ (and_from _ _ fit refl) refl
specifier_outcome_fits (left_over s fit more) = tt
specifier_outcome_fits (no_front n t) = tag_or_fits t
specifier_outcome_fits (no_fit s e t) = tag_or_fits t

-- the comparators of every tree of a parser fit
pub outcome_fits : (f : Flavour) (text : List ℕ) (tree : List (List Comparator)) → IsOutcome f text (Ranges tree) → all_trees_fit tree ≡ true
outcome_fits Npm text tree o = cut_outcome_fits o
outcome_fits Normal text tree o = cut_outcome_fits o
outcome_fits Specifier text tree o = specifier_outcome_fits o
