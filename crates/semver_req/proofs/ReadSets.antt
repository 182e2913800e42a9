-- What holds of every parsed set.
use Rattle.std.proofs.Common.{◌≡◌, List, [], ◌∷◌, true, refl, sym, subst, ap, ◌∙◌}
use Rattle.std.specs.List.{list_all}
use Rattle.std.proofs.lemmas.Bool.{and_from, and_parts}
use Rattle.semver_base.specs.Meaning.{alternatives, tree_means_with}
use Rattle.semver_base.specs.NormalText.{AreWritableRanges}
use Rattle.semver_base.specs.Shortest.{shortest_tree}
use Rattle.semver_base.specs.declared.range.PreRelease.{PreRelease}
use Rattle.semver_base.specs.declared.range.VersionRange.{VersionRange}
use Rattle.semver_base.specs.declared.version.Version.{Version}
use Rattle.semver_req.specs.RetainedSet.{IsReadSet}
use Rattle.semver_req.specs.Outcome.{tree_ranges}
use Rattle.semver_req.specs.Rereading.{is_orderly, keeps_meaning}
use Rattle.semver_req.specs.Stable.{reread_set}
use Rattle.semver_req.proofs.RetainedRanges.{is_retained, outcome_is_retained}
use Rattle.semver_req.proofs.OutcomesHaveIdentifiers.{outcome_writable}
use Rattle.semver_req.proofs.StableSets.{orderly_reread, reread_set_means, set_stabilizes, tree_form_means}
use Rattle.semver_req.proofs.Starts.{has_start}

read_is_retained : (ranges : List VersionRange) → IsReadSet ranges → list_all is_retained ranges ≡ true
read_is_retained ranges r = ap (list_all is_retained) r.is_retained ∙ outcome_is_retained r.flavour r.text r.tree r.is_outcome

-- its text parses back
pub read_writable : (ranges : List VersionRange) → IsReadSet ranges → AreWritableRanges ranges
read_writable ranges r = subst AreWritableRanges (sym r.is_retained) (outcome_writable r.flavour r.text r.tree r.is_outcome)

starts_of : (ranges : List VersionRange) → list_all is_retained ranges ≡ true → list_all has_start ranges ≡ true
starts_of [] h = refl
starts_of (range ∷ ranges) h = and_from _ _ (and_parts (has_start range) _ (and_parts _ _ h).0).0 (starts_of ranges (and_parts (is_retained range) _ h).1)

-- under the premise its shortest form matches what it matches
pub read_form_means : (ranges : List VersionRange) → IsReadSet ranges → list_all keeps_meaning ranges ≡ true
    → (flag : PreRelease) (v : Version) → tree_means_with flag (tree_ranges (shortest_tree ranges)) v ≡ tree_means_with flag (alternatives ranges) v
read_form_means ranges r k flag v = tree_form_means ranges (starts_of ranges (read_is_retained ranges r)) k flag v

-- so does what is kept of its shortest form
pub read_again_means : (ranges : List VersionRange) → IsReadSet ranges → list_all keeps_meaning ranges ≡ true
    → (flag : PreRelease) (v : Version) → tree_means_with flag (alternatives (reread_set ranges)) v ≡ tree_means_with flag (alternatives ranges) v
read_again_means ranges r k flag v = reread_set_means ranges (starts_of ranges (read_is_retained ranges r)) k flag v

-- what it parses back to parses back to itself
pub read_stabilizes : (ranges : List VersionRange) → IsReadSet ranges → reread_set (reread_set ranges) ≡ reread_set ranges
read_stabilizes ranges r = set_stabilizes ranges (read_is_retained ranges r)

-- without builds and crossed bounds it parses back to itself, under the premise
pub read_orderly : (ranges : List VersionRange) → IsReadSet ranges → list_all is_orderly ranges ≡ true → list_all keeps_meaning ranges ≡ true → reread_set ranges ≡ ranges
read_orderly ranges r orderly k = orderly_reread ranges (read_is_retained ranges r) orderly k
