-- The canonical form of a parsed set, parsed again.
use Rattle.std.proofs.Common.{◌≡◌, ℕ, List, refl, sym, subst, ap, ◌∙◌}
use Rattle.semver_base.specs.Comparators.{Comparator}
use Rattle.semver_base.specs.Containment.{AreEquivalent}
use Rattle.semver_base.specs.Meaning.{alternatives, set_means, tree_means_with}
use Rattle.semver_base.specs.NormalText.{set_text}
use Rattle.semver_base.specs.Shortest.{shortest_tree}
use Rattle.semver_base.specs.declared.range.PreRelease.TheVariants.{Restricted}
use Rattle.semver_base.specs.declared.range.VersionRange.{VersionRange}
use Rattle.semver_req.specs.RetainedSet.{IsReadSet, retained}
use Rattle.semver_req.specs.Outcome.{IsOutcome, Outcome, Ranges, Rejected, Tag, tree_ranges}
use Rattle.semver_req.specs.Pieces.{IsCutting, npm, normal}
use Rattle.semver_req.specs.Rereading.{IsReadAsItself, IsTree, NormalTextsAreEquivalent, NormalTextsKeepTheirMeaning, OneRereadingStabilizes, OfReadRanges, StableSetsAreTheirTexts}
use Rattle.semver_req.specs.Parsers.{IsRead}
use Rattle.semver_req.specs.Requirement.{inner_means, inner_text}
use Rattle.semver_req.specs.Stable.{reread_set}
use Rattle.semver_req.specs.declared.common.values.Flavour.{Flavour}
use Rattle.semver_req.specs.declared.common.values.Flavour.TheVariants.{Normal}
use Rattle.semver_req.specs.declared.range_set_or_tag.RangeSetOrTag.{RangeSetOrTag}
use Rattle.semver_req.specs.declared.range_set_or_tag.RangeSetOrTag.TheVariants as inner
use Rattle.semver_req.proofs.OneOutcome.{one_outcome}
use Rattle.semver_req.proofs.ReadSets.{read_again_means, read_form_means, read_orderly, read_stabilizes, read_writable}
use Rattle.semver_req.proofs.WrittenSets.{set_outcome, set_trimmed}

one_tree : (t u : List (List Comparator)) → Ranges t ≡ Ranges u → t ≡ u
one_tree t u e = cc e

-- both parsers keep the same of a tree
pub retained_alike : (f : Flavour) → IsCutting f → (tree : List (List Comparator)) → retained f tree ≡ retained Normal tree
retained_alike f npm tree = refl
retained_alike f normal tree = refl

module _ (f : Flavour) (cut : IsCutting f) (ranges : List VersionRange) (r : IsReadSet ranges) where
  text_read : IsTree f (set_text ranges) (shortest_tree ranges)
  text_read = set_outcome f cut ranges (read_writable ranges r)

  tree_read : (tree : List (List Comparator)) → IsTree f (set_text ranges) tree → tree ≡ shortest_tree ranges
  tree_read tree h = one_tree tree (shortest_tree ranges) (one_outcome f (set_text ranges) (Ranges tree) (Ranges (shortest_tree ranges)) h text_read)

  -- what is kept of the tree that the text parses to
  retained_read : (tree : List (List Comparator)) → IsTree f (set_text ranges) tree → retained f tree ≡ reread_set ranges
  retained_read tree h = retained_alike f cut tree ∙ ap (retained Normal) (tree_read tree h)

  retained_stable : (tree : List (List Comparator)) → IsTree f (set_text ranges) tree → reread_set (retained f tree) ≡ retained f tree
  retained_stable tree h = let e = retained_read tree h in ap reread_set e ∙ read_stabilizes ranges r ∙ sym e

read_again : (f : Flavour) (ranges : List VersionRange) (tree : List (List Comparator)) → IsTree f (set_text ranges) tree → IsReadSet (retained f tree)
read_again f ranges tree h = record { flavour = f; text = set_text ranges; tree = tree; is_outcome = h; is_retained = refl }

pub stabilizes : OneRereadingStabilizes
stabilizes ranges r f cut tree h g other =
    let again : IsReadSet (retained f tree) = read_again f ranges tree h in
    let read : IsTree g (set_text (retained f tree)) (shortest_tree (retained f tree)) = text_read g other (retained f tree) again in
    record {
      tree = shortest_tree (retained f tree);
      is_tree = read;
      is_retained = retained_read g other (retained f tree) again (shortest_tree (retained f tree)) read ∙ retained_stable f cut ranges r tree h;
    }

pub rereadings : NormalTextsKeepTheirMeaning
rereadings ranges r = record {
  forms = λ f cut. (text_read f cut ranges r, λ o h. one_outcome f (set_text ranges) o (Ranges (shortest_tree ranges)) h (text_read f cut ranges r));
  is_trimmed = set_trimmed ranges (read_writable ranges r);
  means = λ k f cut tree h flag v. ap (λ tree. tree_means_with flag (tree_ranges tree) v) (tree_read f cut ranges r tree h) ∙ read_form_means ranges r k flag v;
  retained_means = λ k f cut tree h flag v. ap (λ set. tree_means_with flag (alternatives set) v) (retained_read f cut ranges r tree h) ∙ read_again_means ranges r k flag v;
  equal = λ orderly k f cut tree h. retained_read f cut ranges r tree h ∙ read_orderly ranges r orderly k;
}

pub equivalent_again : NormalTextsAreEquivalent
equivalent_again ranges r k f cut again reading = go reading.outcome reading.is_outcome reading.is_read
  where
    go : (o : Outcome) → IsOutcome f (set_text ranges) o → IsRead f o again → AreEquivalent (set_means ranges) (inner_means again)
    go (Ranges tree) h is = λ v _. sym ((rereadings ranges r).retained_means k f cut tree h Restricted v) ∙ sym (ap (λ answer. inner_means answer v) is)
    go (Tag text) h is = absurd (cc (one_outcome f (set_text ranges) (Tag text) (Ranges (shortest_tree ranges)) h (text_read f cut ranges r)))
    go Rejected h is = absurd is

-- two sets that a parser keeps of their texts are the same if the texts are
same_by_text : (some others : List VersionRange) → IsReadAsItself Normal some → IsReadAsItself Normal others → set_text some ≡ set_text others → some ≡ others
same_by_text some others one other same =
    let read : IsTree Normal (set_text others) one.tree = subst (λ text. IsTree Normal text one.tree) same one.is_tree in
    let trees : one.tree ≡ other.tree = one_tree one.tree other.tree (one_outcome Normal (set_text others) (Ranges one.tree) (Ranges other.tree) read other.is_tree) in
    sym one.is_retained ∙ ap (retained Normal) trees ∙ other.is_retained

pub stable_by_text : StableSetsAreTheirTexts
stable_by_text some others one other = (ap set_text, same_by_text some others (one Normal normal) (other Normal normal))

-- what is true of the canonical form of every parsed set is true of the text of a requirement
pub of_text : (Says : List ℕ → List VersionRange → Type 0) → ((ranges : List VersionRange) → IsReadSet ranges → Says (set_text ranges) ranges)
    → (answer : RangeSetOrTag) (text : List ℕ) → text ≡ inner_text answer → OfReadRanges Says answer text
of_text Says law (inner.RangeSet set) text is = λ r. subst (λ t. Says t set.0) (sym is) (law set.0 r)
of_text Says law (inner.Tag tag) text is = tt
