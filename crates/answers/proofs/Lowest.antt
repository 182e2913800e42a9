-- Results that are a lowest version.
use Rattle.std.proofs.Common.{◌≡◌, ℕ, List, [], ◌∷◌, Option, None, Result, Ok, Bool, true, refl, sym, ap, subst, inr, ◌∙◌, IfSome, map}
use Rattle.std.proofs.lemmas.List.Sorted.{IsPermutation-refl}
use Rattle.semver_base.specs.LowestVersion.{HasNoBuild, IsLowestPassing, IsOnlyLowest}
use Rattle.semver_base.specs.VersionText.{ReadsBack}
use Rattle.semver_base.specs.declared.range.PreRelease.{PreRelease}
use Rattle.semver_base.specs.declared.version.Version.{Version}
use Rattle.semver_req.specs.AnyOrder.{AllInAnyOrder, AreEachReordered, IsReordered}
use Rattle.semver_req.specs.Requirement.{Requirement, all_inners_mean_with, have_no_tag}
use Rattle.semver_req.specs.declared.range_set_or_tag.RangeSetOrTag.{RangeSetOrTag}
use Rattle.semver_req.specs.declared.range_set_or_tag.RangeSetOrTag.TheVariants as inner
use Rattle.answers.specs.Asking.{Fault, IsAnswer}
use Rattle.answers.specs.Questions.{CommonOf, LowestOf, UnlessTag, first_tag}
use Rattle.answers.specs.declared.asking.Answer.{Answer}
use Rattle.answers.specs.declared.asking.Answer.TheVariants.{Value}

abbrev as_lowest : Option Version → Result (Answer (Option Version)) Fault
as_lowest found = Ok (Value found)

-- a test has one lowest version
pub lowest_answer : (test : Version → Bool) (found : Option Version) → IsLowestPassing test found → IfSome found HasNoBuild → IfSome found ReadsBack
    → IsOnlyLowest test found → IsAnswer (LowestOf test) (λ (a : Answer (Option Version)). a) (Ok (Value found))
lowest_answer test found h n r only = record {
  is = inr (found, record { lowest = h; no_build = n; reads_back = r }, refl);
  only = λ o a. inr (ap as_lowest (sym (only a.0 a.1.lowest a.1.no_build a.1.reads_back)) ∙ sym a.2);
}

-- the result for ranges none of which is a tag
pub common_answer : (flag : PreRelease) (own : Requirement) (others : List Requirement) → first_tag (own ∷ others) ≡ None → (found : Option Version)
    → IsLowestPassing (all_inners_mean_with flag own.inner others) found → IfSome found HasNoBuild → IfSome found ReadsBack → IsOnlyLowest (all_inners_mean_with flag own.inner others) found
    → IsAnswer (CommonOf flag (own ∷ others)) (λ (a : Answer (Option Version)). a) (Ok (Value found))
common_answer flag own others none found h n r only =
    subst (λ (tag : Option (List ℕ)). IsAnswer (UnlessTag tag (LowestOf (all_inners_mean_with flag own.inner others))) (λ (a : Answer (Option Version)). a) (Ok (Value found))) (sym none)
    (lowest_answer (all_inners_mean_with flag own.inner others) found h n r only)

-- ---- what holds for any order holds for the given one

same_order : (read : RangeSetOrTag) → IsReordered read read
same_order (inner.RangeSet set) = IsPermutation-refl set.0
same_order (inner.Tag tag) = refl

each_same : (reads : List RangeSetOrTag) → AreEachReordered reads reads
each_same [] = tt
each_same (read ∷ reads) = (same_order read, each_same reads)

pub only_of_all : (flag : PreRelease) (own : RangeSetOrTag) (others : List Requirement) (found : Option Version) → AllInAnyOrder flag own others found → IsOnlyLowest (all_inners_mean_with flag own others) found
only_of_all flag own others found h =
    let reads = own ∷ map (λ (req : Requirement). req.inner) others in
    h own others (record { moved = reads; in_order = IsPermutation-refl reads; each = each_same reads })

-- ---- tags

-- if no range is a tag, none of the later ones is
no_tag_more : (own : Requirement) (others : List Requirement) → first_tag (own ∷ others) ≡ None → (first_tag others ≡ None) × ((have_no_tag others ≡ true) → have_no_tag (own ∷ others) ≡ true)
no_tag_more own others h = go own.inner refl
  where
    go : (read : RangeSetOrTag) → own.inner ≡ read → (first_tag others ≡ None) × ((have_no_tag others ≡ true) → have_no_tag (own ∷ others) ≡ true)
    go (inner.RangeSet set) e = (rw e at h, λ more. rw e more)
    go (inner.Tag tag) e = absurd (cc (rw e at h))

none_is_tag : (reqs : List Requirement) → first_tag reqs ≡ None → have_no_tag reqs ≡ true
none_is_tag [] h = refl
none_is_tag (req ∷ reqs) h =
    let more = no_tag_more req reqs h in
    more.1 (none_is_tag reqs more.0)

pub none_is_later : (own : Requirement) (others : List Requirement) → first_tag (own ∷ others) ≡ None → have_no_tag others ≡ true
none_is_later own others h = none_is_tag others (no_tag_more own others h).0
