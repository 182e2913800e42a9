-- Overlap with a tag.
use Rattle.std.proofs.Common.{◌≡◌, List, ℕ, sym, ◌∙◌, nat_cmp, ◌↔◌, IsTrue, nat_eq}
use Rattle.std.proofs.Math.Bool.{and-false}
use Rattle.std.specs.Cmp.{Equal-is}
use Rattle.std.specs.Cmp.Lexicographic.{nat_list_eq_equiv, pointwise, slice_cmp, texts_ties}
use Rattle.std.specs.FinMap.{nat_cmp-IsAntisymmetric, slice_cmp-IsAntisymmetric}
use Rattle.semver_req.specs.Requirement.{MatchNoVersion, inner_means_with}
use Rattle.semver_req.specs.declared.range_set_or_tag.RangeSetOrTag.{RangeSetOrTag}
use Rattle.semver_req.specs.declared.range_set_or_tag.RangeSetOrTag.TheVariants as inner

pub tags_swap : (text other : List ℕ) → pointwise nat_eq text other ≡ pointwise nat_eq other text
tags_swap text other = nat_list_eq_equiv.symm text other

-- two tags overlap exactly if they are the same
pub same_tags : (text other : List ℕ) → IsTrue (pointwise nat_eq text other) ↔ (text ≡ other)
same_tags text other = (
  λ e. slice_cmp-IsAntisymmetric nat_cmp-IsAntisymmetric text other ((Equal-is (slice_cmp nat_cmp text other)).0 (sym (texts_ties text other) ∙ e)),
  λ e. rw e (nat_list_eq_equiv.refl other),
)

-- no version matches a tag
pub tag_matches_none : (one : RangeSetOrTag) (text : List ℕ) → MatchNoVersion one (inner.Tag text)
tag_matches_none one text flag v = and-false (inner_means_with flag one v)
