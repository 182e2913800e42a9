-- Results that are the highest of several versions.
use Rattle.std.proofs.Common.{◌≡◌, ◌∙◌, ℕ, List, get_or, Option, Some, None, Result, Ok, Bool, refl, sym, ap, subst, inr}
use Rattle.std.proofs.Math.Seq.{get_or-append_seam}
use Rattle.semver_base.specs.declared.range.PreRelease.{PreRelease}
use Rattle.semver_base.specs.declared.version.Version.{Version}
use Rattle.semver_req.specs.Requirement.{inner_means_with, tag_of}
use Rattle.semver_req.specs.declared.range_set_or_tag.RangeSetOrTag.{RangeSetOrTag}
use Rattle.semver_req.specs.declared.range_set_or_tag.RangeSetOrTag.TheVariants as inner
use Rattle.semver_req.specs.Resolve.{IsBestAt, IsBestMatch, IsOnlyMatch}
use Rattle.answers.specs.Asking.{Fault, IsAnswer}
use Rattle.answers.specs.Questions.{BestOf, IsBest, better}
use Rattle.answers.specs.declared.asking.Answer.{Answer}
use Rattle.answers.specs.declared.asking.Answer.TheVariants.{Value}
use Rattle.answers.specs.declared.questions.Best.{Best}
use Rattle.answers.specs.declared.questions.End.{End}

abbrev as_best : Option Best → Result (Answer (Option Best)) Fault
as_best best = Ok (Value best)

module _ (end : End) (test : Version → Bool) (versions : List Version) where
  -- the version at the index of a match
  version_at : (place : ℕ) (v d : Version) → IsBestAt (better end) test versions place v → get_or versions place d ≡ v
  version_at place v d h = rw (h.stands, sym h.at_place) (get_or-append_seam h.before v h.after d)

  -- the version taken from the index
  pub taken_best : (place : ℕ) (v : Version) → v ≡ get_or versions place v → IsBestMatch (better end) test versions (Some place) → IsBest end test versions (Some (record { place = place; version = v }))
  taken_best place v at h = subst (λ (w : Version). IsBestAt (better end) test versions place w) (sym (version_at place h.0 v h.1) ∙ sym at) h.1

  same_best : (place : ℕ) (v : Version) → v ≡ get_or versions place v → (other : Best) → IsBest end test versions (Some other) → other.place ≡ place → record { place = place; version = v } ≡ other
  same_best place v at other h e =
      let at_other : v ≡ other.version = at ∙ ap (λ (p : ℕ). get_or versions p v) (sym e) ∙ version_at other.place other.version v h in
      ap (λ (p : ℕ). record { place = p; version = v }) (sym e) ∙ ap (λ (w : Version). record { place = other.place; version = w }) at_other

  same_place : (p q : ℕ) → Some p ≡ Some q → p ≡ q
  same_place p q e = cc e

  pub only_best : (place : ℕ) (v : Version) → v ≡ get_or versions place v → IsOnlyMatch (better end) test versions (Some place)
      → (other : Option Best) → IsBest end test versions other → Some (record { place = place; version = v }) ≡ other
  only_best place v at only None h = absurd (cc (only None h))
  only_best place v at only (Some other) h = ap Some (same_best place v at other h (same_place other.place place (only (Some other.place) (other.version, h))))

  pub none_best : IsOnlyMatch (better end) test versions None → (other : Option Best) → IsBest end test versions other → None ≡ other
  none_best only None h = refl
  none_best only (Some other) h = absurd (cc (only (Some other.place) (other.version, h)))

-- the best match found is the result for a range that isn't a tag
pub best_answer : (end : End) (flag : PreRelease) (read : RangeSetOrTag) (versions : List Version) → tag_of read ≡ None → (best : Option Best) → IsBest end (inner_means_with flag read) versions best
    → ((other : Option Best) → IsBest end (inner_means_with flag read) versions other → best ≡ other) → IsAnswer (BestOf end flag read versions) (λ (a : Answer (Option Best)). a) (Ok (Value best))
best_answer end flag (inner.RangeSet set) versions none best h only = record {
  is = inr (best, h, refl);
  only = λ o a. inr (ap as_best (only a.0 a.1) ∙ sym a.2);
}
best_answer end flag (inner.Tag tag) versions none best h only = absurd (cc none)
