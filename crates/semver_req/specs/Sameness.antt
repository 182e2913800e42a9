-- The derived `==` of requirements decides whether their ranges or tags are the same.
use Rattle.std.proofs.Common.{◌≡◌, ℕ, List, Bool, ap, Decides}
use Rattle.semver_base.specs.declared.range.VersionRangeSet.{VersionRangeSet}
use Rattle.semver_base.specs.Sameness.{range_set_eq, range_set_reported, text_eq, text_reported, reported_as}
use Rattle.semver_req.specs.contracts.range_set_or_tag.RangeSetOrTagPartialEq.TheImpl as inner_impl
use Rattle.semver_req.specs.declared.range_set_or_tag.RangeSetOrTag.{RangeSetOrTag}
use Rattle.semver_req.specs.declared.range_set_or_tag.RangeSetOrTag.TheVariants as inner

abbrev pub inner_eq : RangeSetOrTag → RangeSetOrTag → Bool
inner_eq = (inner_impl.ghosts).eq

pub inner_reported : (x y : RangeSetOrTag) → Decides (inner_eq x y) (x ≡ y)
inner_reported (inner.RangeSet x) (inner.RangeSet y) = reported_as (range_set_eq x y) (ap (λ (set : VersionRangeSet). inner.RangeSet set)) (λ e. cc e) (range_set_reported x y)
inner_reported (inner.Tag x) (inner.Tag y) = reported_as (text_eq x y) (ap (λ (text : List ℕ). inner.Tag text)) (λ e. cc e) (text_reported x y)
inner_reported (inner.RangeSet x) (inner.Tag y) = (λ e. cc e, λ e. cc e)
inner_reported (inner.Tag x) (inner.RangeSet y) = (λ e. cc e, λ e. cc e)
