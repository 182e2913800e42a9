use Rattle.std.proofs.Common.{◌∙◌, ap, subst, sym}
use Rattle.semver_base.specs.Intervals.{flag_of, is_within, some_means}
use Rattle.semver_base.specs.NormalText.{AreWritableRanges}
use Rattle.semver_base.proofs.FoundVersions.{more_match, one_of_sets}
use Rattle.semver_base.proofs.range.lowest.common_single.Goals as goal

pub loop-set-preserved : goal.loop-set-preserved
loop-set-preserved c =
    let l = c.loop-set in
    let sets = c.args.question.others.now in
    let inside = c.loop-set-test.true in
    let set = c.set-item.result in
    let other = c.in-Some-of_single.other in (
      λ v own. c.meet-common.ensures.holds v ∙ more_match (flag_of c.args.group) c.args.question.own.now v sets l.set-index set inside c.set-item.is (is_within l.common v) (is_within other v) (l.invariant.0 v own)
          (c.in-Some-of_single.ensures.holds v own ∙ ap (λ ranges. some_means (flag_of c.args.group) ranges v) c.as_slice.ensures),
      λ written others. c.meet-common.ensures.writable (l.invariant.1 written others)
          (c.in-Some-of_single.ensures.writable (subst AreWritableRanges (sym c.as_slice.ensures) (one_of_sets sets l.set-index set inside c.set-item.is others))),
    )
