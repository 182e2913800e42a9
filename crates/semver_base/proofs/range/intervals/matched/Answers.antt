use Rattle.semver_base.specs.Intervals.{flag_of, hold}
use Rattle.semver_base.proofs.FoundVersions.{more_matched, one_of_ranges, two_more, two_writable}
use Rattle.semver_base.proofs.range.intervals.matched.Goals as goal

pub loop-range-preserved : goal.loop-range-preserved
loop-range-preserved c =
    let l = c.loop-range in
    let old = l.intervals.items in
    let new = c.push_some-in-loop-range.new.items.items in
    let ranges = c.args.ranges.now in
    let inside = c.loop-range-test.true in
    let range = c.range-item.result in
    let first = c.of_group.result.0 in
    let second = c.of_group.result.1 in (
      λ v own. more_matched (flag_of c.args.group) ranges l.range-index range inside c.range-item.is v (hold old v) (hold new v) _
          (two_more v old c.push_some.new.items.items new first second c.in_ok-push_some.ensures c.in_ok-push_some-2.ensures) (l.invariant.0 v own) (c.of_group.ensures.holds v own),
      λ written. two_writable old c.push_some.new.items.items new first second c.in_ok-push_some.ensures c.in_ok-push_some-2.ensures (l.invariant.1 written)
          (c.of_group.ensures.writable (one_of_ranges ranges l.range-index range inside c.range-item.is written)),
    )
