use Rattle.semver_base.specs.Intervals.{flag_of, passes}
use Rattle.semver_base.proofs.FoundVersions.{found_if_ok, gaps_pass, none_writable, two_found}
use Rattle.semver_base.proofs.range.lowest.lowest_of.Goals as goal

pub returns-in-Some : goal.returns-in-Some
returns-in-Some c =
    let q = c.args.question in
    rw c.lesser.ensures (two_found c.args.group (passes (flag_of c.args.group) q.own.now q.others.now q.without.now) _ c.in-Some.below c.in-Some.above c.in_ok-low.low c.in_ok-high.high
    (λ written. c.in-Some.ensures.writable written.0 written.1 written.2) c.in-Some.ensures.holds c.in_ok-low.ensures c.in_ok-high.ensures)

pub returns : goal.returns
returns c =
    let q = c.args.question in
    let inside = c.push_gaps.new.gaps.items in
    found_if_ok _ _ _ _ c.lowest.result (rw c.as_slice.ensures.value at c.lowest.ensures)
    (gaps_pass c.args.group q.own.now q.others.now q.without.now c.new-inside.result.items inside c.in_ok-out.out.items c.new-inside.ensures.items c.in_ok-push_gaps.ensures.holds c.in_ok-out.ensures.holds)
    (λ written. c.in_ok-push_gaps.ensures.writable (none_writable c.new-inside.result.items c.new-inside.ensures.items) (c.in_ok-out.ensures.writable written.0 written.1 written.2))
