use Rattle.std.proofs.Common.{◌&&◌, subst, take_all}
use Rattle.semver_base.specs.Intervals.{hold, is_of, AreWritableIntervals, IsFound}
use Rattle.semver_base.proofs.FoundVersions.{more_found}
use Rattle.semver_base.proofs.range.intervals.lowest.Goals as goal

pub loop-interval-preserved : goal.loop-interval-preserved
loop-interval-preserved c =
    let l = c.loop-interval in
    rw c.lesser-found.ensures (more_found c.args.group c.args.intervals.now l.interval-index c.interval-item.result c.loop-interval-test.true c.interval-item.is l.found c.in_ok-first.first l.invariant c.in_ok-first.ensures)

pub returns : goal.returns
returns c =
    let l = c.loop-interval in
    subst (λ intervals. IsFound (λ v. is_of c.args.group v && hold intervals v) (AreWritableIntervals c.args.intervals.now) l.found) (take_all l.interval-index c.args.intervals.now c.loop-interval-test.false) l.invariant
