use Rattle.std.proofs.Common.{[], ◌∷◌}
use Rattle.std.proofs.lemmas.List.Elements.{All-head}
use Rattle.semver_base.specs.Intervals.{flag_of, is_within, AreWritableIntervals, IsWritableInterval}
use Rattle.semver_base.proofs.FoundVersions.{only_item, single_means}
use Rattle.semver_base.proofs.range.intervals.Interval.of_single.Goals as goal

pub returns-in-Some-None-clause-holds : goal.returns-in-Some-None-clause-holds
returns-in-Some-None-clause-holds c = λ v own.
    single_means (flag_of c.args.group) c.args.ranges.now c.range-item.result v (is_within c.in-Some-None.interval v) (only_item c.args.ranges.now c.range-item.result c.in-len1.len_at_least c.in-len1.len_below c.range-item.is)
    (rw (c.in-Some-None.is-0, c.in-Some-None.is-1) at (c.of_group.ensures.holds v own))

pub returns-in-Some-None-clause-writable : goal.returns-in-Some-None-clause-writable
returns-in-Some-None-clause-writable c = λ written.
    let i = c.in-Some-None.interval in
    let only = only_item c.args.ranges.now c.range-item.result c.in-len1.len_at_least c.in-len1.len_below c.range-item.is in
    let each : AreWritableIntervals (i ∷ []) = rw c.in-Some-None.is-0 at (c.of_group.ensures.writable (rw only at written).0).0 in
    All-head IsWritableInterval i [] each
