use Rattle.std.proofs.Common.{◌≡◌, true, not}
use Rattle.semver_base.specs.Intervals.{is_within}
use Rattle.semver_base.specs.Meaning.{bounds_hold, has_pre_of, is_release}
use Rattle.semver_base.proofs.Cuts.{every_means, pre_means, release_means}
use Rattle.semver_base.proofs.range.intervals.Interval.of_group.Goals as goal

pub returns-in-Every-clause-holds : goal.returns-in-Every-clause-holds
returns-in-Every-clause-holds c = λ v own. rw c.in-Every.is (every_means (is_within c.of-interval.result v) (bounds_hold c.args.range.now v) (c.of-interval.ensures.holds v))

pub returns-in-Releases-clause-holds : goal.returns-in-Releases-clause-holds
returns-in-Releases-clause-holds c = λ v own.
    let plain : is_release v ≡ true = rw c.in-Releases.is at own in
    rw c.in-Releases.is (release_means (is_within c.of-interval.result v) (bounds_hold c.args.range.now v) (is_release v) _ (c.of-interval.ensures.holds v) plain)

pub returns-in-PreReleases-clause-holds : goal.returns-in-PreReleases-clause-holds
returns-in-PreReleases-clause-holds c = λ v own.
    let pre : not (is_release v) ≡ true = rw c.in-PreReleases.is at own in
    rw c.in-PreReleases.is (pre_means (is_within c.of-interval.result v) (bounds_hold c.args.range.now v) (is_release v) (has_pre_of c.args.range.now.start v) (has_pre_of c.args.range.now.end v) _ _
    (c.of-interval.ensures.holds v) pre (c.of_numbers.ensures.holds v) (c.of_numbers-in-PreReleases.ensures.holds v))
