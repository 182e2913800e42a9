use Rattle.std.proofs.Common.{◌∙◌, sym}
use Rattle.semver_base.specs.Intervals.{passes}
use Rattle.semver_base.specs.declared.range.PreRelease.TheVariants.{Restricted}
use Rattle.semver_base.proofs.FoundVersions.{found_both, releases_found}
use Rattle.semver_base.proofs.range.lowest.Question.lowest.Goals as goal

pub returns-then-not-has_pre_bound : goal.returns-then-not-has_pre_bound
returns-then-not-has_pre_bound c =
    let q = c.args.self.now in
    rw c.in-Restricted.is (releases_found q.own.now q.others.now q.without.now _ c.in_ok-release-in-Restricted.release (sym c.has_pre_bound.ensures ∙ c.if-not-has_pre_bound.true) c.in_ok-release-in-Restricted.ensures)

pub returns : goal.returns
returns c =
    let q = c.args.self.now in
    rw (c.lesser.ensures, c.in-Restricted.is) (found_both (passes Restricted q.own.now q.others.now q.without.now) _ c.in_ok-release-in-Restricted.release c.in_ok-pre-in-Restricted.pre
    c.in_ok-release-in-Restricted.ensures c.in_ok-pre-in-Restricted.ensures)
