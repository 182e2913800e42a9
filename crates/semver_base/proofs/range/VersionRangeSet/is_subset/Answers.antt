use Rattle.semver_base.specs.Meaning.{set_means_with}
use Rattle.semver_base.proofs.Containment.{within_exact, within_reported}
use Rattle.semver_base.proofs.range.VersionRangeSet.is_subset.Goals as goal

pub returns-clause-value : goal.returns-clause-value
returns-clause-value c = within_reported (set_means_with c.args.pre_release c.args.self.now.0) (set_means_with c.args.pre_release c.args.other.now.0) c.in_ok-outside.outside c.is_none.result c.is_none.ensures c.in_ok-outside.ensures.lowest

pub returns-clause-exact : goal.returns-clause-exact
returns-clause-exact c = λ own others.
    within_exact (set_means_with c.args.pre_release c.args.self.now.0) (set_means_with c.args.pre_release c.args.other.now.0) c.in_ok-outside.outside c.is_none.result c.is_none.ensures c.in_ok-outside.ensures.lowest
    (c.in_ok-outside.ensures.reads_back own others)
