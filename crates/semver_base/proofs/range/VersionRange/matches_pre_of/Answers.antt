use Rattle.semver_base.specs.Meaning.{is_pre_match}
use Rattle.semver_base.proofs.PreMatches.{reported, reported_exact}
use Rattle.semver_base.proofs.range.VersionRange.matches_pre_of.Goals as goal

pub returns-clause-value : goal.returns-clause-value
returns-clause-value c = reported (is_pre_match c.args.self.now c.args.bound.now) c.in_ok-lowest.lowest c.is_some.result c.is_some.ensures c.in_ok-lowest.ensures.lowest

pub returns-clause-exact : goal.returns-clause-exact
returns-clause-exact c = λ start other.
    reported_exact (is_pre_match c.args.self.now c.args.bound.now) c.in_ok-lowest.lowest c.is_some.result c.is_some.ensures c.in_ok-lowest.ensures.lowest (c.in_ok-lowest.ensures.reads_back (start, other))
