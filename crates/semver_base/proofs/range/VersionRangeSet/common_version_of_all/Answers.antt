use Rattle.std.proofs.Common.{IfOk}
use Rattle.std.proofs.lemmas.Result.{IfOk-weaker}
use Rattle.semver_base.specs.Intervals.{AreWritableSets}
use Rattle.semver_base.specs.LowestVersion.{all_mean_with}
use Rattle.semver_base.specs.NormalText.{AreWritableRanges}
use Rattle.semver_base.specs.Intervals.{IsFound}
use Rattle.semver_base.proofs.FoundVersions.{found_if_ok, all_asked}
use Rattle.semver_base.proofs.range.VersionRangeSet.common_version_of_all.Goals as goal

found : (c : goal.After-lowest) → IfOk c.lowest.result (IsFound (all_mean_with c.args.pre_release c.args.self.now.0 c.args.others.now) (AreWritableRanges c.args.self.now.0 × AreWritableSets c.args.others.now))
found c = found_if_ok _ _ _ _ c.lowest.result (rw c.as_slice.ensures at c.lowest.ensures) (λ v. all_asked c.args.pre_release v c.args.self.now.0 c.args.others.now) (λ written. (written.0, written.1, tt))

pub returns-clause-lowest : goal.returns-clause-lowest
returns-clause-lowest c = IfOk-weaker c.lowest.result _ _ (λ x h. h.lowest) (found c)

pub returns-clause-no_build : goal.returns-clause-no_build
returns-clause-no_build c = IfOk-weaker c.lowest.result _ _ (λ x h. h.no_build) (found c)

pub returns-clause-reads_back : goal.returns-clause-reads_back
returns-clause-reads_back c = IfOk-weaker c.lowest.result _ _ (λ x h some others. h.reads_back (some, others)) (found c)
