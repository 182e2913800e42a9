use Rattle.std.proofs.Common.{IfOk}
use Rattle.std.proofs.lemmas.Result.{IfOk-weaker}
use Rattle.semver_base.specs.LowestVersion.{set_means_alone_with}
use Rattle.semver_base.specs.NormalText.{AreWritableRanges}
use Rattle.semver_base.specs.Intervals.{IsFound}
use Rattle.semver_base.proofs.FoundVersions.{found_if_ok, outside_asked}
use Rattle.semver_base.proofs.range.VersionRangeSet.version_outside.Goals as goal

found : (c : goal.After-lowest) → IfOk c.lowest.result (IsFound (set_means_alone_with c.args.pre_release c.args.self.now.0 c.args.other.now.0) (AreWritableRanges c.args.self.now.0 × AreWritableRanges c.args.other.now.0))
found c = found_if_ok _ _ _ _ c.lowest.result (rw (c.as_slice.ensures, c.as_slice-2.ensures) at c.lowest.ensures) (λ v. outside_asked c.args.pre_release v c.args.self.now.0 c.args.other.now.0) (λ written. (written.0, tt, written.1))

pub returns-clause-lowest : goal.returns-clause-lowest
returns-clause-lowest c = IfOk-weaker c.lowest.result _ _ (λ x h. h.lowest) (found c)

pub returns-clause-no_build : goal.returns-clause-no_build
returns-clause-no_build c = IfOk-weaker c.lowest.result _ _ (λ x h. h.no_build) (found c)

pub returns-clause-reads_back : goal.returns-clause-reads_back
returns-clause-reads_back c = IfOk-weaker c.lowest.result _ _ (λ x h some others. h.reads_back (some, others)) (found c)
