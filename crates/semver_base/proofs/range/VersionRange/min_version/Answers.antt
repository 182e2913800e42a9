use Rattle.std.proofs.Common.{IfOk}
use Rattle.std.proofs.lemmas.Result.{IfOk-weaker}
use Rattle.semver_base.specs.Meaning.{range_means_with}
use Rattle.semver_base.specs.NormalText.{IsWritableRange}
use Rattle.semver_base.specs.Intervals.{IsFound}
use Rattle.semver_base.proofs.FoundVersions.{found_if_ok, range_asked}
use Rattle.semver_base.proofs.range.VersionRange.min_version.Goals as goal

found : (c : goal.After-lowest) → IfOk c.lowest.result (IsFound (range_means_with c.args.pre_release c.args.self.now) (IsWritableRange c.args.self.now))
found c = found_if_ok _ _ _ _ c.lowest.result (rw c.from_ref.ensures.value at c.lowest.ensures) (λ v. range_asked c.args.pre_release v c.args.self.now) (λ written. ((written, tt), tt, tt))

pub returns-clause-lowest : goal.returns-clause-lowest
returns-clause-lowest c = IfOk-weaker c.lowest.result _ _ (λ x h. h.lowest) (found c)

pub returns-clause-no_build : goal.returns-clause-no_build
returns-clause-no_build c = IfOk-weaker c.lowest.result _ _ (λ x h. h.no_build) (found c)

pub returns-clause-reads_back : goal.returns-clause-reads_back
returns-clause-reads_back c = IfOk-weaker c.lowest.result _ _ (λ x h. h.reads_back) (found c)
