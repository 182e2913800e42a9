use Rattle.std.proofs.Common.{◌∙◌, take_all}
use Rattle.semver_req.proofs.AnyOrder.{all_in_any_order}
use Rattle.semver_req.proofs.LowestRead.{all_back, all_lowest}
use Rattle.semver_req.proofs.req.VersionReq.common_version_of_all.Goals as goal

pub returns-clause-lowest : goal.returns-clause-lowest
returns-clause-lowest c =
    let sets = rw (take_all c.loop-other.other-index c.args.others.now c.loop-other-test.false) at c.loop-other.invariant in
    all_lowest c.args.pre_release c.args.self.now.inner c.args.others.now c.in_ok-own.own c.as_slice.result.now c.common_version_of_all.result c.in_ok-own.ensures (c.as_slice.ensures.value ∙ sets)
    c.common_version_of_all.ensures.lowest

pub returns-clause-reads_back : goal.returns-clause-reads_back
returns-clause-reads_back c =
    let sets = rw (take_all c.loop-other.other-index c.args.others.now c.loop-other-test.false) at c.loop-other.invariant in
    all_back c.args.self.now.inner c.args.others.now c.in_ok-own.own c.as_slice.result.now c.common_version_of_all.result c.in_ok-own.ensures (c.as_slice.ensures.value ∙ sets)
    c.common_version_of_all.ensures.reads_back

pub returns-clause-any_order : goal.returns-clause-any_order
returns-clause-any_order c =
    all_in_any_order c.read_versions_are_readable.ensures c.args.pre_release c.args.self.now.inner c.args.others.now c.common_version_of_all.result (returns-clause-lowest c) c.common_version_of_all.ensures.no_build (returns-clause-reads_back c)
