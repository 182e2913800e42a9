use Rattle.std.proofs.Common.{◌≡◌, IfSome}
use Rattle.semver_base.specs.VersionText.{ReadsBack}
use Rattle.semver_req.specs.declared.range_set_or_tag.RangeSetOrTag.TheVariants as inner
use Rattle.semver_req.proofs.AnyOrder.{own_in_any_order}
use Rattle.semver_req.proofs.LowestRead.{own_back}
use Rattle.semver_req.proofs.req.VersionReq.min_version.Goals as goal

pub returns-in-RangeSet-clause-reads_back : goal.returns-in-RangeSet-clause-reads_back
returns-in-RangeSet-clause-reads_back c =
    let arm = c.in-RangeSet in
    let is : c.args.self.now.inner ≡ inner.RangeSet arm.set = cc in
    own_back (λ lowest. IfSome lowest ReadsBack) c.args.self.now.inner arm.set c.min_version.result is c.min_version.ensures.reads_back

pub returns-in-RangeSet-clause-any_order : goal.returns-in-RangeSet-clause-any_order
returns-in-RangeSet-clause-any_order c =
    let arm = c.in-RangeSet in
    let is : c.args.self.now.inner ≡ inner.RangeSet arm.set = cc in
    let found = c.min_version.ensures in
    own_in_any_order c.read_versions_are_readable.ensures c.args.pre_release c.args.self.now.inner arm.set c.min_version.result is found.lowest found.no_build found.reads_back
