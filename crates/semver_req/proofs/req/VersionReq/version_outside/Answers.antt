use Rattle.std.proofs.Common.{◌≡◌, ◌&&◌, not, IfSome}
use Rattle.semver_base.specs.VersionText.{ReadsBack}
use Rattle.semver_req.specs.declared.range_set_or_tag.RangeSetOrTag.TheVariants as inner
use Rattle.semver_req.proofs.AnyOrder.{both_in_any_order}
use Rattle.semver_req.proofs.LowestRead.{common_back}
use Rattle.semver_req.proofs.req.VersionReq.version_outside.Goals as goal

pub returns-in-RangeSet-RangeSet-clause-reads_back : goal.returns-in-RangeSet-RangeSet-clause-reads_back
returns-in-RangeSet-RangeSet-clause-reads_back c =
    let arm = c.in-RangeSet-RangeSet in
    let is : c.args.self.now.inner ≡ inner.RangeSet arm.set = cc in
    let are : c.args.other.now.inner ≡ inner.RangeSet arm.others = cc in
    common_back (λ lowest. IfSome lowest ReadsBack) c.args.self.now.inner c.args.other.now.inner arm.set arm.others c.version_outside.result is are c.version_outside.ensures.reads_back

pub returns-in-RangeSet-RangeSet-clause-any_order : goal.returns-in-RangeSet-RangeSet-clause-any_order
returns-in-RangeSet-RangeSet-clause-any_order c =
    let arm = c.in-RangeSet-RangeSet in
    let is : c.args.self.now.inner ≡ inner.RangeSet arm.set = cc in
    let are : c.args.other.now.inner ≡ inner.RangeSet arm.others = cc in
    let found = c.version_outside.ensures in
    both_in_any_order c.read_versions_are_readable.ensures c.args.pre_release (λ a b. a && not b) c.args.self.now.inner c.args.other.now.inner arm.set arm.others c.version_outside.result is are found.lowest found.no_build found.reads_back
