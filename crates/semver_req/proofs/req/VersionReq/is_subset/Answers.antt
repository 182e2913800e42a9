use Rattle.std.proofs.Common.{◌≡◌, ◌↔◌, IsTrue}
use Rattle.semver_base.specs.Containment.{IsWithin}
use Rattle.semver_req.specs.Requirement.{inner_means_with}
use Rattle.semver_req.specs.declared.range_set_or_tag.RangeSetOrTag.TheVariants as inner
use Rattle.semver_req.proofs.LowestRead.{common_back}
use Rattle.semver_req.proofs.req.VersionReq.is_subset.Goals as goal

pub returns-in-RangeSet-RangeSet-clause-value : goal.returns-in-RangeSet-RangeSet-clause-value
returns-in-RangeSet-RangeSet-clause-value c =
    let arm = c.in-RangeSet-RangeSet in
    let is : c.args.self.now.inner ≡ inner.RangeSet arm.set = cc in
    let are : c.args.other.now.inner ≡ inner.RangeSet arm.others = cc in
    rw (is, are) c.is_subset.ensures.value

pub returns-in-RangeSet-RangeSet-clause-exact : goal.returns-in-RangeSet-RangeSet-clause-exact
returns-in-RangeSet-RangeSet-clause-exact c =
    let arm = c.in-RangeSet-RangeSet in
    let is : c.args.self.now.inner ≡ inner.RangeSet arm.set = cc in
    let are : c.args.other.now.inner ≡ inner.RangeSet arm.others = cc in
    let means = inner_means_with c.args.pre_release in
    common_back (λ reported. IsTrue reported ↔ IsWithin (means c.args.self.now.inner) (means c.args.other.now.inner)) c.args.self.now.inner c.args.other.now.inner arm.set arm.others c.is_subset.result is are
    (rw (is, are) c.is_subset.ensures.exact)
