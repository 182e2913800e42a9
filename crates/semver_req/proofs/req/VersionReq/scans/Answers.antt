use Rattle.std.proofs.Common.{◌≡◌}
use Rattle.semver_base.specs.Scans.{ScansFind}
use Rattle.semver_req.specs.Requirement.{inner_means_with}
use Rattle.semver_req.specs.declared.range_set_or_tag.RangeSetOrTag.TheVariants as inner
use Rattle.semver_req.proofs.LowestRead.{own_back}
use Rattle.semver_req.proofs.req.VersionReq.scans.Goals as goal

pub returns-in-RangeSet-clause-matches : goal.returns-in-RangeSet-clause-matches
returns-in-RangeSet-clause-matches c =
    let arm = c.in-RangeSet in
    let is : c.args.self.now.inner ≡ inner.RangeSet arm.set = cc in
    own_back (λ scans. ScansFind scans.items (inner_means_with c.args.pre_release c.args.self.now.inner)) c.args.self.now.inner arm.set c.scans.result is (rw is c.scans.ensures.matches)
