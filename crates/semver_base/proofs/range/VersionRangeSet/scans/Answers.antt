use Rattle.std.proofs.Common.{◌∙◌, ap, subst, sym}
use Rattle.semver_base.specs.Intervals.{some_means}
use Rattle.semver_base.specs.Meaning.{any_alternatives}
use Rattle.semver_base.specs.NormalText.{AreWritableRanges}
use Rattle.semver_base.proofs.ScanKinds.{both_find, both_sorted}
use Rattle.semver_base.proofs.range.VersionRangeSet.scans.Goals as goal

pub returns-clause-matches : goal.returns-clause-matches
returns-clause-matches c = λ written v readable.
    let flag = c.args.pre_release in
    let ranges = c.as_slice-ranges.result.now in
    let is = c.as_slice-ranges.ensures in
    let scans = c.in_ok-scans in
    let others = c.in_ok-others in
    rw c.in_ok-append.ensures.items (both_find v scans.scans.items others.others.items (some_means flag ranges v) scans.ensures.kind others.ensures.kind
    (scans.ensures.holds (subst AreWritableRanges (sym is) written) v readable) (others.ensures.holds (subst AreWritableRanges (sym is) written) v readable) ∙ ap (λ rs. some_means flag rs v) is ∙ any_alternatives flag c.args.self.now.0 v)

pub returns-clause-sorted : goal.returns-clause-sorted
returns-clause-sorted c =
    let scans = c.in_ok-scans in
    let others = c.in_ok-others in
    rw c.in_ok-append.ensures.items (both_sorted scans.scans.items others.others.items scans.ensures.kind others.ensures.kind scans.ensures.sorted others.ensures.sorted)
