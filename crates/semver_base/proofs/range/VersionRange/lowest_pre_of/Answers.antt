use Rattle.std.proofs.Common.{◌≡◌, ◌&&◌, ◌∙◌, ap, subst, sym}
use Rattle.std.proofs.Math.Bool.{or-false}
use Rattle.semver_base.specs.Intervals.{is_within}
use Rattle.semver_base.specs.Meaning.{bounds_hold, has_pre_of}
use Rattle.semver_base.specs.NormalText.{IsWritableBound}
use Rattle.semver_base.specs.declared.range.RangeBound.TheVariants as bound
use Rattle.semver_base.specs.declared.version.Version.{Version}
use Rattle.semver_base.proofs.PreMatches.{admitted_lowest, none_admitted}
use Rattle.semver_base.proofs.range.VersionRange.lowest_pre_of.Goals as goal

pub returns-then-not-admits_pre : goal.returns-then-not-admits_pre
returns-then-not-admits_pre c = rw c.in-Version.is (none_admitted c.args.self.now c.in-Version.other _ (sym c.admits_pre.ensures ∙ c.if-not-admits_pre.true))

pub returns : goal.returns
returns c =
    let range = c.args.self.now in
    let i = c.in-Some.interval in
    let holds : (v : Version) → is_within i v ≡ (has_pre_of (bound.Version c.in-Version.other) v && bounds_hold range v) = λ v.
    rw c.in-Version.is at (sym (or-false (is_within i v)) ∙ c.in-Some.ensures.holds v ∙ ap (λ within. has_pre_of c.args.bound.now v && within) (c.of.ensures.holds v)) in
    rw c.in-Version.is (admitted_lowest range c.in-Version.other _ _ i c.first.result (sym c.admits_pre.ensures ∙ c.if-not-admits_pre.false) holds
    (λ written. c.in-Some.ensures.low (c.of.ensures.low written.0) (subst IsWritableBound (sym c.in-Version.is) written.1)) c.first.ensures)
