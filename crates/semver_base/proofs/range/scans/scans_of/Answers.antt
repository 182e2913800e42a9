use Rattle.std.proofs.Common.{◌∙◌, ap, IfOk, Result, Ok, Err}
use Rattle.semver_base.specs.Intervals.{flag_of, some_means}
use Rattle.semver_base.specs.SortKey.{sort_key}
use Rattle.semver_base.proofs.ScanKinds.{flag_of_group, of_group}
use Rattle.semver_base.proofs.range.scans.scans_of.Goals as goal

lifted : {T E : Type 0} (P Q : T → Type 0) (r : Result T E) → ((x : T) → P x → Q x) → IfOk r P → IfOk r Q
lifted P Q (Ok x) f h = f x h
lifted P Q (Err e) f h = h

pub returns-clause-holds : goal.returns-clause-holds
returns-clause-holds c =
    let flag = c.args.pre_release in
    let ranges = c.args.ranges.now in
    let is = c.as_slice.ensures.value in
    let group = c.group-group.ensures in
    lifted _ _ c.merged.result (λ scans holds written v readable kind.
    holds (sort_key v) ∙ c.in_ok-spans.ensures.holds v readable (rw is (c.in_ok-intervals.ensures.writable written))
    ∙ rw is (c.in_ok-intervals.ensures.holds v (rw group (of_group flag c.args.is_pre v kind)))
    ∙ ap (λ f. some_means f ranges v) (ap flag_of group ∙ flag_of_group flag c.args.is_pre)) c.merged.ensures.holds
