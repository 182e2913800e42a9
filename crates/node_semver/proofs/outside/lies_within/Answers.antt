use Rattle.std.proofs.Common.{IfOk, Result, Ok, Err}
use Rattle.node_semver.proofs.Inside.{all_writable, bounds_exact, bounds_reported}
use Rattle.node_semver.proofs.outside.lies_within.Goals as goal

lifted : {T E : Type 0} (P Q : T → Type 0) (r : Result T E) → ((x : T) → P x → Q x) → IfOk r P → IfOk r Q
lifted P Q (Ok x) f h = f x h
lifted P Q (Err e) f h = h

pub returns-clause-value : goal.returns-clause-value
returns-clause-value c =
    let flag = c.args.pre_release in
    let ranges = c.args.set.now.0 in
    lifted _ _ c.is_subset.result (bounds_reported c.clamped_ranges_mean_both.ensures flag c.args.range.now ranges) (rw c.in_ok-inside.ensures at c.is_subset.ensures.value)

pub returns-clause-exact : goal.returns-clause-exact
returns-clause-exact c =
    let flag = c.args.pre_release in
    let ranges = c.args.set.now.0 in
    lifted _ _ c.is_subset.result (λ reported h own range. bounds_exact c.clamped_ranges_mean_both.ensures flag c.args.range.now ranges reported (h own (all_writable c.args.range.now ranges own range))) (rw c.in_ok-inside.ensures at c.is_subset.ensures.exact)
