use Rattle.std.proofs.Common.{◌≡◌, ◌∙◌, rules, sym}
use Rattle.std.proofs.lemmas.Fn.{always_returns_same}
use Rattle.std.proofs.lemmas.List.{at_drop_all}
use Rattle.semver_base.specs.Intervals.{gaps_after}
use Rattle.semver_base.proofs.Cuts.{beginnings_rank, begins_first, gaps_are, gaps_are_writable}
use Rattle.semver_base.proofs.range.intervals.push_gaps.Goals as goal

made : (c : goal.After-drop-intervals-2) → c.push-2.new.self.items ≡ gaps_after c.args.whole.high c.args.gaps.now.items c.args.whole.low c.sort_by.new.self.items
made c =
    let l = c.loop-interval in
    rw c.as_slice-sorted.ensures.value at (c.in_ok-push-2.ensures.items ∙ sym (at_drop_all (gaps_after c.args.whole.high l.gaps.items l.from) c.as_slice-sorted.result.now l.interval-index c.loop-interval-test.false) ∙ l.invariant)

pub returns-clause-holds : goal.returns-clause-holds
returns-clause-holds c =
    let ascends = c.in_ok-sort_by.ensures.sorted begins_first beginnings_rank (always_returns_same _ _ _ (λ a r f k. search rules)) in
    gaps_are c.args.whole c.requires c.args.gaps.now.items c.args.intervals.items c.sort_by.new.self.items c.push-2.new.self.items c.sort_by.ensures.permutation ascends (made c)

pub returns-clause-writable : goal.returns-clause-writable
returns-clause-writable c = gaps_are_writable c.args.whole c.requires c.args.gaps.now.items c.args.intervals.items c.sort_by.new.self.items c.push-2.new.self.items c.sort_by.ensures.permutation (made c)
