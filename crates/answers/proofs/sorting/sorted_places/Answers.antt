use Rattle.std.proofs.Common.{refl, take_all}
use Rattle.answers.proofs.Sorted.{next_standing}
use Rattle.answers.proofs.sorting.sorted_places.Goals as goal

pub loop-place-preserved : goal.loop-place-preserved
loop-place-preserved c =
    let l = c.loop-place in
    next_standing l.all.items c.push.new.self.items c.as_slice-listed.result.now l.place _ c.in_ok-push.ensures.items refl c.index-listed-place.is c.loop-place-test.true l.invariant

pub returns-clause-sorted : goal.returns-clause-sorted
returns-clause-sorted c =
    let l = c.loop-place in
    let all = rw (take_all l.place c.as_slice-listed.result.now c.loop-place-test.false, c.as_slice-listed.ensures.value) at l.invariant in
    rw all at c.places_in_order.ensures.sorted

pub returns-clause-only : goal.returns-clause-only
returns-clause-only c =
    let l = c.loop-place in
    let all = rw (take_all l.place c.as_slice-listed.result.now c.loop-place-test.false, c.as_slice-listed.ensures.value) at l.invariant in
    rw all at c.places_in_order.ensures.only
