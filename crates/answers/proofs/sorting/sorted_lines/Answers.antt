use Rattle.std.proofs.Common.{◌∙◌, ap, map, refl, take_all}
use Rattle.answers.specs.Sorting.{standing}
use Rattle.answers.proofs.Sorted.{next_line, no_line}
use Rattle.answers.proofs.sorting.sorted_lines.Goals as goal
use Rattle.answers.proofs.sorting.sorted_lines.Goals.{in-Some+in_ok-push, in_default}

pub loop-place-preserved : goal.loop-place-preserved
loop-place-preserved c =
    let l = c.loop-place in
    let line = c.index-lines-place in
    let lines = c.args.lines.now in
    elim c.match-line.branch [
      | in-Some+in_ok-push w ↦ ap (λ all. map standing all.items) w.all-is ∙ next_line lines l.place line.result line.is c.loop-place-test.true l.all.items w.push.new.self.items _ w.in_ok-push.ensures.items refl w.in-Some.is l.invariant
      | in_default w ↦ ap (λ all. map standing all.items) w.all-is ∙ l.invariant ∙ no_line lines l.place line.result line.is c.loop-place-test.true w.in_default.is
    ]

pub returns-clause-sorted : goal.returns-clause-sorted
returns-clause-sorted c =
    let l = c.loop-place in
    let all = rw (take_all l.place c.args.lines.now c.loop-place-test.false) at l.invariant in
    rw all at c.places_in_order.ensures.sorted

pub returns-clause-only : goal.returns-clause-only
returns-clause-only c =
    let l = c.loop-place in
    let all = rw (take_all l.place c.args.lines.now c.loop-place-test.false) at l.invariant in
    rw all at c.places_in_order.ensures.only
