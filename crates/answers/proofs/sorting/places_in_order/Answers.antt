use Rattle.std.proofs.Common.{subst, sym, map, rules, take_all}
use Rattle.std.proofs.lemmas.Fn.{always_returns_same}
use Rattle.answers.specs.Sorting.{AreSortedPlaces, standing}
use Rattle.answers.specs.declared.sorting.Order.TheVariants.{Ascending, Descending}
use Rattle.answers.proofs.Sorted.{comes_before, only_places, placed_ranks, sorted_places}
use Rattle.answers.proofs.sorting.places_in_order.Goals as goal
use Rattle.answers.proofs.sorting.places_in_order.Goals.{in-Ascending+in_ok-sort_by-in-Ascending, in-Descending+in_ok-sort_by-in-Descending}

pub returns-clause-sorted : goal.returns-clause-sorted
returns-clause-sorted c =
    let all = c.args.all.items in
    let places = rw (take_all c.loop-it.it-index _ c.loop-it-test.false, c.as_slice-sorted.ensures.value) at c.loop-it.invariant in
    let sorted : AreSortedPlaces c.args.order (map standing all) (map (λ placed. placed.place) c.match-order.all.items) = elim c.match-order.branch [
      | in-Ascending+in_ok-sort_by-in-Ascending w ↦
          let ascends = w.in_ok-sort_by-in-Ascending.ensures.sorted (comes_before Ascending) (placed_ranks Ascending) (always_returns_same _ _ _ (λ a r f k. search rules)) in
          rw (w.in-Ascending.is, w.all-is) (sorted_places Ascending all w.sort_by.new.self.items w.sort_by.ensures.permutation ascends)
      | in-Descending+in_ok-sort_by-in-Descending w ↦
          let ascends = w.in_ok-sort_by-in-Descending.ensures.sorted (comes_before Descending) (placed_ranks Descending) (always_returns_same _ _ _ (λ a r f k. search rules)) in
          rw (w.in-Descending.is, w.all-is) (sorted_places Descending all w.sort_by-in-Descending.new.self.items w.sort_by-in-Descending.ensures.permutation ascends)
    ] in
    subst (AreSortedPlaces c.args.order (map standing all)) (sym places) sorted

pub returns-clause-only : goal.returns-clause-only
returns-clause-only c = only_places c.args.order c.ascending_arrangements_tie.ensures _ _ (returns-clause-sorted c)
