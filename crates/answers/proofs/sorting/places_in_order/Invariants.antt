use Rattle.std.proofs.Common.{◌≡◌, map, take}
use Rattle.answers.proofs.sorting.places_in_order.Given as goal

abbrev pub invariant-loop-it : goal.invariant-loop-it
invariant-loop-it l = l.places.items ≡ map (λ placed. placed.place) (take l.it-index l.sorted)
