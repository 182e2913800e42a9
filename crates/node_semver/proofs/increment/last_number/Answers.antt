use Rattle.std.proofs.Common.{◌≡◌, ◌∙◌, ◌+◌, ◌++◌, ◌∷◌, ℕ, List, [], take, length, ap, sym, arith, rules}
use Rattle.std.proofs.lemmas.List.{length-take-le, take_more}
use Rattle.semver_base.specs.Precedence.{number_of}
use Rattle.node_semver.specs.Increment.{last_of, number_at}
use Rattle.node_semver.proofs.Numbers.{last_more}
use Rattle.node_semver.proofs.increment.last_number.Goals as goal
use Rattle.node_semver.proofs.increment.last_number.Goals.{in-Some, in_default}

pub loop-place-preserved : goal.loop-place-preserved
loop-place-preserved c =
    let l = c.loop-place in
    let ids = c.args.identifiers.now in
    let x = c.index-identifiers-place.result in
    let more : take (l.place + 1) ids ≡ take l.place ids ++ x ∷ [] =
    take_more ids l.place x c.loop-place-test.true ∙ ap (λ (w : List ℕ). take l.place ids ++ w ∷ []) (sym c.index-identifiers-place.is) in
    let at : length (take l.place ids) ≡ l.place = length-take-le l.place ids (omega (arith, c.loop-place-test.true)) in
    let at : 0 + length (take l.place ids) ≡ l.place = omega (arith, at) in
    let is : c.match-number_of.last ≡ last_of l.last (number_at l.place c.number_of.result) = elim c.match-number_of.branch [
      | in-Some w ↦ search rules
      | in_default w ↦ search rules
    ] in rw (more, last_more 0 (take l.place ids) x, at) (is ∙ ap (λ n. last_of l.last (number_at l.place n)) c.number_of.ensures ∙ ap (λ before. last_of before (number_at l.place (number_of x))) l.invariant)
