use Rattle.std.proofs.Common.{rules, ◌≡◌, ◌&&◌, ◌+◌, ◌++◌, [], ◌∷◌, List, Some, take, sym, ap, ◌∙◌, arith}
use Rattle.std.proofs.lemmas.List.{length-take-le, take_all, take_more}
use Rattle.std.proofs.lemmas.List.MinMax.{IsStrictWeakOrder-flip, ranks_by}
use Rattle.std.specs.Cmp.{IsStrictWeakOrder}
use Rattle.semver_base.specs.PrecedenceLaws.{precedence_total}
use Rattle.semver_base.specs.declared.version.Version.{Version}
use Rattle.semver_req.specs.Resolve.{higher, lower}
use Rattle.semver_req.specs.ResolveSteps.{exceeds, known_of}
use Rattle.answers.specs.Outdated.{counts}
use Rattle.answers.proofs.outdated.highest.Goals as goal
use Rattle.answers.proofs.outdated.highest.Goals.{then-is_better, else-is_better}

higher_ranks : IsStrictWeakOrder higher
higher_ranks = IsStrictWeakOrder-flip lower (ranks_by precedence_total (λ (v : Version). v))

pub loop-place-preserved : goal.loop-place-preserved
loop-place-preserved c =
    let l = c.loop-place in
    let means = counts c.args.pre_release c.args.range.now.inner in
    let walk = c.one_walk_finds_the_best.ensures higher higher_ranks means in
    let seen : List Version = take l.place c.args.versions.now in
    let v : Version = c.index-versions-place.result in
    let more : take (l.place + 1) c.args.versions.now ≡ seen ++ v ∷ [] =
    take_more c.args.versions.now l.place v c.loop-place-test.true ∙ ap (λ (w : Version). seen ++ w ∷ []) (sym c.index-versions-place.is) in
    let is : c.if-counts.is_better ≡ (means v && exceeds higher v (known_of l.best)) = search rules in
    elim c.if-is_better.branch [
      | then-is_better w ↦ rw (more, w.best-is) (walk.taken seen (known_of l.best) l.place v (length-take-le l.place c.args.versions.now (omega (arith, c.loop-place-test.true))) l.invariant (sym is ∙ w.if-is_better.true))
      | else-is_better w ↦ rw (more, w.best-is) (walk.stays seen (known_of l.best) v l.invariant (sym is ∙ w.if-is_better.false))
    ]

pub returns-in-Some-best-clause-only : goal.returns-in-Some-best-clause-only
returns-in-Some-best-clause-only c other k =
    let l = c.loop-place in
    let h = rw (take_all l.place c.args.versions.now c.loop-place-test.false, c.in-Some-best.is) at l.invariant in
    (c.one_walk_finds_the_best.ensures higher higher_ranks (counts c.args.pre_release c.args.range.now.inner)).only c.args.versions.now (Some c.in-Some-best.place) other (c.in-Some-best.field-0-1.now, h) k
