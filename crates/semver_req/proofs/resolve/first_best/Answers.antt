use Rattle.std.proofs.Common.{rules, ◌≡◌, ◌&&◌, ◌+◌, ◌++◌, [], ◌∷◌, List, Some, take, sym, ap, ◌∙◌, arith}
use Rattle.std.proofs.lemmas.List.{length-take-le, take_all, take_more}
use Rattle.semver_base.specs.declared.version.Version.{Version}
use Rattle.semver_req.specs.Requirement.{inner_means_with}
use Rattle.semver_req.specs.ResolveSteps.{exceeds, known_of, nearer}
use Rattle.semver_req.proofs.BestMatches.{nearer_ranks, one_match, stays, taken}
use Rattle.semver_req.proofs.resolve.first_best.Goals as goal
use Rattle.semver_req.proofs.resolve.first_best.Goals.{then-is_better, else-is_better}

pub loop-place-preserved : goal.loop-place-preserved
loop-place-preserved c =
    let l = c.loop-place in
    let near = nearer c.args.end in
    let ranks = nearer_ranks c.args.end in
    let means = λ (v : Version). inner_means_with c.args.pre_release c.args.requirement.now.inner v in
    let seen : List Version = take l.place c.args.versions.now in
    let v : Version = c.index-versions-place.result in
    let more : take (l.place + 1) c.args.versions.now ≡ seen ++ v ∷ [] =
    take_more c.args.versions.now l.place v c.loop-place-test.true ∙ ap (λ (w : Version). seen ++ w ∷ []) (sym c.index-versions-place.is) in
    let is : c.if-matches_with.is_better ≡ (means v && exceeds near v (known_of l.best)) = search rules in
    elim c.if-is_better.branch [
      | then-is_better w ↦ rw (more, w.best-is) (taken near ranks means seen (known_of l.best) l.place v (length-take-le l.place c.args.versions.now (omega (arith, c.loop-place-test.true))) l.invariant (sym is ∙ w.if-is_better.true))
      | else-is_better w ↦ rw (more, w.best-is) (stays near ranks means seen (known_of l.best) v l.invariant (sym is ∙ w.if-is_better.false))
    ]

pub returns-in-Some-clause-only : goal.returns-in-Some-clause-only
returns-in-Some-clause-only c other k =
    let l = c.loop-place in
    let h = rw (take_all l.place c.args.versions.now c.loop-place-test.false, c.in-Some.is) at l.invariant in
    one_match (nearer c.args.end) (nearer_ranks c.args.end) (λ (v : Version). inner_means_with c.args.pre_release c.args.requirement.now.inner v) c.args.versions.now (Some c.in-Some.place) other (c.in-Some.field-0-1.now, h) k
