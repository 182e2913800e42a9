use Rattle.std.proofs.Common.{◌≡◌, ◌+◌, ◌++◌, ◌&&◌, [], ◌∷◌, Option, Some, None, take, refl, sym, ap, ◌∙◌, arith, rules}
use Rattle.std.proofs.lemmas.List.{length-take-le, take_all, take_more}
use Rattle.semver_req.specs.Requirement.{inner_means_with}
use Rattle.semver_base.specs.declared.version.Version.{Version}
use Rattle.semver_req.specs.ResolveSteps.{exceeds, known_of}
use Rattle.answers.specs.Questions.{better}
use Rattle.answers.specs.Filtering.{better_line, line_passes}
use Rattle.answers.proofs.BestLines.{known_line, line_exceeds, line_ranks}
use Rattle.answers.proofs.filtering.list_best.Goals as goal
use Rattle.answers.proofs.filtering.list_best.Goals.{in-Some+then-is_better, in-Some+else-is_better, in_default}

pub loop-place-preserved : goal.loop-place-preserved
loop-place-preserved c =
    let l = c.loop-place in
    let near = better_line c.args.end in
    let test = λ (v : Version). inner_means_with c.args.pre_release c.args.range.now.inner v in
    let passes = line_passes test in
    let walk = c.one_walk_finds_the_best.ensures near (line_ranks c.args.end) passes in
    let lines = c.args.lines.now in
    let seen = take l.place lines in
    let known = known_line l.best in
    let more : (line : Option Version) → c.index-lines-place.result ≡ line → take (l.place + 1) lines ≡ seen ++ line ∷ [] =
    λ line is. take_more lines l.place c.index-lines-place.result c.loop-place-test.true ∙ ap (λ it. seen ++ it ∷ []) (sym c.index-lines-place.is ∙ is) in
    elim c.match-line.branch [
      | in-Some+then-is_better w ↦
          let is : w.if-matches_with.is_better ≡ (test w.in-Some.version && exceeds (better c.args.end) w.in-Some.version (known_of l.best)) = search rules in
          rw (more (Some w.in-Some.version) w.in-Some.is, w.best-is)
          (walk.taken seen known l.place (Some w.in-Some.version) (length-take-le l.place lines (omega (arith, c.loop-place-test.true))) l.invariant
          (ap (λ b. test w.in-Some.version && b) (sym (line_exceeds c.args.end w.in-Some.version l.best)) ∙ sym is ∙ w.if-is_better.true))
      | in-Some+else-is_better w ↦
          let is : w.if-matches_with.is_better ≡ (test w.in-Some.version && exceeds (better c.args.end) w.in-Some.version (known_of l.best)) = search rules in
          rw (more (Some w.in-Some.version) w.in-Some.is, w.best-is)
          (walk.stays seen known (Some w.in-Some.version) l.invariant
          (ap (λ b. test w.in-Some.version && b) (sym (line_exceeds c.args.end w.in-Some.version l.best)) ∙ sym is ∙ w.if-is_better.false))
      | in_default w ↦ rw (more None w.in_default.is, w.best-is) (walk.stays seen known None l.invariant refl)
    ]

pub returns-in-Some-best-2-clause-only : goal.returns-in-Some-best-2-clause-only
returns-in-Some-best-2-clause-only c other k =
    let l = c.loop-place in
    let h = rw (take_all l.place c.args.lines.now c.loop-place-test.false, c.in-Some-best-2.is) at l.invariant in
    let means = line_passes (λ (v : Version). inner_means_with c.args.pre_release c.args.range.now.inner v) in
    (c.one_walk_finds_the_best.ensures (better_line c.args.end) (line_ranks c.args.end) means).only c.args.lines.now (Some c.in-Some-best-2.place) other (Some c.in-Some-best-2.field-0-1.now, h) k
