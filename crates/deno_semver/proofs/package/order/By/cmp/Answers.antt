use Rattle.std.proofs.Common.{◌≡◌, ◌∙◌, ap₂, rules}
use Rattle.std.specs.Ordering.{ordering_then}
use Rattle.deno_semver.specs.ReqOrder.{start_cmp, end_cmp}
use Rattle.deno_semver.proofs.package.order.By.cmp.Goals.{in-Unbounded-Unbounded, in-Unbounded-Version, in-Version-Unbounded, in-Version-Version, in-Unbounded-Unbounded-2, in-Unbounded-Version-2, in-Version-Unbounded-2, in-Version-Version-2}
use Rattle.deno_semver.proofs.package.order.By.cmp.Goals as goal

pub returns-after-a-2 : goal.returns-after-a-2
returns-after-a-2 c =
    let starts : c.match-a.starts ≡ start_cmp c.args.a.now.start c.args.b.now.start = elim c.match-a.branch [
      | in-Unbounded-Unbounded w ↦ search rules
      | in-Unbounded-Version w ↦ search rules
      | in-Version-Unbounded w ↦ search rules
      | in-Version-Version w ↦ rw (w.in-Version-Version.is-0, w.in-Version-Version.is-1) (w.starts-is ∙ w.then-starts.ensures ∙ ap₂ ordering_then w.cmp_precedence.ensures.value w.cmp_kind.ensures)
    ] in
    let ends : c.match-a-2.ends ≡ end_cmp c.args.a.now.end c.args.b.now.end = elim c.match-a-2.branch [
      | in-Unbounded-Unbounded-2 w ↦ search rules
      | in-Unbounded-Version-2 w ↦ search rules
      | in-Version-Unbounded-2 w ↦ search rules
      | in-Version-Version-2 w ↦ rw (w.in-Version-Version-2.is-0, w.in-Version-Version-2.is-1) (w.ends-is ∙ w.then-ends.ensures ∙ ap₂ ordering_then w.cmp_precedence-in-Version-Version-2.ensures.value w.cmp_kind-in-Version-Version-2.ensures)
    ] in
    search rules
