use Rattle.std.proofs.Common.{ap, rules}
use Rattle.semver_base.specs.declared.lexical.values.Qualifier.{Qualifier}
use Rattle.node_semver.specs.Identifiers.{IsNoPre}
use Rattle.node_semver.proofs.Whole.{left_over, same_pre, with_build}
use Rattle.node_semver.proofs.identifiers.identifiers.Goals as goal
use Rattle.node_semver.proofs.identifiers.identifiers.Goals.{else-is_empty-via-then-is_empty+else-is_empty-2, else-is_empty-via-else-is_empty}

pub returns-then-is_empty-2-clause-only : goal.returns-then-is_empty-2-clause-only
returns-then-is_empty-2-clause-only c identifiers is =
    ap (λ (q : Qualifier). q.pre) (same_pre _ _ _ c.in_ok-qualifier.ensures identifiers is)

pub returns-clause-rejected : goal.returns-clause-rejected
returns-clause-rejected c =
    let none : IsNoPre c.args.text.now = elim c.else-is_empty.branch [
      | else-is_empty-via-then-is_empty+else-is_empty-2 w ↦ with_build _ _ _ c.in_ok-qualifier.ensures (λ e. search rules)
      | else-is_empty-via-else-is_empty w ↦ left_over _ _ _ c.in_ok-qualifier.ensures (λ e. search rules)
    ] in search rules
