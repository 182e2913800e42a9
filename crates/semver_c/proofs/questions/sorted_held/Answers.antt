use Rattle.std.proofs.Common.{rules}
use Rattle.semver_c.proofs.Replies.{sorted_reply}
use Rattle.semver_c.proofs.questions.sorted_held.Goals as goal

pub returns-in-Some : goal.returns-in-Some
returns-in-Some c =
    rw c.in-Some.is (sorted_reply _ _ c.in-Some.lines.now c.sorted_lines.result c.map_err.result c.sorted_lines.ensures.sorted c.sorted_lines.ensures.only c.map_err.ensures.cases (λ e p made. search rules))
