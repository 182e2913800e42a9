use Rattle.std.proofs.Common.{◌∙◌, ap, option_copied, sym}
use Rattle.semver_c.proofs.Replies.{found_reply}
use Rattle.semver_c.proofs.questions.best_held.Goals as goal

pub returns-in-Some-list_best : goal.returns-in-Some-list_best
returns-in-Some-list_best c =
    let best = rw c.pre_release.ensures at c.in-Some-list_best.ensures.best in
    let only = rw c.pre_release.ensures at c.in-Some-list_best.ensures.only in
    rw (c.in-Some-Some.is-0, c.in-Some-Some.is-1) (found_reply c.args.end _ c.in-Some-Some.range.now.inner c.in-Some-Some.lines.now c.args.place.now c.in-Some-list_best.found (sym c.tag.ensures ∙ ap option_copied c.in_default-tag.is) best only)
