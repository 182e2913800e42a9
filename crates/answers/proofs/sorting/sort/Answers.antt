use Rattle.std.proofs.lemmas.Result.{err_from_is_err_and}
use Rattle.answers.specs.AskingLaws.{by_value, by_fault}
use Rattle.answers.proofs.Sorted.{places_answer}
use Rattle.answers.specs.Asking.{OutOfMemory}
use Rattle.answers.proofs.sorting.sort.Goals as goal

pub returns-in_err-versions : goal.returns-in_err-versions
returns-in_err-versions c =
    let p = err_from_is_err_and c.from_residual.result c.from_residual.ensures.1 in
    rw (p.1, p.2) (by_fault _ _ _ _ c.in_err-versions.ensures)

pub returns : goal.returns
returns c = by_value _ _ _ _ c.in_ok-versions.ensures _ (places_answer c.args.order OutOfMemory _ _ c.in_ok-sorted_places.ensures.sorted c.in_ok-sorted_places.ensures.only)
