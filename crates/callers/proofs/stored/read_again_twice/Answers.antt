use Rattle.std.proofs.lemmas.Result.{err_from_is_err_and}
use Rattle.callers.proofs.ReadAgain.{both_times, out_of_memory_is}
use Rattle.callers.proofs.stored.read_again_twice.Goals as goal

pub returns-in_err-twice : goal.returns-in_err-twice
returns-in_err-twice c =
    let p = err_from_is_err_and c.from_residual-in_err-twice.result c.from_residual-in_err-twice.ensures.1 in
    rw (p.1, p.2) (out_of_memory_is c.args.requirement.now.inner c.in_ok-once.once.inner _ c.in_ok-once.ensures.ranges c.in_err-twice.ensures.ranges)

pub returns : goal.returns
returns c = both_times c.args.requirement.now.inner c.in_ok-once.once.inner c.in_ok-twice.twice.inner c.in_ok-once.ensures.ranges c.in_ok-twice.ensures.ranges
