use Rattle.std.proofs.Common.{All, IsSorted, sym, subst}
use Rattle.callers.specs.Lockfile.{IsLockedList}
use Rattle.deno_semver.specs.ReqOrder.{req_cmp}
use Rattle.deno_semver.specs.Stored.{IsStableReq}
use Rattle.deno_semver.specs.StoredList.{AreEqualLists}
use Rattle.callers.proofs.Locking.{exit_locks}
use Rattle.callers.proofs.lockfile.locked_list_twice.Goals as goal

pub returns-in_err-twice-clause-once : goal.returns-in_err-twice-clause-once
returns-in_err-twice-clause-once c h =
    let once = c.in_ok-once.ensures.npm h in
    let same = sym c.as_slice.ensures.value in
    exit_locks (λ lists. IsLockedList c.args.reqs.now lists.0.items) c.from_residual-in_err-twice.result _ c.from_residual-in_err-twice.ensures.1
    (c.in_err-twice.ensures.stable (subst (All IsStableReq) same once.stable) (subst (IsSorted req_cmp) same once.is_sorted.ascending))

pub returns-in_err-twice-clause-twice : goal.returns-in_err-twice-clause-twice
returns-in_err-twice-clause-twice c h =
    let once = c.in_ok-once.ensures.npm h in
    let same = sym c.as_slice.ensures.value in
    exit_locks (λ lists. AreEqualLists lists.1.items lists.0.items) c.from_residual-in_err-twice.result _ c.from_residual-in_err-twice.ensures.1
    (c.in_err-twice.ensures.stable (subst (All IsStableReq) same once.stable) (subst (IsSorted req_cmp) same once.is_sorted.ascending))

pub returns-clause-twice : goal.returns-clause-twice
returns-clause-twice c h =
    let once = c.in_ok-once.ensures.npm h in
    let same = sym c.as_slice.ensures.value in
    subst (AreEqualLists c.in_ok-twice.twice.items) c.as_slice.ensures.value
    (c.in_ok-twice.ensures.stable (subst (All IsStableReq) same once.stable) (subst (IsSorted req_cmp) same once.is_sorted.ascending))
