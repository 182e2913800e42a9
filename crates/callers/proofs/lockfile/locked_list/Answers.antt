use Rattle.callers.specs.Lockfile.{IsLockedList}
use Rattle.deno_semver.specs.StoredList.{IsSortedFrom}
use Rattle.callers.proofs.Locking.{locked_of, locks_more}
use Rattle.callers.proofs.lockfile.locked_list.Goals as goal

pub returns-clause-npm : goal.returns-clause-npm
returns-clause-npm c h =
    let reqs = c.args.reqs.now in
    let s = c.in_ok-entry.ensures.read_again h in
    locks_more (λ read. IsSortedFrom s.again read.items) (λ read. IsLockedList reqs read.items) (λ read sorted. locked_of reqs s.again read.items s.are_stored sorted) c.reqs_from_json.result (c.reqs_from_json.ensures.answer s.again s.parses_to)
