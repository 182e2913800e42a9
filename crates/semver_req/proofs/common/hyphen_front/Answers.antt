use Rattle.std.proofs.Common.{None, Some}
use Rattle.semver_base.specs.GrammarLaws.{joined_none_first, mapped_none}
use Rattle.semver_req.proofs.Hyphens.{hyphened_read, no_hyphen_operator, no_whitespace_after, no_whitespace_before, pair_none, pair_read, upper_read}
use Rattle.semver_req.proofs.common.hyphen_front.Goals as goal

pub returns-in_default-after_some_whitespace : goal.returns-in_default-after_some_whitespace
returns-in_default-after_some_whitespace c = pair_none (rw c.in-Some.is at c.in_ok-lower.ensures) (no_whitespace_before c.in_default-after_some_whitespace.ensures)

pub returns-in_default-after : goal.returns-in_default-after
returns-in_default-after c = pair_none (rw c.in-Some.is at c.in_ok-lower.ensures) (no_hyphen_operator c.in-Some-after_some_whitespace.ensures c.in_default-after.ensures)

pub returns-in_default-after_some_whitespace-2 : goal.returns-in_default-after_some_whitespace-2
returns-in_default-after_some_whitespace-2 c =
    pair_none (rw c.in-Some.is at c.in_ok-lower.ensures) (no_whitespace_after c.in-Some-after_some_whitespace.ensures c.in-Some-after.ensures c.in_default-after_some_whitespace-2.ensures)

pub returns-in-Some-2 : goal.returns-in-Some-2
returns-in-Some-2 c =
    let upper = upper_read (rw c.in-Some-2.is at c.in_ok-upper.ensures) c.after_whitespace.ensures in
    pair_read (rw c.in-Some.is at c.in_ok-lower.ensures)
    (hyphened_read c.in-Some-after_some_whitespace.ensures c.in-Some-after.ensures (Some (c.in-Some-2.upper, c.after_whitespace.result.now)) c.in-Some-after_some_whitespace-2.ensures upper)

pub returns-in-None : goal.returns-in-None
returns-in-None c =
    pair_none (rw c.in-Some.is at c.in_ok-lower.ensures)
    (hyphened_read c.in-Some-after_some_whitespace.ensures c.in-Some-after.ensures None c.in-Some-after_some_whitespace-2.ensures (mapped_none (joined_none_first (rw c.in-None.is at c.in_ok-upper.ensures))))
