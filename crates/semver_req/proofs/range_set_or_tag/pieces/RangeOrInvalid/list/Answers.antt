use Rattle.std.proofs.Common.{sym}
use Rattle.semver_base.specs.ListLaws.{listed_none}
use Rattle.semver_req.proofs.PiecesRead.{list_read, more_follows, none_whole, only_read}
use Rattle.semver_req.proofs.range_set_or_tag.pieces.RangeOrInvalid.list.Goals as goal

pub returns-in_default : goal.returns-in_default
returns-in_default c = none_whole (listed_none (rw c.in_default.is at c.in_ok-first.ensures))

pub returns-then-is_empty : goal.returns-then-is_empty
returns-then-is_empty c =
    let front = rw c.in-Some.is at c.in_ok-first.ensures in
    only_read c.args.flavour front (sym c.if-is_empty.ensures) (c.in_ok-of_one.ensures front.partial front.seen)

pub returns-then-not-is_empty : goal.returns-then-not-is_empty
returns-then-not-is_empty c =
    let front = rw c.in-Some.is at c.in_ok-first.ensures in
    let list = c.in_ok-read.ensures c.args.piece.now front in
    more_follows list.longest (sym c.if-not-is_empty.ensures)

pub returns : goal.returns
returns c =
    let front = rw c.in-Some.is at c.in_ok-first.ensures in
    let list = c.in_ok-read.ensures c.args.piece.now front in
    list_read c.args.flavour list.longest list.seen (sym c.if-not-is_empty.ensures)
