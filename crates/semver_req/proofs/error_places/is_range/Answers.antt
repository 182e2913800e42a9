use Rattle.semver_req.proofs.ViableParts.{front_range, none_range}
use Rattle.semver_req.proofs.error_places.is_range.Goals as goal

pub returns-in_default : goal.returns-in_default
returns-in_default c = none_range c.args.sizes (rw c.in_default.is at c.in_ok-written.ensures)

pub returns-then-is_empty : goal.returns-then-is_empty
returns-then-is_empty c =
    front_range c.args.sizes c.if-is_empty.ensures c.is_admitted-is_admitted.ensures (rw c.in-Some.is at c.in_ok-written.ensures)

pub returns : goal.returns
returns c =
    front_range c.args.sizes c.if-is_empty.ensures c.is_admitted-is_admitted.ensures (rw c.in-Some.is at c.in_ok-written.ensures)
