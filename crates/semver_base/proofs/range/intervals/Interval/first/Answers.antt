use Rattle.std.proofs.Common.{◌∙◌, sym}
use Rattle.semver_base.proofs.LowestFirst.{crossed_none, interval_none, interval_past, interval_some, not_less}
use Rattle.semver_base.proofs.range.intervals.Interval.first.Goals as goal

pub returns-then-ne : goal.returns-then-ne
returns-then-ne c = crossed_none c.args.group c.args.self (rw c.compare.ensures at (not_less c.compare.result (sym c.ne.ensures ∙ c.if-ne.true)))

pub returns-in_default : goal.returns-in_default
returns-in_default c = interval_none c.args.group c.args.self c.in_ok-first.field-0 c.in_ok-first.ensures c.in_default.is

pub returns-then-is_from : goal.returns-then-is_from
returns-then-is_from c = interval_past c.args.group c.args.self c.in_ok-first.field-0 c.in_ok-first.ensures c.in-Some.first c.in-Some.is (sym c.is_from.ensures ∙ c.if-is_from.true)

pub returns : goal.returns
returns c = interval_some c.args.group c.args.self c.in_ok-first.field-0 c.in_ok-first.ensures c.in-Some.first c.in-Some.is (sym c.is_from.ensures ∙ c.if-is_from.false)
