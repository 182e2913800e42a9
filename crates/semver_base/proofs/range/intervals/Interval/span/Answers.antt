use Rattle.std.proofs.Common.{◌∙◌, ap, is_lt, sym}
use Rattle.semver_base.proofs.ScanKeys.{span_holds, span_none}
use Rattle.semver_base.proofs.range.intervals.Interval.span.Goals as goal

pub returns-then-is_lt-clause-holds : goal.returns-then-is_lt-clause-holds
returns-then-is_lt-clause-holds c = span_holds c.args.self _ _ c.in_ok-low.ensures c.in_ok-high.ensures

pub returns-clause-holds : goal.returns-clause-holds
returns-clause-holds c = span_none c.args.self _ _ c.in_ok-low.ensures c.in_ok-high.ensures (ap is_lt (sym c.cmp.ensures) ∙ sym c.is_lt.ensures ∙ c.if-is_lt.false)
