use Rattle.std.proofs.Common.{◌≡◌, take, true}
use Rattle.std.specs.List.{list_any, All}
use Rattle.semver_base.specs.Intervals.{hold, AreWritableIntervals}
use Rattle.semver_base.specs.LowestVersion.{IsReadable}
use Rattle.semver_base.specs.Scans.{is_nonempty, lies_in}
use Rattle.semver_base.specs.SortKey.{sort_key}
use Rattle.semver_base.specs.declared.range.scans.Span.{Span}
use Rattle.semver_base.specs.declared.version.Version.{Version}
use Rattle.semver_base.proofs.range.scans.spans_of.Given as goal

-- the spans hold the keys of what the intervals so far hold
abbrev pub invariant-loop-interval : goal.invariant-loop-interval
invariant-loop-interval l = ((v : Version) → IsReadable v → AreWritableIntervals l.intervals → list_any (lies_in (sort_key v)) l.spans.items ≡ hold (take l.interval-index l.intervals) v)
    × All (λ (s : Span). is_nonempty s ≡ true) l.spans.items
