use Rattle.std.proofs.Common.{◌≡◌, ◌++◌, drop, map}
use Rattle.std.specs.List.{All}
use Rattle.std.specs.String.{string_bytes}
use Rattle.semver_base.specs.declared.range.scans.Scan.{Scan}
use Rattle.semver_base.proofs.MergedSpans.{keys_of, merge_keys}
use Rattle.semver_base.proofs.range.scans.merged.Given as goal

-- the scans so far, and what the rest comes to
abbrev pub invariant-loop-span : goal.invariant-loop-span
invariant-loop-span l = All (λ (s : Scan). s.is_pre ≡ l.is_pre) l.scans.items
    × (map keys_of l.scans.items ++ merge_keys (string_bytes l.low) (string_bytes l.high) (drop l.span-index l.others) ≡ merge_keys (string_bytes l.initial.low) (string_bytes l.initial.high) l.others)
