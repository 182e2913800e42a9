use Rattle.std.proofs.Common.{◌≡◌, ◌<◌, take, ◌==◌, if◌then◌else◌}
use Rattle.std.specs.Fmt.{HasWritten, IsPlainFormatter}
use Rattle.semver_base.specs.VersionText.{prefixed}
use Rattle.semver_base.proofs.version.write_prefixed.Given as goal

-- the next separator; and what is printed so far
abbrev pub invariant-loop-identifier : goal.invariant-loop-identifier
invariant-loop-identifier g l =
    (l.separator < 128) × (l.separator ≡ (if l.identifier-index == 0 then l.fn.prefix else 46))
    × (IsPlainFormatter l.initial.f → HasWritten g.W.Write.write_str_gives l.initial.f (prefixed l.fn.prefix (take l.identifier-index l.identifiers)) l.f)
