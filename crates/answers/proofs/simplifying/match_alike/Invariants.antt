use Rattle.std.proofs.Common.{◌≡◌, drop}
use Rattle.std.specs.List.{list_all}
use Rattle.answers.specs.Simplifying.{match_alike}
use Rattle.answers.proofs.simplifying.match_alike.Given as goal

-- those so far match alike, so the rest decides
abbrev pub invariant-loop-version : goal.invariant-loop-version
invariant-loop-version l =
    let alike = match_alike l.pre_release l.one.inner l.other.inner in list_all alike (drop l.version-index l.versions) ≡ list_all alike l.versions
