use Rattle.std.proofs.Common.{◌≡◌, ◌++◌, drop}
use Rattle.std.specs.String.{string_bytes}
use Rattle.semver_base.specs.SortKey.{identifiers_key}
use Rattle.semver_base.proofs.sort_key.push_identifiers.Given as goal

-- what is appended so far, and the keys of the identifiers that are left
abbrev pub invariant-loop-identifier : goal.invariant-loop-identifier
invariant-loop-identifier l =
    string_bytes l.key ++ identifiers_key (drop l.identifier-index l.identifiers) ≡ string_bytes l.initial.key ++ identifiers_key l.identifiers
