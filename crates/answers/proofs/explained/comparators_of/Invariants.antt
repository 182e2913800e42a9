use Rattle.std.proofs.Common.{◌≡◌, map}
use Rattle.semver_req.specs.ComparatorLists.{told}
use Rattle.answers.specs.Explained.{fitting, shown}
use Rattle.answers.proofs.explained.comparators_of.Given as goal

abbrev pub invariant-loop-item : goal.invariant-loop-item
invariant-loop-item l = map shown l.all.items ≡ fitting (map told l.yielded)
