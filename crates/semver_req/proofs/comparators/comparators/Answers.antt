use Rattle.std.proofs.Common.{refl, sym}
use Rattle.std.proofs.lemmas.Bool.{both_ways}
use Rattle.semver_req.specs.ComparatorLists.{of_hyphen, of_list, of_whitespace}
use Rattle.semver_req.proofs.ComparatorLists.{none_listed}
use Rattle.semver_req.proofs.PiecesRead.{more_follows, none_whole, whole_of}
use Rattle.semver_req.proofs.comparators.comparators.Goals as goal
use Rattle.semver_req.proofs.comparators.comparators.Goals.{in_default-2-via-in-Some-2+else-is_empty, in_default-2-via-in_default-2}

pub returns-then-is_everything : goal.returns-then-is_everything
returns-then-is_everything c =
    let everything = c.if-is_everything.ensures.0 refl in
    rw c.new.ensures.items (of_whitespace everything.0 everything.1)

pub returns-in-Some : goal.returns-in-Some
returns-in-Some c =
    let range = rw c.in-Some.is at c.in_ok-range.ensures in
    rw (c.in_ok-push.ensures.items, c.new-items.ensures.items, range.3) (of_hyphen range.1 range.2)

pub returns-in-Some-2 : goal.returns-in-Some-2
returns-in-Some-2 c = of_list (whole_of (rw c.in-Some-2.is at c.in_ok-rest.ensures) (sym c.if-is_empty.ensures))

pub returns : goal.returns
returns c = none_listed (λ i h. both_ways c.is_everything.result c.if-is_everything.false (c.is_everything.ensures.1 (i, h))) (rw c.in_default.is at c.in_ok-range.ensures) (elim c.in_default-2.branch [
  | in_default-2-via-in-Some-2+else-is_empty w ↦
      let list = rw w.in-Some-2.is at c.in_ok-rest.ensures in
      more_follows list (sym w.if-is_empty.ensures)
  | in_default-2-via-in_default-2 w ↦ none_whole (rw w.in_default-2.is at c.in_ok-rest.ensures)
])
