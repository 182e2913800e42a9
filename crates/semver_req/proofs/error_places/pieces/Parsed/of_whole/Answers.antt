use Rattle.std.proofs.Common.{refl}
use Rattle.semver_req.specs.Causes.{whitespace}
use Rattle.semver_req.proofs.StrictRejections.{absent_rejection, followed_rejection, large_rejection, whole_range}
use Rattle.semver_req.proofs.error_places.pieces.Parsed.of_whole.Goals as goal
use Rattle.semver_req.proofs.error_places.pieces.Parsed.of_whole.Goals.{in-Absent, in-Absent-2, in-Followed, in-TooLarge}

pub returns-in-Range : goal.returns-in-Range
returns-in-Range c = whole_range (rw c.in-Range.is at c.in_ok-found.ensures)

pub of-requires-clause-rejected : goal.of-requires-clause-rejected
of-requires-clause-rejected c = elim c.match-found.branch [
  | in-Absent w ↦ rw w.rejection-is (whitespace (w.if-is_all_whitespace.ensures.0 refl))
  | in-Absent-2 w ↦ rw w.rejection-is (absent_rejection (rw w.in-Absent-2.is at c.in_ok-found.ensures) (λ k. cc (w.if-is_all_whitespace.ensures.1 k)))
  | in-Followed w ↦ rw w.rejection-is (followed_rejection (rw w.in-Followed.is at c.in_ok-found.ensures))
  | in-TooLarge w ↦ rw w.rejection-is (large_rejection (rw w.in-TooLarge.is at c.in_ok-found.ensures))
]
