use Rattle.std.proofs.Common.{length}
use denote.Text.{Utf8}
use denote.Shadow.{shadow}
use Rattle.semver_req.proofs.NpmComparators.{EqualsSoFar}
use Rattle.semver_req.proofs.common.comparator.npm_by_operator.Given as goal

abbrev pub invariant-loop-next : goal.invariant-loop-next
invariant-loop-next l = record {
  is_text : shadow (Utf8 l.rest);
  so_far : EqualsSoFar l.initial.rest l.rest;
}

abbrev pub decreases-loop-next : goal.decreases-loop-next
decreases-loop-next l = length l.rest
