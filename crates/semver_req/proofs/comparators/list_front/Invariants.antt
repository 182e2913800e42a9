use Rattle.std.proofs.Common.{length, map}
use denote.Text.{Utf8}
use denote.Shadow.{shadow}
use Rattle.semver_base.specs.ListLaws.{SoFar}
use Rattle.semver_req.specs.ComparatorLists.{IsItem, told}
use Rattle.semver_req.specs.Pieces.{IsSeparator}
use Rattle.semver_req.proofs.comparators.list_front.Given as goal

abbrev pub invariant-loop-next : goal.invariant-loop-next
invariant-loop-next l = record {
  is_text : shadow (Utf8 l.rest);
  so_far : SoFar (IsItem l.flavour) (IsSeparator l.flavour) l.text (map told l.items.items) l.rest;
}

abbrev pub decreases-loop-next : goal.decreases-loop-next
decreases-loop-next l = length l.rest
