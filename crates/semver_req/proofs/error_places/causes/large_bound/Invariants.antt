use Rattle.std.proofs.Common.{◌≡◌, List, false, length}
use Rattle.std.specs.List.{list_any}
use denote.Text.{Utf8}
use denote.Shadow.{shadow}
use Rattle.semver_base.specs.Comparators.{Comparator}
use Rattle.semver_base.specs.ListLaws.{SoFar}
use Rattle.semver_req.specs.Causes.{overflows}
use Rattle.semver_req.specs.Comparators.{IsComparator}
use Rattle.semver_req.specs.Pieces.{IsSeparator}
use Rattle.semver_req.proofs.LargeBounds.{Reaches}
use Rattle.semver_req.proofs.error_places.causes.large_bound.Given as goal

abbrev pub invariant-loop-next : goal.invariant-loop-next
invariant-loop-next l = record {
  is_text : shadow (Utf8 l.rest);
  items : List Comparator;
  so_far : SoFar (IsComparator l.flavour) (IsSeparator l.flavour) l.piece items l.rest;
  none : list_any overflows items ≡ false;
  reaches : Reaches l.flavour l.piece l.rest;
}

abbrev pub decreases-loop-next : goal.decreases-loop-next
decreases-loop-next l = length l.rest
