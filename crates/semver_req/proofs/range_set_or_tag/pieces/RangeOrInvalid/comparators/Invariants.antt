use Rattle.std.proofs.Common.{◌≡◌, ℕ, List, ◌∷◌, length}
use denote.Text.{Utf8}
use denote.Shadow.{shadow}
use Rattle.semver_base.specs.Comparators.{Comparator}
use Rattle.semver_base.specs.declared.partial.Partial.{Partial}
use Rattle.semver_base.specs.ListLaws.{SoFar}
use Rattle.semver_req.specs.Comparators.{IsComparator}
use Rattle.semver_req.specs.Partials.{sized_partial}
use Rattle.semver_req.specs.PieceReading.{joined}
use Rattle.semver_req.specs.Pieces.{IsSeparator}
use Rattle.semver_req.specs.Written.{IsFront, comparator_of}
use Rattle.semver_req.proofs.range_set_or_tag.pieces.RangeOrInvalid.comparators.Given as goal

abbrev pub invariant-loop-next : goal.invariant-loop-next
invariant-loop-next l = record {
  is_text : shadow (Utf8 l.rest);
  others : List Comparator;
  so_far : (piece : List ℕ) (front : IsFront (IsComparator l.flavour) piece l.fn.first l.text) → SoFar (IsComparator l.flavour) (IsSeparator l.flavour) piece (comparator_of l.fn.first.operator front.partial ∷ others) l.rest;
  read : (p : Partial) → l.fn.first.partial ≡ sized_partial p → l.read ≡ joined (comparator_of l.fn.first.operator p ∷ others);
}

abbrev pub decreases-loop-next : goal.decreases-loop-next
decreases-loop-next l = length l.rest
