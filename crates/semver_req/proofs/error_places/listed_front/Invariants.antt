-- The comparators so far, two or more, and the front that is known: nothing, or all but the last of them.
use Rattle.std.proofs.Common.{◌≡◌, ◌++◌, ℕ, List, length}
use denote.Text.{Utf8}
use denote.Shadow.{shadow}
use Rattle.semver_req.specs.Fronts.{IsListedAt}
use Rattle.semver_req.proofs.ListedFronts.{IsLong}
use Rattle.semver_req.proofs.error_places.listed_front.Given as goal

abbrev pub invariant-loop-next : goal.invariant-loop-next
invariant-loop-next l = record {
  is_text : shadow (Utf8 l.rest);
  done : List ℕ;
  text_is : l.text ≡ done ++ l.rest;
  long : IsLong l.flavour l.sizes done;
  listed : IsListedAt l.flavour l.sizes l.text l.front;
}

abbrev pub decreases-loop-next : goal.decreases-loop-next
decreases-loop-next l = length l.rest
