use Rattle.std.proofs.Common.{◌∙◌, append_assoc}
use Rattle.semver_req.proofs.ListedFronts.{stands_on}
use Rattle.semver_req.proofs.error_places.is_viable_with.Goals as goal

pub is_viable-requires : goal.is_viable-requires
is_viable-requires c = rw (c.deref.ensures ∙ c.in_ok-text.ensures.ok) (stands_on c.args.grammar c.args.front.now c.args.prefix.now c.args.next.now c.requires)

pub returns : goal.returns
returns c = rw (append_assoc c.args.front.now c.args.prefix.now c.args.next.now) (rw (c.deref.ensures ∙ c.in_ok-text.ensures.ok) at c.is_viable.ensures)
