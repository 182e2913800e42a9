use Rattle.std.proofs.Common.{◌∙◌, append_assoc}
use Rattle.semver_req.proofs.ListedFronts.{behind_on}
use Rattle.semver_req.proofs.error_places.is_piece_with.Goals as goal

pub is_piece_behind-requires : goal.is_piece_behind-requires
is_piece_behind-requires c = rw (c.deref.ensures ∙ c.in_ok-text.ensures.ok) (behind_on c.args.flavour c.args.sizes c.args.front.now c.args.prefix.now c.args.ending.now c.requires)

pub returns : goal.returns
returns c = rw (append_assoc c.args.front.now c.args.prefix.now c.args.ending.now) (rw (c.deref.ensures ∙ c.in_ok-text.ensures.ok) at c.is_piece_behind.ensures)
