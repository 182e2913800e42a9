use Rattle.semver_req.proofs.ViableParts.{good_piece, rejected_piece}
use Rattle.semver_req.proofs.error_places.is_piece.Goals as goal

pub returns-in-Range : goal.returns-in-Range
returns-in-Range c = good_piece c.args.flavour c.args.sizes c.args.is_followed c.args.text.now (rw c.in-Range.is at c.in_ok-range.ensures)

pub returns-in-Invalid : goal.returns-in-Invalid
returns-in-Invalid c = rw c.is_in_grammar.ensures (rejected_piece c.args.flavour c.args.sizes c.args.is_followed c.args.text.now c.in-Invalid.rejection (rw c.in-Invalid.is at c.in_ok-range.ensures))
