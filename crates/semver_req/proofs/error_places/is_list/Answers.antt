use Rattle.semver_req.proofs.ListedFronts.{good_list, no_list, rejected_list}
use Rattle.semver_req.proofs.error_places.is_list.Goals as goal

pub returns-in-Some-Range : goal.returns-in-Some-Range
returns-in-Some-Range c = good_list c.args.flavour c.args.sizes c.args.text.now (rw (c.in-Some-Range.is, c.in-Some-Range.field-0-is) at c.in_ok-range.ensures)

pub returns-in-Some-Invalid : goal.returns-in-Some-Invalid
returns-in-Some-Invalid c = rw c.is_in_grammar.ensures (rejected_list c.args.flavour c.args.sizes c.args.text.now c.in-Some-Invalid.rejection (rw (c.in-Some-Invalid.is, c.in-Some-Invalid.field-0-is) at c.in_ok-range.ensures))

pub returns-in-None : goal.returns-in-None
returns-in-None c = no_list c.args.flavour c.args.sizes c.args.text.now (rw c.in-None.is at c.in_ok-range.ensures)
