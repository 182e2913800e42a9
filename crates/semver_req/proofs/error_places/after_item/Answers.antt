use Rattle.std.proofs.Common.{sym}
use Rattle.semver_req.proofs.ListedFronts.{item_before}
use Rattle.semver_req.proofs.error_places.after_item.Goals as goal

pub returns : goal.returns
returns c =
    let front = rw c.in-Some.is at c.in_ok-written.ensures in
    item_before c.args.flavour c.args.sizes c.args.text.now c.in-Some.rest.now c.in-Some.written c.after_separator.result front (sym c.if-not-is_admitted.ensures) c.after_separator.ensures
