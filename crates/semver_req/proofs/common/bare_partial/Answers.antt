use Rattle.semver_req.proofs.GrammarParts.{plain_dot}
use Rattle.semver_req.proofs.Partials.{one_read, three_read, two_read}
use Rattle.semver_req.proofs.common.bare_partial.Goals as goal

pub returns-in_default-dotted_component : goal.returns-in_default-dotted_component
returns-in_default-dotted_component c = rw (c.assembled-only.ensures, c.new.ensures) (one_read c.args.flavour c.in-Some.ensures c.in_default-dotted_component.ensures)

pub returns-in_default-dotted_component-2 : goal.returns-in_default-dotted_component-2
returns-in_default-dotted_component-2 c =
    let minor = c.in-Some-dotted_component.ensures in
    rw (c.assembled-two.ensures, c.new-in_default-dotted_component-2.ensures) (two_read c.args.flavour c.in-Some.ensures (plain_dot c.args.flavour) minor.1 minor.2 c.in_default-dotted_component-2.ensures)

pub returns : goal.returns
returns c =
    let minor = c.in-Some-dotted_component.ensures in
    let patch = c.in-Some-dotted_component-2.ensures in
    rw c.assembled.ensures (three_read c.args.flavour c.in-Some.ensures (plain_dot c.args.flavour) minor.1 minor.2 (plain_dot c.args.flavour) patch.1 patch.2 (rw c.strictness.ensures at c.in_ok-qualifier.ensures))
