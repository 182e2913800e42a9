use Rattle.std.proofs.Common.{refl, rules}
use Rattle.semver_base.specs.Grammar.{IsAfterOne}
use Rattle.semver_base.specs.declared.partial.XRange.TheVariants.{Wildcard}
use Rattle.semver_req.specs.Partials.{is_wildcard}
use Rattle.semver_req.proofs.Components.{component_read, component_wildcard}
use Rattle.semver_req.proofs.common.component.Goals as goal

pub returns-in-Some-after_wildcard : goal.returns-in-Some-after_wildcard
returns-in-Some-after_wildcard c =
    let after : IsAfterOne (is_wildcard c.args.flavour) c.args.text.now c.match-after.after_wildcard = search rules in
    let w = rw c.in-Some-after_wildcard.is at after in
    record { value = Wildcard; longest = component_wildcard c.args.flavour w.0 c.args.text.now c.in-Some-after_wildcard.rest.now w.1 w.2; seen = refl }

pub returns-in-Fits-default : goal.returns-in-Fits-default
returns-in-Fits-default c =
    let after : IsAfterOne (is_wildcard c.args.flavour) c.args.text.now c.match-after.after_wildcard = search rules in
    component_read c.args.flavour c.args.text.now (rw c.in_default-after_wildcard.is at after) _ _ (rw (c.in-Fits-default.is-0, c.strictness.ensures) at c.in_ok-number.ensures)

pub returns-in-TooLarge-default : goal.returns-in-TooLarge-default
returns-in-TooLarge-default c =
    let after : IsAfterOne (is_wildcard c.args.flavour) c.args.text.now c.match-after.after_wildcard = search rules in
    component_read c.args.flavour c.args.text.now (rw c.in_default-after_wildcard.is at after) _ _ (rw (c.in-TooLarge-default.is-0, c.strictness.ensures) at c.in_ok-number.ensures)
