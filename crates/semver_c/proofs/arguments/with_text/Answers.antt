use Rattle.std.proofs.Common.{Ok, refl, sym}
use Rattle.semver_c.specs.Given.{text_given}
use Rattle.semver_c.specs.declared.arguments.WithText.{WithText}
use Rattle.semver_c.proofs.Asking.{argument_within, argument_without}
use Rattle.semver_c.proofs.arguments.with_text.Goals as goal

pub returns-in_err-flavour : goal.returns-in_err-flavour
returns-in_err-flavour c = argument_without _ _ text_given c.from_residual.result _ c.in_err-flavour.ensures c.from_residual.ensures.1

pub returns-in_err-text : goal.returns-in_err-text
returns-in_err-text c =
    argument_within _ _ text_given c.from_residual-in_err-text.result _ c.in_ok-flavour.ensures
    (argument_without _ _ text_given c.from_residual-in_err-text.result _ c.in_err-text.ensures c.from_residual-in_err-text.ensures.1)

pub returns : goal.returns
returns c =
    let given : WithText = record { flavour = c.in_ok-flavour.flavour; text = c.in_ok-text.text } in
    argument_within _ _ text_given (Ok given) _ c.in_ok-flavour.ensures (argument_within _ _ text_given (Ok given) _ c.in_ok-text.ensures (refl, λ o a. sym a))
