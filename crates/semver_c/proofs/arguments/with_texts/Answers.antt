use Rattle.std.proofs.Common.{Ok, refl, sym}
use Rattle.semver_c.specs.Given.{texts_given}
use Rattle.semver_c.specs.declared.arguments.WithTexts.{WithTexts}
use Rattle.semver_c.proofs.Asking.{argument_within, argument_without}
use Rattle.semver_c.proofs.arguments.with_texts.Goals as goal

pub returns-in_err-flavour : goal.returns-in_err-flavour
returns-in_err-flavour c = argument_without _ _ texts_given c.from_residual.result _ c.in_err-flavour.ensures c.from_residual.ensures.1

pub returns-in_err-one : goal.returns-in_err-one
returns-in_err-one c =
    argument_within _ _ texts_given c.from_residual-in_err-one.result _ c.in_ok-flavour.ensures
    (argument_without _ _ texts_given c.from_residual-in_err-one.result _ c.in_err-one.ensures c.from_residual-in_err-one.ensures.1)

pub returns-in_err-other : goal.returns-in_err-other
returns-in_err-other c =
    argument_within _ _ texts_given c.from_residual-in_err-other.result _ c.in_ok-flavour.ensures
    (argument_within _ _ texts_given c.from_residual-in_err-other.result _ c.in_ok-one.ensures
    (argument_without _ _ texts_given c.from_residual-in_err-other.result _ c.in_err-other.ensures c.from_residual-in_err-other.ensures.1))

pub returns : goal.returns
returns c =
    let given : WithTexts = record { flavour = c.in_ok-flavour.flavour; one = c.in_ok-one.one; other = c.in_ok-other.other } in
    argument_within _ _ texts_given (Ok given) _ c.in_ok-flavour.ensures
    (argument_within _ _ texts_given (Ok given) _ c.in_ok-one.ensures (argument_within _ _ texts_given (Ok given) _ c.in_ok-other.ensures (refl, λ o a. sym a)))
