use Rattle.std.proofs.Common.{rules, tests, ◌≡◌, ◌∙◌, IsUtf8, ap, length, sym, take}
use Rattle.std.specs.Char.{is_ascii_digit}
use Rattle.std.proofs.lemmas.Iterator.{YieldsList-from_slice}
use Rattle.std.proofs.lemmas.Iterator.Consumers.{count_from_yields_List}
use Rattle.std.proofs.lemmas.Iterator.Search.{YieldsList-from_take_while}
use Rattle.std.proofs.lemmas.List.{take_rest}
use Rattle.semver_base.specs.Precedence.{number_of}
use Rattle.node_semver.specs.Coerce.{leading_digits}
use Rattle.node_semver.proofs.Digits.{digits_taken, digits_utf8, no_number, number_found}
use Rattle.node_semver.proofs.Numbers.{parsed_number}
use Rattle.node_semver.proofs.coerce.leading_number.Goals as goal

pub returns-in_err-ok : goal.returns-in_err-ok
returns-in_err-ok c =
    let len : c.count-len.result ≡ length (leading_digits c.args.text.now) =
    count_from_yields_List c.take_while.result _ c.count-len.ensures.ran
    (YieldsList-from_take_while _ is_ascii_digit (YieldsList-from_slice c.args.text.now cc) c.take_while.ensures.closure c.take_while.ensures.done (λ x b q k. search (rules, tests))) in
    let utf8 : IsUtf8 (take c.count-len.result c.args.text.now) = digits_utf8 c.args.text.now c.count-len.result len in
    search rules

pub returns-in_err-number : goal.returns-in_err-number
returns-in_err-number c =
    let len : c.count-len.result ≡ length (leading_digits c.args.text.now) =
    count_from_yields_List c.take_while.result _ c.count-len.ensures.ran
    (YieldsList-from_take_while _ is_ascii_digit (YieldsList-from_slice c.args.text.now cc) c.take_while.ensures.closure c.take_while.ensures.done (λ x b q k. search (rules, tests))) in
    let same : c.in_ok-ok.field-0.now ≡ take c.count-len.result c.args.text.now = search rules in
    let digits : c.in_ok-ok.field-0.now ≡ leading_digits c.args.text.now = same ∙ (ap (λ n. take n c.args.text.now) len ∙ digits_taken c.args.text.now) in
    let number : c.ok-2.result ≡ number_of (leading_digits c.args.text.now) = c.ok-2.ensures.value ∙ (parsed_number _ _ c.parse.ensures.value.0 ∙ ap number_of digits) in
    rw c.from_residual-in_err-number.ensures (no_number c.args.text.now (sym c.in_err-number.was ∙ number))

pub returns : goal.returns
returns c =
    let len : c.count-len.result ≡ length (leading_digits c.args.text.now) =
    count_from_yields_List c.take_while.result _ c.count-len.ensures.ran
    (YieldsList-from_take_while _ is_ascii_digit (YieldsList-from_slice c.args.text.now cc) c.take_while.ensures.closure c.take_while.ensures.done (λ x b q k. search (rules, tests))) in
    let same : c.in_ok-ok.field-0.now ≡ take c.count-len.result c.args.text.now = search rules in
    let digits : c.in_ok-ok.field-0.now ≡ leading_digits c.args.text.now = same ∙ (ap (λ n. take n c.args.text.now) len ∙ digits_taken c.args.text.now) in
    let number : c.ok-2.result ≡ number_of (leading_digits c.args.text.now) = c.ok-2.ensures.value ∙ (parsed_number _ _ c.parse.ensures.value.0 ∙ ap number_of digits) in
    number_found c.args.text.now _ c.in_ok-number.number c.count-len.result len (sym c.in_ok-number.was ∙ number) (take_rest c.args.text.now c.count-len.result)
