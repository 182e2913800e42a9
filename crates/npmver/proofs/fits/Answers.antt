use Rattle.std.proofs.Common.{◌≡◌, rules, Err, Ok, arith, refl, string_bytes}
use Rattle.std.proofs.lemmas.List.{length-map}
use Rattle.std.proofs.lemmas.Bool.Decides.{nat_tests}
use Rattle.std.proofs.lemmas.Result.{err_from_is_err_and}
use Rattle.answers.specs.Asking.{fault_of}
use Rattle.answers.specs.Questions.{Matches}
use Rattle.npmver.specs.Question.{Prints}
use Rattle.npmver.specs.Reported.{reported_answer, reported_match}
use Rattle.npmver.specs.declared.Problem.TheVariants as problem
use Rattle.npmver.proofs.Reporting.{by_no_parser, by_parser, fits_asked, match_proper, no_fits, no_form, printed, three_texts}
use Rattle.npmver.proofs.fits.Goals as goal
use Rattle.npmver.proofs.fits.Goals.{in_default-via-then-arguments-lt3, in_default-via-else-arguments-lt3+else-arguments-lt4}

pub returns-in_default : goal.returns-in_default
returns-in_default c =
    let size = length-map c.args.arguments.now string_bytes in
    elim c.in_default.branch [
      | in_default-via-then-arguments-lt3 w ↦ no_form _ (no_fits c.args.pre_release _ (λ e. grind (arith, nat_tests)))
      | in_default-via-else-arguments-lt3+else-arguments-lt4 w ↦ no_form _ (no_fits c.args.pre_release _ (λ e. grind (arith, nat_tests)))
    ]

pub returns-in_default-flavour_of : goal.returns-in_default-flavour_of
returns-in_default-flavour_of c =
    let parser = string_bytes c.parser-item.result in
    let requirement = string_bytes c.requirement-item.result in
    let version = string_bytes c.version-item.result in
    let unknown = rw c.as_str.ensures.value at c.in_default-flavour_of.ensures in
    rw (three_texts string_bytes c.args.arguments.now _ _ _ (grind (arith, nat_tests)) c.parser-item.is c.requirement-item.is c.version-item.is)
    (fits_asked c.args.pre_release parser requirement version (Err problem.Usage) (by_no_parser parser (λ f. Prints reported_match (Matches c.args.pre_release f requirement version)) unknown))

pub returns-in_err-answer : goal.returns-in_err-answer
returns-in_err-answer c =
    let parser = string_bytes c.parser-item.result in
    let requirement = string_bytes c.requirement-item.result in
    let version = string_bytes c.version-item.result in
    let known = rw c.as_str.ensures.value at c.in-Some.ensures in
    let p = err_from_is_err_and c.from_residual.result c.from_residual.ensures.1 in
    let why = c.in_err-answer.field-0.0 in
    let outcome = rw (c.as_str-2.ensures.value, c.as_str-3.ensures.value) at c.in_err-answer.ensures in
    rw (p.1, p.2, three_texts string_bytes c.args.arguments.now _ _ _ (grind (arith, nat_tests)) c.parser-item.is c.requirement-item.is c.version-item.is)
    (fits_asked c.args.pre_release parser requirement version (Err (problem.Unanswered why)) (by_parser parser (λ f. Prints reported_match (Matches c.args.pre_release f requirement version)) c.in-Some.flavour known (Err (problem.Unanswered why))
    (printed reported_match _ match_proper (Err (fault_of why)) outcome (Err (problem.Unanswered why)) refl)))

pub returns : goal.returns
returns c =
    let is : reported_answer c.match-answer.line ≡ reported_match c.in_ok-answer.answer = search rules in
    let parser = string_bytes c.parser-item.result in
    let requirement = string_bytes c.requirement-item.result in
    let version = string_bytes c.version-item.result in
    let known = rw c.as_str.ensures.value at c.in-Some.ensures in
    let outcome = rw (c.as_str-2.ensures.value, c.as_str-3.ensures.value) at c.in_ok-answer.ensures in
    rw (three_texts string_bytes c.args.arguments.now _ _ _ (grind (arith, nat_tests)) c.parser-item.is c.requirement-item.is c.version-item.is)
    (fits_asked c.args.pre_release parser requirement version (Ok c.match-answer.line) (by_parser parser (λ f. Prints reported_match (Matches c.args.pre_release f requirement version)) c.in-Some.flavour known (Ok c.match-answer.line)
    (printed reported_match _ match_proper (Ok c.in_ok-answer.answer) outcome (Ok c.match-answer.line) is)))
