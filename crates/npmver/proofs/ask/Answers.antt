use Rattle.std.proofs.Common.{◌≡◌, ◌-◌, ◌∙◌, [], Err, Ok, arith, codes, drop, length, refl, string_bytes, sym, take}
use Rattle.std.proofs.lemmas.List.{length-map, nil_from_length}
use Rattle.std.proofs.lemmas.Result.{err_from_is_err_and}
use Rattle.std.proofs.lemmas.Bool.Decides.{nat_tests}
use Rattle.semver_base.specs.declared.range.PreRelease.{PreRelease}
use Rattle.semver_base.specs.declared.range.PreRelease.TheVariants.{Restricted, Admitted}
use Rattle.answers.specs.Asking.{fault_of}
use Rattle.answers.specs.Questions.{Canonical}
use Rattle.npmver.specs.Question.{Prints, matching_command}
use Rattle.npmver.specs.Reported.{Text, reported_whether}
use Rattle.npmver.specs.declared.Line.TheVariants as line
use Rattle.npmver.specs.declared.Problem.TheVariants as problem
use Rattle.npmver.proofs.Reporting.{by_no_parser, by_parser, first_text, meet_asked, no_arguments, no_command, no_form, no_meet, no_normal, normal_asked, printed, text_proper, two_texts, whether_proper}
use Rattle.npmver.proofs.ask.Goals as goal
use Rattle.npmver.proofs.ask.Goals.{in_default-arguments-via-then-arguments-lt2, in_default-arguments-via-else-arguments-lt2+else-arguments-lt3, in_default-arguments-2-via-then-arguments-lt2-2, in_default-arguments-2-via-else-arguments-lt2-2+else-arguments-lt3-2}

pub returns-in_default : goal.returns-in_default
returns-in_default c =
    let none : c.args.arguments.now ≡ [] = nil_from_length c.args.arguments.now (grind (arith, nat_tests)) in
    rw none (no_form [] no_arguments)

pub returns-in_default-as_str : goal.returns-in_default-as_str
returns-in_default-as_str c =
    let command = c.command-item.result in
    let is = c.as_str.ensures.value in
    rw (first_text string_bytes c.args.arguments.now command (grind (arith, nat_tests)) c.command-item.is)
    (no_form _ (no_command (string_bytes command) _ fits (λ e. c.in_default-as_str.not-best (is ∙ e)) (λ e. c.in_default-as_str.not-normal (is ∙ e)) (λ e. c.in_default-as_str.not-meet (is ∙ e))))
  where
    fits : (p : PreRelease) → string_bytes c.command-item.result ≡ matching_command p → ⊥
    fits Restricted e = c.in_default-as_str.not-fits (c.as_str.ensures.value ∙ e)
    fits Admitted e = c.in_default-as_str.not-text (c.as_str.ensures.value ∙ e)

pub returns-in_default-arguments : goal.returns-in_default-arguments
returns-in_default-arguments c =
    let texts = take (length c.args.arguments.now - 1) (drop 1 c.args.arguments.now) in
    let command : string_bytes c.command-item.result ≡ codes "normal" = sym c.as_str.ensures.value ∙ c.in-normal.is in
    let all = first_text string_bytes c.args.arguments.now c.command-item.result (grind (arith, nat_tests)) c.command-item.is in
    let size = length-map texts string_bytes in
    rw (all, command)
    (elim c.in_default-arguments.branch [
      | in_default-arguments-via-then-arguments-lt2 w ↦ no_form _ (no_normal _ (λ e. grind (arith, nat_tests)))
      | in_default-arguments-via-else-arguments-lt2+else-arguments-lt3 w ↦ no_form _ (no_normal _ (λ e. grind (arith, nat_tests)))
    ])

pub returns-in_default-flavour_of : goal.returns-in_default-flavour_of
returns-in_default-flavour_of c =
    let texts = take (length c.args.arguments.now - 1) (drop 1 c.args.arguments.now) in
    let command : string_bytes c.command-item.result ≡ codes "normal" = sym c.as_str.ensures.value ∙ c.in-normal.is in
    let all = first_text string_bytes c.args.arguments.now c.command-item.result (grind (arith, nat_tests)) c.command-item.is in
    let parser = string_bytes c.parser-item.result in
    let requirement = string_bytes c.requirement-item.result in
    let unknown = rw c.as_str-in-normal.ensures.value at c.in_default-flavour_of.ensures in
    rw (all, command, two_texts string_bytes texts _ _ (grind (arith, nat_tests)) c.parser-item.is c.requirement-item.is)
    (normal_asked parser requirement (Err problem.Usage) (by_no_parser parser (λ f. Prints Text (Canonical f requirement)) unknown))

pub returns-in_err-canonical-in-normal : goal.returns-in_err-canonical-in-normal
returns-in_err-canonical-in-normal c =
    let texts = take (length c.args.arguments.now - 1) (drop 1 c.args.arguments.now) in
    let command : string_bytes c.command-item.result ≡ codes "normal" = sym c.as_str.ensures.value ∙ c.in-normal.is in
    let all = first_text string_bytes c.args.arguments.now c.command-item.result (grind (arith, nat_tests)) c.command-item.is in
    let parser = string_bytes c.parser-item.result in
    let requirement = string_bytes c.requirement-item.result in
    let known = rw c.as_str-in-normal.ensures.value at c.in-Some.ensures in
    let p = err_from_is_err_and c.from_residual.result c.from_residual.ensures.1 in
    let why = c.in_err-canonical-in-normal.field-0.0 in
    let outcome = rw c.as_str-in-normal-2.ensures.value at c.in_err-canonical-in-normal.ensures in
    rw (p.1, p.2, all, command, two_texts string_bytes texts _ _ (grind (arith, nat_tests)) c.parser-item.is c.requirement-item.is)
    (normal_asked parser requirement (Err (problem.Unanswered why)) (by_parser parser (λ f. Prints Text (Canonical f requirement)) c.in-Some.flavour known (Err (problem.Unanswered why))
    (printed Text _ text_proper (Err (fault_of why)) outcome (Err (problem.Unanswered why)) refl)))

pub returns-in_ok-canonical-in-normal : goal.returns-in_ok-canonical-in-normal
returns-in_ok-canonical-in-normal c =
    let texts = take (length c.args.arguments.now - 1) (drop 1 c.args.arguments.now) in
    let command : string_bytes c.command-item.result ≡ codes "normal" = sym c.as_str.ensures.value ∙ c.in-normal.is in
    let all = first_text string_bytes c.args.arguments.now c.command-item.result (grind (arith, nat_tests)) c.command-item.is in
    let parser = string_bytes c.parser-item.result in
    let requirement = string_bytes c.requirement-item.result in
    let known = rw c.as_str-in-normal.ensures.value at c.in-Some.ensures in
    let text = c.in_ok-canonical-in-normal.field-0 in
    let outcome = rw c.as_str-in-normal-2.ensures.value at c.in_ok-canonical-in-normal.ensures in
    rw (all, command, two_texts string_bytes texts _ _ (grind (arith, nat_tests)) c.parser-item.is c.requirement-item.is)
    (normal_asked parser requirement (Ok (line.Text text)) (by_parser parser (λ f. Prints Text (Canonical f requirement)) c.in-Some.flavour known (Ok (line.Text text))
    (printed Text _ text_proper (Ok (string_bytes text)) outcome (Ok (line.Text text)) refl)))

pub returns-in_default-arguments-2 : goal.returns-in_default-arguments-2
returns-in_default-arguments-2 c =
    let texts = take (length c.args.arguments.now - 1) (drop 1 c.args.arguments.now) in
    let command : string_bytes c.command-item.result ≡ codes "meet" = sym c.as_str.ensures.value ∙ c.in-meet.is in
    let all = first_text string_bytes c.args.arguments.now c.command-item.result (grind (arith, nat_tests)) c.command-item.is in
    let size = length-map texts string_bytes in
    rw (all, command)
    (elim c.in_default-arguments-2.branch [
      | in_default-arguments-2-via-then-arguments-lt2-2 w ↦ no_form _ (no_meet _ (λ e. grind (arith, nat_tests)))
      | in_default-arguments-2-via-else-arguments-lt2-2+else-arguments-lt3-2 w ↦ no_form _ (no_meet _ (λ e. grind (arith, nat_tests)))
    ])

pub returns-in_err-overlap-in-meet : goal.returns-in_err-overlap-in-meet
returns-in_err-overlap-in-meet c =
    let texts = take (length c.args.arguments.now - 1) (drop 1 c.args.arguments.now) in
    let command : string_bytes c.command-item.result ≡ codes "meet" = sym c.as_str.ensures.value ∙ c.in-meet.is in
    let all = first_text string_bytes c.args.arguments.now c.command-item.result (grind (arith, nat_tests)) c.command-item.is in
    let p = err_from_is_err_and c.from_residual-in_err-overlap-in-meet.result c.from_residual-in_err-overlap-in-meet.ensures.1 in
    let why = c.in_err-overlap-in-meet.field-0.0 in
    let outcome = rw (c.as_str-in-meet.ensures.value, c.as_str-in-meet-2.ensures.value) at c.in_err-overlap-in-meet.ensures in
    rw (p.1, p.2, all, command, two_texts string_bytes texts _ _ (grind (arith, nat_tests)) c.one-item.is c.other-item.is)
    (meet_asked _ _ (Err (problem.Unanswered why)) (printed reported_whether _ whether_proper (Err (fault_of why)) outcome (Err (problem.Unanswered why)) refl))

pub returns-in_ok-overlap-in-meet : goal.returns-in_ok-overlap-in-meet
returns-in_ok-overlap-in-meet c =
    let texts = take (length c.args.arguments.now - 1) (drop 1 c.args.arguments.now) in
    let command : string_bytes c.command-item.result ≡ codes "meet" = sym c.as_str.ensures.value ∙ c.in-meet.is in
    let all = first_text string_bytes c.args.arguments.now c.command-item.result (grind (arith, nat_tests)) c.command-item.is in
    let outcome = rw (c.as_str-in-meet.ensures.value, c.as_str-in-meet-2.ensures.value) at c.in_ok-overlap-in-meet.ensures in
    rw (all, command, two_texts string_bytes texts _ _ (grind (arith, nat_tests)) c.one-item.is c.other-item.is)
    (meet_asked _ _ (Ok c.whether.result) (printed reported_whether _ whether_proper (Ok c.in_ok-overlap-in-meet.overlap) outcome (Ok c.whether.result) c.whether.ensures))
