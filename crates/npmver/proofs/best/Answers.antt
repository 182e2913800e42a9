use Rattle.std.proofs.Common.{◌≡◌, ◌-◌, Err, Ok, Result, arith, drop, length, map, refl, rules, string_bytes, take}
use Rattle.std.proofs.lemmas.Iterator.{YieldsList-from_map_by, YieldsList-from_slice}
use Rattle.std.proofs.lemmas.Iterator.Consumers.{YieldsList-at, map_from_collect}
use Rattle.std.proofs.lemmas.List.{length-map}
use Rattle.std.proofs.lemmas.Bool.Decides.{nat_tests}
use Rattle.std.proofs.lemmas.Result.{err_from_is_err_and}
use Rattle.semver_base.specs.declared.range.PreRelease.TheVariants.{Restricted}
use Rattle.answers.specs.Asking.{fault_of}
use Rattle.answers.specs.Questions.{BestMatch}
use Rattle.answers.specs.declared.questions.End.TheVariants.{Highest}
use Rattle.answers.specs.declared.asking.Problem.TheVariants as unanswered
use Rattle.npmver.specs.Question.{Prints}
use Rattle.npmver.specs.Reported.{reported_answer, reported_best}
use Rattle.npmver.specs.declared.Line.{Line}
use Rattle.npmver.specs.declared.Problem.{Problem}
use Rattle.npmver.specs.declared.Problem.TheVariants as problem
use Rattle.npmver.proofs.Reporting.{best_asked, best_proper, by_no_parser, by_parser, no_best, no_form, printed, ran_out, two_first}
use Rattle.npmver.proofs.best.Goals as goal

pub returns-in_default : goal.returns-in_default
returns-in_default c =
    let size = length-map c.args.arguments.now string_bytes in
    no_form _ (no_best _ (grind (arith, nat_tests)))

pub returns-then-is_empty : goal.returns-then-is_empty
returns-then-is_empty c =
    let size = length-map c.args.arguments.now string_bytes in
    no_form _ (no_best _ (grind (arith, nat_tests)))

pub returns-in_default-flavour_of : goal.returns-in_default-flavour_of
returns-in_default-flavour_of c =
    let parser = string_bytes c.parser-item.result in
    let requirement = string_bytes c.requirement-item.result in
    let rest = take (length c.args.arguments.now - 2) (drop 2 c.args.arguments.now) in
    let size = length-map rest string_bytes in
    let unknown = rw c.as_str.ensures.value at c.in_default-flavour_of.ensures in
    rw (two_first string_bytes c.args.arguments.now _ _ c.in-len2-up.len_at_least c.parser-item.is c.requirement-item.is)
    (best_asked parser requirement (map string_bytes rest) (grind (arith, nat_tests)) (Err problem.Usage) (by_no_parser parser (λ f. Prints reported_best (BestMatch Highest Restricted f requirement (map string_bytes rest))) unknown))

pub returns-in_err-versions : goal.returns-in_err-versions
returns-in_err-versions c =
    let parser = string_bytes c.parser-item.result in
    let requirement = string_bytes c.requirement-item.result in
    let rest = take (length c.args.arguments.now - 2) (drop 2 c.args.arguments.now) in
    let size = length-map rest string_bytes in
    let known = rw c.as_str.ensures.value at c.in-Some.ensures in
    let result : Result Line Problem = Err (problem.Unanswered unanswered.OutOfMemory) in
    let p = err_from_is_err_and c.from_residual.result c.from_residual.ensures.1 in
    rw (p.1, p.2, two_first string_bytes c.args.arguments.now _ _ c.in-len2-up.len_at_least c.parser-item.is c.requirement-item.is)
    (best_asked parser requirement (map string_bytes rest) (grind (arith, nat_tests)) result (by_parser parser (λ f. Prints reported_best (BestMatch Highest Restricted f requirement (map string_bytes rest))) c.in-Some.flavour known result
    (ran_out reported_best _ best_proper result refl)))

pub returns-in_err-answer : goal.returns-in_err-answer
returns-in_err-answer c =
    let parser = string_bytes c.parser-item.result in
    let requirement = string_bytes c.requirement-item.result in
    let rest = take (length c.args.arguments.now - 2) (drop 2 c.args.arguments.now) in
    let size = length-map rest string_bytes in
    let known = rw c.as_str.ensures.value at c.in-Some.ensures in
    let why = c.in_err-answer.field-0.0 in
    let result : Result Line Problem = Err (problem.Unanswered why) in
    let p = err_from_is_err_and c.from_residual-in_err-answer.result c.from_residual-in_err-answer.ensures.1 in
    let all : map (λ text. text.now) c.in_ok-versions.versions.items ≡ map string_bytes rest =
    rw c.in_ok-versions.was at (map_from_collect c.collect.result c.collect.ensures.ran (YieldsList-from_map_by _ (λ text. text.now) string_bytes (YieldsList-at c.map.ensures.source (YieldsList-from_slice rest cc)) c.map.ensures.closure (λ x r q k. search rules))) in
    let outcome = rw (c.as_str-2.ensures.value, c.as_slice.ensures.value, all) at c.in_err-answer.ensures in
    rw (p.1, p.2, two_first string_bytes c.args.arguments.now _ _ c.in-len2-up.len_at_least c.parser-item.is c.requirement-item.is)
    (best_asked parser requirement (map string_bytes rest) (grind (arith, nat_tests)) result (by_parser parser (λ f. Prints reported_best (BestMatch Highest Restricted f requirement (map string_bytes rest))) c.in-Some.flavour known result
    (printed reported_best _ best_proper (Err (fault_of why)) outcome result refl)))

pub returns-in_err-text_of_version-in-Value-Some : goal.returns-in_err-text_of_version-in-Value-Some
returns-in_err-text_of_version-in-Value-Some c =
    let parser = string_bytes c.parser-item.result in
    let requirement = string_bytes c.requirement-item.result in
    let rest = take (length c.args.arguments.now - 2) (drop 2 c.args.arguments.now) in
    let size = length-map rest string_bytes in
    let known = rw c.as_str.ensures.value at c.in-Some.ensures in
    let result : Result Line Problem = Err (problem.Unanswered unanswered.OutOfMemory) in
    let p = err_from_is_err_and c.from_residual-in_err-text_of_version-in-Value-Some.result c.from_residual-in_err-text_of_version-in-Value-Some.ensures.1 in
    rw (p.1, p.2, two_first string_bytes c.args.arguments.now _ _ c.in-len2-up.len_at_least c.parser-item.is c.requirement-item.is)
    (best_asked parser requirement (map string_bytes rest) (grind (arith, nat_tests)) result (by_parser parser (λ f. Prints reported_best (BestMatch Highest Restricted f requirement (map string_bytes rest))) c.in-Some.flavour known result
    (ran_out reported_best _ best_proper result refl)))

pub returns : goal.returns
returns c =
    let parser = string_bytes c.parser-item.result in
    let requirement = string_bytes c.requirement-item.result in
    let rest = take (length c.args.arguments.now - 2) (drop 2 c.args.arguments.now) in
    let size = length-map rest string_bytes in
    let known = rw c.as_str.ensures.value at c.in-Some.ensures in
    let is : reported_answer c.match-answer.line ≡ reported_best c.in_ok-answer.answer = search rules in
    let result : Result Line Problem = Ok c.match-answer.line in
    let all : map (λ text. text.now) c.in_ok-versions.versions.items ≡ map string_bytes rest =
    rw c.in_ok-versions.was at (map_from_collect c.collect.result c.collect.ensures.ran (YieldsList-from_map_by _ (λ text. text.now) string_bytes (YieldsList-at c.map.ensures.source (YieldsList-from_slice rest cc)) c.map.ensures.closure (λ x r q k. search rules))) in
    let outcome = rw (c.as_str-2.ensures.value, c.as_slice.ensures.value, all) at c.in_ok-answer.ensures in
    rw (two_first string_bytes c.args.arguments.now _ _ c.in-len2-up.len_at_least c.parser-item.is c.requirement-item.is)
    (best_asked parser requirement (map string_bytes rest) (grind (arith, nat_tests)) result (by_parser parser (λ f. Prints reported_best (BestMatch Highest Restricted f requirement (map string_bytes rest))) c.in-Some.flavour known result
    (printed reported_best _ best_proper (Ok c.in_ok-answer.answer) outcome result is)))
