use Rattle.std.proofs.Common.{◌≡◌, ◌∷◌, None, Ok, List, rules, subst, sym}
use Rattle.semver_req.specs.Parsers.{AreReadOrTags}
use Rattle.semver_req.specs.Requirement.{Requirement}
use Rattle.answers.specs.Asking.{IsAnswer, IsOutcomeOf, OutOfMemory}
use Rattle.answers.specs.Questions.{CommonOf, first_tag}
use Rattle.answers.specs.declared.asking.Answer.TheVariants.{Tag, Value}
use Rattle.answers.proofs.Lowest.{common_answer, none_is_later, only_of_all}
use Rattle.std.proofs.lemmas.Result.{err_from_is_err_and}
use Rattle.answers.specs.AskingLaws.{by_value, by_fault}
use Rattle.answers.proofs.questions.common_version.Goals as goal

pub returns-in_err-ranges : goal.returns-in_err-ranges
returns-in_err-ranges c =
    let p = err_from_is_err_and c.from_residual.result c.from_residual.ensures.1 in
    rw (p.1, p.2) (by_fault _ _ _ _ c.in_err-ranges.ensures.answer)

pub common_version_of_all-requires-clause-other_ranges : goal.common_version_of_all-requires-clause-other_ranges
common_version_of_all-requires-clause-other_ranges c =
    let none : first_tag c.in_ok-ranges.ranges.items ≡ None = search rules in
    let is : c.in_ok-ranges.ranges.items ≡ c.in-Some-split_first.first.now ∷ c.in-Some-split_first.others.now = search rules in
    none_is_later c.in-Some-split_first.first.now c.in-Some-split_first.others.now (subst (λ reqs. first_tag reqs ≡ None) is none)

pub returns-in-Some : goal.returns-in-Some
returns-in-Some c =
    let tag : IsAnswer (CommonOf c.args.pre_release c.in_ok-ranges.ranges.items) (λ answer. answer) (Ok (Tag c.in_ok-from_str.field-0)) = search rules in
    by_value _ _ _ _ c.in_ok-ranges.ensures.answer _ tag

pub returns-in_default-split_first : goal.returns-in_default-split_first
returns-in_default-split_first c =
    let nothing : IsAnswer (CommonOf c.args.pre_release c.in_ok-ranges.ranges.items) (λ answer. answer) (Ok (Value None)) = search rules in
    by_value _ _ _ _ c.in_ok-ranges.ensures.answer _ nothing

pub returns : goal.returns
returns c =
    let first = c.in-Some-split_first.first.now in
    let others = c.in-Some-split_first.others.now in
    let lowest = c.in_ok-lowest.ensures in
    let none : first_tag c.in_ok-ranges.ranges.items ≡ None = search rules in
    let is : c.in_ok-ranges.ranges.items ≡ first ∷ others = search rules in
    let read : AreReadOrTags (first ∷ others) = subst AreReadOrTags is c.in_ok-ranges.ensures.read in
    let value = subst (λ (reqs : List Requirement). IsOutcomeOf OutOfMemory (CommonOf c.args.pre_release reqs) (Ok (Value c.in_ok-lowest.lowest))) (sym is)
    (common_answer c.args.pre_release first others (subst (λ reqs. first_tag reqs ≡ None) is none) c.in_ok-lowest.lowest lowest.lowest lowest.no_build (lowest.reads_back read.0 read.1)
    (only_of_all c.args.pre_release first.inner others c.in_ok-lowest.lowest (lowest.any_order read.0 read.1))) in
    by_value _ _ _ _ c.in_ok-ranges.ensures.answer _ value
