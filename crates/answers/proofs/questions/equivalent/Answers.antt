use Rattle.std.proofs.Common.{◌≡◌, ◌↔◌, IsTrue, Bool, None, Ok, rules}
use Rattle.std.proofs.lemmas.Result.{err_from_is_err_and}
use Rattle.semver_base.specs.Containment.{AreEquivalent}
use Rattle.semver_base.specs.declared.range.PreRelease.{PreRelease}
use Rattle.semver_req.specs.Requirement.{Requirement, inner_means_with, tag_of}
use Rattle.answers.specs.Asking.{IsAnswer}
use Rattle.answers.specs.Questions.{EquivalentOf}
use Rattle.answers.specs.declared.asking.Answer.{Answer}
use Rattle.answers.specs.declared.asking.Answer.TheVariants.{Tag, Value}
use Rattle.answers.specs.AskingLaws.{by_value, by_fault}
use Rattle.answers.proofs.Whether.{whether_answer}
use Rattle.answers.proofs.questions.equivalent.Goals as goal

-- without a tag, whether they match the same versions is the result
equivalent_answer : (flag : PreRelease) (one other : Requirement) → tag_of one.inner ≡ None → tag_of other.inner ≡ None → (same : Bool) → (IsTrue same ↔ AreEquivalent (inner_means_with flag one.inner) (inner_means_with flag other.inner))
    → IsAnswer (EquivalentOf flag one other) (λ (a : Answer Bool). a) (Ok (Value same))
equivalent_answer flag one other none no_other same h =
    rw (none, no_other) (whether_answer (AreEquivalent (inner_means_with flag one.inner) (inner_means_with flag other.inner)) same h)

pub returns-in_err-one : goal.returns-in_err-one
returns-in_err-one c =
    let p = err_from_is_err_and c.from_residual.result c.from_residual.ensures.1 in
    rw (p.1, p.2) (by_fault _ _ _ _ c.in_err-one.ensures.answer)

pub returns-in_err-other : goal.returns-in_err-other
returns-in_err-other c =
    let p = err_from_is_err_and c.from_residual-in_err-other.result c.from_residual-in_err-other.ensures.1 in
    rw (p.1, p.2) (by_value _ _ _ _ c.in_ok-one.ensures.answer _ (by_fault _ _ _ _ c.in_err-other.ensures.answer))

pub returns-in-Some : goal.returns-in-Some
returns-in-Some c =
    let tag : IsAnswer (EquivalentOf c.args.pre_release c.in_ok-one.one c.in_ok-other.other) (λ answer. answer) (Ok (Tag c.in_ok-from_str.field-0)) = search rules in
    by_value _ _ _ _ c.in_ok-one.ensures.answer _ (by_value _ _ _ _ c.in_ok-other.ensures.answer _ tag)

pub returns : goal.returns
returns c =
    let none : tag_of c.in_ok-one.one.inner ≡ None = search rules in
    let no_other : tag_of c.in_ok-other.other.inner ≡ None = search rules in
    let same = equivalent_answer c.args.pre_release c.in_ok-one.one c.in_ok-other.other none no_other c.in_ok-same.same (c.in_ok-same.ensures.exact c.in_ok-one.ensures.read c.in_ok-other.ensures.read) in
    by_value _ _ _ _ c.in_ok-one.ensures.answer _ (by_value _ _ _ _ c.in_ok-other.ensures.answer _ same)
