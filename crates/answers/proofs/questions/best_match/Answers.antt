use Rattle.std.proofs.Common.{◌∙◌, None, Ok, Some, sym, ap, option_copied, rules}
use Rattle.std.proofs.lemmas.Result.{err_from_is_err_and}
use Rattle.answers.specs.AskingLaws.{by_value, by_fault}
use Rattle.semver_base.specs.declared.version.Version.{Version}
use Rattle.semver_req.specs.Requirement.{inner_means_with}
use Rattle.semver_req.specs.Resolve.{IsBestMatch, IsOnlyMatch}
use Rattle.answers.specs.Asking.{IsAnswer}
use Rattle.answers.specs.Questions.{BestOf, better}
use Rattle.answers.specs.declared.asking.Answer.TheVariants.{Tag}
use Rattle.answers.proofs.BestMatches.{best_answer, none_best, only_best, taken_best}
use Rattle.answers.proofs.questions.best_match.Goals as goal
use Rattle.answers.proofs.questions.best_match.Goals.{in-Highest, in-Lowest}

pub returns-in_err-range : goal.returns-in_err-range
returns-in_err-range c =
    let p = err_from_is_err_and c.from_residual.result c.from_residual.ensures.1 in
    rw (p.1, p.2) (by_fault _ _ _ _ c.in_err-range.ensures.answer)

pub returns-in_err-versions : goal.returns-in_err-versions
returns-in_err-versions c =
    let p = err_from_is_err_and c.from_residual-in_err-versions.result c.from_residual-in_err-versions.ensures.1 in
    rw (p.1, p.2) (by_value _ _ _ _ c.in_ok-range.ensures.answer _ (by_fault _ _ _ _ c.in_err-versions.ensures))

pub returns-in-Some : goal.returns-in-Some
returns-in-Some c =
    let tag : IsAnswer (BestOf c.args.end c.args.pre_release c.in_ok-range.range.inner c.in_ok-versions.versions.items) (λ answer. answer) (Ok (Tag c.in_ok-from_str.field-0)) = search rules in
    by_value _ _ _ _ c.in_ok-range.ensures.answer _ (by_value _ _ _ _ c.in_ok-versions.ensures _ tag)

pub returns-in-Some-place : goal.returns-in-Some-place
returns-in-Some-place c =
    let end = c.args.end in
    let read = c.in_ok-range.range.inner in
    let test = λ (v : Version). inner_means_with c.args.pre_release read v in
    let place = c.in-Some-place.place in
    let items = c.in_ok-versions.versions.items in
    let found : IsBestMatch (better end) test items c.match-end.place × IsOnlyMatch (better end) test items c.match-end.place = elim c.match-end.branch [
      | in-Highest w ↦ (rw (w.place-is, w.in-Highest.is) (rw w.as_slice.ensures.value at w.max_satisfying_with-place.ensures.highest), rw (w.place-is, w.in-Highest.is) (rw w.as_slice.ensures.value at w.max_satisfying_with-place.ensures.only))
      | in-Lowest w ↦ (rw (w.place-is, w.in-Lowest.is) (rw w.as_slice-in-Lowest.ensures.value at w.min_satisfying_with-place.ensures.lowest), rw (w.place-is, w.in-Lowest.is) (rw w.as_slice-in-Lowest.ensures.value at w.min_satisfying_with-place.ensures.only))
    ] in
    let here = rw c.in-Some-place.is at found in
    let best = best_answer end c.args.pre_release read items (sym c.tag.ensures ∙ ap option_copied c.in_default.is) (Some (record { place = place; version = c.remove-version.result }))
    (taken_best end test items place c.remove-version.result c.remove-version.ensures.value here.0)
    (only_best end test items place c.remove-version.result c.remove-version.ensures.value here.1) in
    by_value _ _ _ _ c.in_ok-range.ensures.answer _ (by_value _ _ _ _ c.in_ok-versions.ensures _ best)

pub returns : goal.returns
returns c =
    let end = c.args.end in
    let read = c.in_ok-range.range.inner in
    let test = λ (v : Version). inner_means_with c.args.pre_release read v in
    let items = c.in_ok-versions.versions.items in
    let found : IsBestMatch (better end) test items c.match-end.place × IsOnlyMatch (better end) test items c.match-end.place = elim c.match-end.branch [
      | in-Highest w ↦ (rw (w.place-is, w.in-Highest.is) (rw w.as_slice.ensures.value at w.max_satisfying_with-place.ensures.highest), rw (w.place-is, w.in-Highest.is) (rw w.as_slice.ensures.value at w.max_satisfying_with-place.ensures.only))
      | in-Lowest w ↦ (rw (w.place-is, w.in-Lowest.is) (rw w.as_slice-in-Lowest.ensures.value at w.min_satisfying_with-place.ensures.lowest), rw (w.place-is, w.in-Lowest.is) (rw w.as_slice-in-Lowest.ensures.value at w.min_satisfying_with-place.ensures.only))
    ] in
    let none = rw c.in-None.is at found in
    let nothing = best_answer end c.args.pre_release read items (sym c.tag.ensures ∙ ap option_copied c.in_default.is) None none.0 (none_best end test items none.1) in
    by_value _ _ _ _ c.in_ok-range.ensures.answer _ (by_value _ _ _ _ c.in_ok-versions.ensures _ nothing)
