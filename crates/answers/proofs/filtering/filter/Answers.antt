use Rattle.std.proofs.Common.{◌≡◌, ◌+◌, ◌++◌, ◌∷◌, ◌∙◌, [], ap, length, option_copied, rules, subst, sym, take}
use Rattle.semver_base.specs.declared.version.Version.{Version}
use Rattle.semver_req.specs.Requirement.{inner_means_with}
use Rattle.answers.proofs.Givens.{AreValues}
use Rattle.answers.proofs.TextLists.{value_more, values_of_all}
use Rattle.answers.specs.Asking.{OutOfMemory}
use Rattle.answers.specs.Filtering.{LineMatch, line_answer}
use Rattle.answers.proofs.LineMatches.{filter_answer, match_of_line}
use Rattle.answers.specs.Reading.{texts_of}
use Rattle.std.proofs.lemmas.Result.{err_from_is_err_and}
use Rattle.answers.specs.AskingLaws.{by_value, by_fault}
use Rattle.answers.proofs.filtering.filter.Goals as goal

pub returns-in_err-range : goal.returns-in_err-range
returns-in_err-range c =
    let p = err_from_is_err_and c.from_residual.result c.from_residual.ensures.1 in
    rw (p.1, p.2) (by_fault _ _ _ _ c.in_err-range.ensures.answer)

pub returns-in-Some : goal.returns-in-Some
returns-in-Some c =
    by_value _ _ _ _ c.in_ok-range.ensures.answer _ (search rules)

pub loop-text-init : goal.loop-text-init
loop-text-init c = rw c.new-answers.ensures.items tt

pub loop-text-preserved : goal.loop-text-preserved
loop-text-preserved c =
    let l = c.loop-text in
    let test = λ (v : Version). inner_means_with c.args.pre_release c.in_ok-range.range.inner v in
    let Match = LineMatch test in
    let at : c.len.result ≡ length l.answers.items = search rules in
    let answer = line_answer test c.in_ok-line.line in
    let matches = match_of_line test c.len.result _ c.in_ok-line.line c.in_ok-line.ensures.answer in
    let pushed : c.push.new.self.items ≡ l.answers.items ++ answer ∷ [] = search rules in
    subst (AreValues OutOfMemory Match 0 (texts_of (take (l.text-index + 1) c.args.version_texts.now))) (sym pushed)
    (value_more (λ text. text.now) OutOfMemory Match c.args.version_texts.now l.text-index _ l.answers.items answer c.len.result c.loop-text-test.true l.invariant at matches)

pub returns : goal.returns
returns c =
    let l = c.loop-text in
    let each = values_of_all (λ text. text.now) OutOfMemory (LineMatch (λ (v : Version). inner_means_with c.args.pre_release c.in_ok-range.range.inner v)) c.args.version_texts.now l.text-index l.answers.items c.loop-text-test.false l.invariant in
    by_value _ _ _ _ c.in_ok-range.ensures.answer _ (filter_answer c.args.pre_release c.in_ok-range.range.inner _ (sym c.tag.ensures ∙ ap option_copied c.in_default.is) l.answers.items each)
