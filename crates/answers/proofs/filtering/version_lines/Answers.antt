use Rattle.std.proofs.Common.{◌≡◌, ◌+◌, ◌++◌, ◌∷◌, [], length, rules, subst, sym, take}
use Rattle.std.proofs.lemmas.Result.{err_from_is_err_and}
use Rattle.semver_base.specs.declared.version.Version.{Version}
use Rattle.answers.proofs.Givens.{AreValues}
use Rattle.answers.proofs.TextLists.{value_missing, value_more, values_of_all}
use Rattle.answers.specs.Asking.{OutOfMemory, fault_of}
use Rattle.answers.specs.Filtering.{IsLine}
use Rattle.answers.specs.Reading.{texts_of}
use Rattle.answers.proofs.filtering.version_lines.Goals as goal

pub loop-text-init : goal.loop-text-init
loop-text-init c = rw c.new-lines.ensures.items tt

pub loop-text-preserved : goal.loop-text-preserved
loop-text-preserved c =
    let l = c.loop-text in
    let Match = IsLine (λ (v : Version). v) in
    let at : c.len.result ≡ length l.lines.items = search rules in
    let pushed : c.push.new.self.items ≡ l.lines.items ++ c.in_ok-line.line ∷ [] = search rules in
    subst (AreValues OutOfMemory Match 0 (texts_of (take (l.text-index + 1) c.args.texts.now))) (sym pushed)
    (value_more (λ text. text.now) OutOfMemory Match c.args.texts.now l.text-index _ l.lines.items c.in_ok-line.line c.len.result c.loop-text-test.true l.invariant at c.in_ok-line.ensures.answer)

pub returns-in_err-line-clause-answer : goal.returns-in_err-line-clause-answer
returns-in_err-line-clause-answer c =
    let l = c.loop-text in
    let Match = IsLine (λ (v : Version). v) in
    let p = err_from_is_err_and c.from_residual.result c.from_residual.ensures.1 in
    let at : c.len.result ≡ length l.lines.items = search rules in
    rw (p.1, p.2) (value_missing (λ text. text.now) OutOfMemory Match c.args.texts.now l.text-index _ l.lines.items (fault_of c.in_err-line.field-0.0) c.len.result c.loop-text-test.true l.invariant at c.in_err-line.ensures.answer)

pub returns-clause-answer : goal.returns-clause-answer
returns-clause-answer c = values_of_all (λ text. text.now) OutOfMemory (IsLine (λ (v : Version). v)) c.args.texts.now c.loop-text.text-index c.loop-text.lines.items c.loop-text-test.false c.loop-text.invariant
