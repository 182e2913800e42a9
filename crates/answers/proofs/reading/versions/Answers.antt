use Rattle.std.proofs.Common.{◌≡◌, ◌+◌, ◌++◌, ◌∷◌, [], length, rules, subst, sym, take}
use Rattle.std.proofs.lemmas.Result.{err_from_is_err_and}
use Rattle.answers.specs.Asking.{OutOfMemory, fault_of}
use Rattle.answers.specs.Reading.{IsVersionAt, texts_of}
use Rattle.answers.proofs.Givens.{AreValues}
use Rattle.answers.proofs.TextLists.{value_missing, value_more, values_of_all}
use Rattle.answers.proofs.reading.versions.Goals as goal

pub loop-text-init : goal.loop-text-init
loop-text-init c = rw c.new-all.ensures.items tt

pub loop-text-preserved : goal.loop-text-preserved
loop-text-preserved c =
    let l = c.loop-text in
    let at : c.len.result ≡ length l.all.items = search rules in
    let pushed : c.push.new.self.items ≡ l.all.items ++ c.in_ok-version.version ∷ [] = search rules in
    subst (AreValues OutOfMemory IsVersionAt 0 (texts_of (take (l.text-index + 1) c.args.texts.now))) (sym pushed)
    (value_more (λ text. text.now) OutOfMemory IsVersionAt c.args.texts.now l.text-index _ l.all.items c.in_ok-version.version c.len.result c.loop-text-test.true l.invariant at c.in_ok-version.ensures)

pub returns-in_err-version : goal.returns-in_err-version
returns-in_err-version c =
    let l = c.loop-text in
    let p = err_from_is_err_and c.from_residual.result c.from_residual.ensures.1 in
    let at : c.len.result ≡ length l.all.items = search rules in
    rw (p.1, p.2) (value_missing (λ text. text.now) OutOfMemory IsVersionAt c.args.texts.now l.text-index _ l.all.items (fault_of c.in_err-version.field-0.0) c.len.result c.loop-text-test.true l.invariant at c.in_err-version.ensures)

pub returns : goal.returns
returns c = values_of_all (λ text. text.now) OutOfMemory IsVersionAt c.args.texts.now c.loop-text.text-index c.loop-text.all.items c.loop-text-test.false c.loop-text.invariant
