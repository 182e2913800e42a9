use Rattle.std.proofs.Common.{◌≡◌, ◌+◌, ◌++◌, ◌∷◌, [], length, rules, subst, sym, take}
use Rattle.std.proofs.lemmas.Result.{err_from_is_err_and}
use Rattle.semver_req.specs.Parsers.{AreReadOrTags}
use Rattle.answers.specs.Asking.{OutOfMemory, fault_of}
use Rattle.answers.specs.Reading.{IsRangeAt, texts_of}
use Rattle.answers.proofs.Givens.{AreValues}
use Rattle.answers.proofs.TextLists.{read_more, value_missing, value_more, values_of_all}
use Rattle.answers.proofs.reading.ranges.Goals as goal

pub loop-text-init : goal.loop-text-init
loop-text-init c = rw c.new-all.ensures.items (record { values = tt; read = tt })

pub loop-text-preserved : goal.loop-text-preserved
loop-text-preserved c =
    let l = c.loop-text in
    let at : c.len.result ≡ length l.all.items = search rules in
    let pushed : c.push.new.self.items ≡ l.all.items ++ c.in_ok-range.range ∷ [] = search rules in
    subst (λ items. record { values : AreValues OutOfMemory (IsRangeAt c.args.flavour) 0 (texts_of (take (l.text-index + 1) c.args.texts.now)) items; read : AreReadOrTags items }) (sym pushed)
    (record { values = value_more (λ text. text.now) OutOfMemory (IsRangeAt c.args.flavour) c.args.texts.now l.text-index _ l.all.items c.in_ok-range.range c.len.result c.loop-text-test.true l.invariant.values at c.in_ok-range.ensures.answer; read = read_more l.all.items c.in_ok-range.range l.invariant.read c.in_ok-range.ensures.read })

pub returns-in_err-range-clause-answer : goal.returns-in_err-range-clause-answer
returns-in_err-range-clause-answer c =
    let l = c.loop-text in
    let p = err_from_is_err_and c.from_residual.result c.from_residual.ensures.1 in
    let at : c.len.result ≡ length l.all.items = search rules in
    rw (p.1, p.2) (value_missing (λ text. text.now) OutOfMemory (IsRangeAt c.args.flavour) c.args.texts.now l.text-index _ l.all.items (fault_of c.in_err-range.field-0.0) c.len.result c.loop-text-test.true l.invariant.values at c.in_err-range.ensures.answer)

pub returns-clause-answer : goal.returns-clause-answer
returns-clause-answer c = values_of_all (λ text. text.now) OutOfMemory (IsRangeAt c.args.flavour) c.args.texts.now c.loop-text.text-index c.loop-text.all.items c.loop-text-test.false c.loop-text.invariant.values
