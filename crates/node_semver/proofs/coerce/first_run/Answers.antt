use Rattle.std.proofs.Common.{◌≡◌, ◌<◌, ◌∷◌, ◌+◌, None, drop, get_or, length}
use Rattle.std.specs.Char.{is_ascii_digit}
use Rattle.std.proofs.lemmas.List.{drop_all, drop_more}
use Rattle.node_semver.specs.CoerceSteps.{IsRunAt}
use Rattle.node_semver.proofs.Runs.{FirstSoFar, first_step, none_in_nothing}
use Rattle.node_semver.proofs.coerce.first_run.Goals as goal

pub loop-place-preserved : goal.loop-place-preserved
loop-place-preserved c =
    let l = c.loop-place in
    let text = c.args.text.now in
    let byte = get_or text l.place 0 in
    let rest = drop (l.place + 1) text in
    let place : l.place < length text = rw c.as_bytes-byte-items.ensures.value at c.loop-place-test.true in
    let split : drop l.place text ≡ byte ∷ rest = drop_more text l.place 0 place in
    let digit : c.is_ascii_digit-after_digit.result ≡ is_ascii_digit byte = rw c.as_bytes-byte-items.ensures.value at c.is_ascii_digit-after_digit.ensures.value in
    let none : IsRunAt c.args.parts l.after_digit (byte ∷ rest) None = rw (c.in_default.is, split) at c.in_ok-run.ensures in
    let before : FirstSoFar c.args.parts text l.after_digit (byte ∷ rest) = rw split at l.invariant in
    rw digit (first_step c.args.parts text l.after_digit byte rest before none)

pub returns : goal.returns
returns c =
    let l = c.loop-place in
    let text = c.args.text.now in
    let all = drop_all l.place text (rw c.as_bytes-byte-items.ensures.value at c.loop-place-test.false) in
    l.invariant.none (rw all (none_in_nothing c.args.parts l.after_digit))
