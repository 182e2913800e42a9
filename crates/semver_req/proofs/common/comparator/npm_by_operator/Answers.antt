use Rattle.std.proofs.Common.{rules}
use Rattle.semver_base.specs.Grammar.{ReadsAs, answer_of}
use Rattle.semver_req.specs.Comparators.{IsLed}
use Rattle.semver_req.specs.Partials.{sized_partial}
use Rattle.semver_req.specs.Written.{IsNpmOperatorCut}
use Rattle.semver_req.proofs.LedReadings.{after_no_v, after_v, led_read}
use Rattle.semver_req.proofs.NpmComparators.{equals_none, equals_so_far, tilde_front}
use Rattle.semver_req.proofs.common.comparator.npm_by_operator.Goals as goal
use Rattle.semver_req.proofs.common.comparator.npm_by_operator.Goals.{in-Tilde, in_default, in-Some-after+in_ok-led-in-Some-after, in-None+in_ok-led-in-None}

pub loop-next-init : goal.loop-next-init
loop-next-init c = record { is_text = search rules; so_far = λ end p. p }

pub loop-next-preserved : goal.loop-next-preserved
loop-next-preserved c = record { is_text = search rules; so_far = equals_so_far c.loop-next.invariant.so_far c.in-Some.ensures }

pub returns-after-after-2 : goal.returns-after-after-2
returns-after-after-2 c =
    let operator = c.split_operator-operator in
    let cut : IsNpmOperatorCut c.args.text.now operator.result.0 c.match-operator.rest.now = elim c.match-operator.branch [
      | in-Tilde w ↦ rw (w.in-Tilde.is, w.rest-is) (tilde_front _ _ (rw w.in-Tilde.is at operator.ensures) w.after.result w.after.ensures w.unwrap_or-rest.ensures)
      | in_default w ↦ search rules
    ] in
    let equals = c.loop-next.invariant.so_far _ (equals_none c.in_default-after.ensures) in
    let led : ReadsAs sized_partial IsLed c.match-operator.rest.now (answer_of c.match-after-2.led) = elim c.match-after-2.branch [
      | in-Some-after+in_ok-led-in-Some-after w ↦ rw w.led-is (led_read sized_partial (answer_of w.in_ok-led-in-Some-after.led) equals c.after_whitespace-start.ensures (after_v sized_partial (answer_of w.in_ok-led-in-Some-after.led) w.in-Some-after.ensures w.after_whitespace.ensures w.in_ok-led-in-Some-after.ensures))
      | in-None+in_ok-led-in-None w ↦ rw w.led-is (led_read sized_partial (answer_of w.in_ok-led-in-None.led) equals c.after_whitespace-start.ensures (after_no_v sized_partial (answer_of w.in_ok-led-in-None.led) w.in-None.ensures w.in_ok-led-in-None.ensures))
    ] in
    search (rules, cut, led)
