use Rattle.std.proofs.lemmas.Result.{IfOk-weaker}
use Rattle.semver_base.specs.Grammar.{answer_of}
use Rattle.semver_req.proofs.Partials.{led_by_v, not_led}
use Rattle.semver_req.proofs.common.partial_front.Goals as goal

pub returns-in-Some : goal.returns-in-Some
returns-in-Some c = rw c.in-Npm.is (IfOk-weaker c.bare_partial.result _ _ (λ r h. led_by_v c.args.text.now c.in-Some.rest.now (answer_of r) c.in-Some.ensures h) c.bare_partial.ensures)

pub returns-in-None : goal.returns-in-None
returns-in-None c = rw c.in-Npm.is (IfOk-weaker c.bare_partial-in-None.result _ _ (λ r h. not_led c.args.text.now (answer_of r) c.in-None.ensures h) c.bare_partial-in-None.ensures)
