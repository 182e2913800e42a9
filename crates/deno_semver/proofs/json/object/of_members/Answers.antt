use Rattle.std.proofs.Common.{refl}
use Rattle.deno_semver.proofs.JsonReading.{exit_answer}
use Rattle.deno_semver.proofs.json.object.of_members.Goals as goal

pub returns-in_err-one-clause-answer : goal.returns-in_err-one-clause-answer
returns-in_err-one-clause-answer g c a b h k = exit_answer (a, b) c.from_residual.result _ c.from_residual.ensures.1 (c.in_err-one.ensures.answer a h)

pub returns-in_err-other-clause-answer : goal.returns-in_err-other-clause-answer
returns-in_err-other-clause-answer g c a b h k = exit_answer (a, b) c.from_residual-in_err-other.result _ c.from_residual-in_err-other.ensures.1 (c.in_err-other.ensures.answer b k)

pub returns-clause-answer : goal.returns-clause-answer
returns-clause-answer g c a b h k = rw (c.in_ok-one.ensures.answer a h, c.in_ok-other.ensures.answer b k) refl
