use Rattle.answers.proofs.ReadArguments.{was_read, was_rejected}
use Rattle.answers.proofs.reading.range.Goals as goal

pub returns-in-Ok-clause-answer : goal.returns-in-Ok-clause-answer
returns-in-Ok-clause-answer c = was_read c.args.flavour c.args.place c.args.text.now c.in-Ok.range c.in-Ok.ensures.reads

pub returns-in-Err-clause-answer : goal.returns-in-Err-clause-answer
returns-in-Err-clause-answer c = rw c.of.ensures (was_rejected c.args.flavour c.args.place c.args.text.now c.texts_are_rejected_for_one_reason.ensures c.in-Err.failure c.in-Err.ensures.reads c.in-Err.ensures.rejection)
