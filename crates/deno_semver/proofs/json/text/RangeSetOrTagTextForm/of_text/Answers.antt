use Rattle.semver_req.specs.declared.common.values.Flavour.TheVariants.{Normal}
use Rattle.deno_semver.proofs.InnerReading.{one_reading, reported_as_memory}
use Rattle.deno_semver.proofs.json.text.RangeSetOrTagTextForm.of_text.Goals as goal

pub returns-in-Ok-clause-answer : goal.returns-in-Ok-clause-answer
returns-in-Ok-clause-answer c x h = one_reading c.texts_have_one_outcome.ensures Normal c.args.text.now c.in-Ok.inner x c.in-Ok.ensures.reading h

pub returns-in-Err-clause-answer : goal.returns-in-Err-clause-answer
returns-in-Err-clause-answer c x h = reported_as_memory c.texts_have_one_outcome.ensures Normal c.args.text.now _ c.is_memory.result c.of_parser.result c.in-Err.ensures.rejected c.is_memory.ensures c.of_parser.ensures x h
