use Rattle.std.proofs.Common.{refl, rules}
use Rattle.deno_semver.proofs.NameAndVersion.{read_answer, reads, rejected_answer, reports_uncut, reports_version, uncut_answer}
use Rattle.deno_semver.proofs.NvText.{version_passes}
use Rattle.deno_semver.proofs.package.name_version.nv_at_front.Goals as goal

pub returns-in_default-clause-rejected : goal.returns-in_default-clause-rejected
returns-in_default-clause-rejected c = reports_uncut c.in_default.ensures c.unexpected.ensures

pub returns-in_default-clause-answer : goal.returns-in_default-clause-answer
returns-in_default-clause-answer c = uncut_answer c.in_default.ensures c.unexpected.ensures

pub returns-in-Err-clause-rejected : goal.returns-in-Err-clause-rejected
returns-in-Err-clause-rejected c = reports_version c.in-Some.ensures c.in-Err.ensures.rejected (search rules)

pub returns-in-Err-clause-answer : goal.returns-in-Err-clause-answer
returns-in-Err-clause-answer c = rejected_answer (λ e. e.source) c.in-Some.ensures c.in-Err.error c.in-Err.ensures.answer (search rules)

pub returns-in-Ok-from_str-clause-read : goal.returns-in-Ok-from_str-clause-read
returns-in-Ok-from_str-clause-read c = reads c.in-Some.ensures c.in-Ok-from_str.ensures.value c.in-Ok.ensures.read

pub returns-in-Ok-from_str-clause-answer : goal.returns-in-Ok-from_str-clause-answer
returns-in-Ok-from_str-clause-answer c =
    read_answer (λ e. e.source) c.in-Some.ensures c.args.whole.now c.in-Ok.version c.in-Ok.ensures.answer c.in-Ok-from_str.ensures.value c.in-Some.parts.rest refl

pub returns-in-Ok-from_str-clause-plain : goal.returns-in-Ok-from_str-clause-plain
returns-in-Ok-from_str-clause-plain c = version_passes c.version_texts_are_bare.ensures _ c.in-Ok.version c.in-Ok.ensures.read
