use Rattle.semver_req.specs.Parsers.{Failure}
use Rattle.semver_req.proofs.ParserAnswers.{answers_read}
use Rattle.semver_req.proofs.laws.read_requirements_are_answers.Goals as goal

pub returns : goal.returns
returns c f text req utf8 h = answers_read f text (λ (failure : Failure). failure) req utf8 h.reading h.raw_text
