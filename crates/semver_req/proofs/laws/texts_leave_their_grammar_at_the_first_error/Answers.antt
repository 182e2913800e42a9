use Rattle.semver_req.proofs.TrimmedWholes.{place_of_text}
use Rattle.semver_req.proofs.laws.texts_leave_their_grammar_at_the_first_error.Goals as goal

pub returns : goal.returns
returns c = place_of_text
