use Rattle.semver_req.proofs.OneListOfAlternatives.{one_list_of_errors}
use Rattle.semver_req.proofs.laws.texts_have_one_list_of_errors.Goals as goal

pub returns : goal.returns
returns c = one_list_of_errors
