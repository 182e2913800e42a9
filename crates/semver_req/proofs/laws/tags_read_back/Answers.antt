use Rattle.semver_req.proofs.TagsReadBack.{tag_back}
use Rattle.semver_req.proofs.laws.tags_read_back.Goals as goal

pub returns : goal.returns
returns c = tag_back
