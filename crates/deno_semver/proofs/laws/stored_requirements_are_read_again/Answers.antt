use Rattle.deno_semver.proofs.StoredReqs.{stored_npm}
use Rattle.deno_semver.proofs.laws.stored_requirements_are_read_again.Goals as goal

pub returns : goal.returns
returns c =
    let plain = c.requirements_hold_no_separator.ensures in
    stored_npm c.normal_texts_keep_their_meaning.ensures c.one_rereading_stabilizes.ensures.stabilizes c.tags_read_back.ensures c.read_requirements_are_answers.ensures plain.ranges plain.tags c.star_is_any_version.ensures
