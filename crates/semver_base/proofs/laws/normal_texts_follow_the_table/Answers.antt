use Rattle.semver_base.proofs.NormalTable.{normal_table}
use Rattle.semver_base.proofs.laws.normal_texts_follow_the_table.Goals as goal

pub returns : goal.returns
returns c = normal_table
