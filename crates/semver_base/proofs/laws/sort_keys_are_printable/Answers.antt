use Rattle.semver_base.proofs.SortKeyBytes.{keys_printable}
use Rattle.semver_base.proofs.laws.sort_keys_are_printable.Goals as goal

pub returns : goal.returns
returns c = keys_printable
