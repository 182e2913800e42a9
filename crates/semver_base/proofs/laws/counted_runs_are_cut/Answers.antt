use Rattle.std.proofs.Common.{refl}
use Rattle.semver_base.proofs.Numbers.{cuts_run}
use Rattle.semver_base.proofs.laws.counted_runs_are_cut.Goals as goal

pub returns : goal.returns
returns c = λ p text. cuts_run p text _ _ _ refl refl refl
