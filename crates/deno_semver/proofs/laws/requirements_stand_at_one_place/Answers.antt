use Rattle.deno_semver.proofs.PackagePlaces.{one_place}
use Rattle.deno_semver.proofs.laws.requirements_stand_at_one_place.Goals as goal

pub returns : goal.returns
returns c = one_place
