use Rattle.std.proofs.Common.{◌≡◌, map, take}
use Rattle.semver_req.specs.Requirement.{ranges_of, Requirement}
use Rattle.semver_req.proofs.req.VersionReq.common_version_of_all.Given as goal

abbrev pub invariant-loop-other : goal.invariant-loop-other
invariant-loop-other l = l.sets.items ≡ map (λ (req : Requirement). ranges_of req.inner) (take l.other-index l.others)
