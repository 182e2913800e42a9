use Rattle.semver_base.specs.Sameness.{both_reported, text_eq, text_reported, reported_by}
use Rattle.semver_req.specs.Sameness.{inner_eq, inner_reported}
use Rattle.deno_semver.proofs.laws.equal_package_requirements.Goals as goal

pub returns : goal.returns
returns c =
    let x = c.args.one.now in
    let y = c.args.other.now in
    reported_by _ _ c.eq.ensures (both_reported (text_eq x.name y.name) (inner_eq x.version_req.inner y.version_req.inner) (text_reported x.name y.name) (inner_reported x.version_req.inner y.version_req.inner))
