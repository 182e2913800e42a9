use Rattle.semver_req.specs.declared.common.values.Flavour.TheVariants.{Specifier}
use Rattle.deno_semver.proofs.PackageFaults.{uncut_error, version_error}
use Rattle.deno_semver.proofs.package.reference.read.Goals as goal

pub returns-in-Err : goal.returns-in-Err
returns-in-Err c = uncut_error Specifier c.args.body.now c.in-Err.ensures.uncut

pub returns-in-Err-req_of : goal.returns-in-Err-req_of
returns-in-Err-req_of c = version_error Specifier c.args.body.now _ c.in-Ok.ensures.cut.parts c.in-Err-req_of.ensures.rejected
