use Rattle.std.proofs.Common.{Option, Some, None, inl, refl, List, ℕ, option_copied}
use Rattle.semver_req.specs.declared.common.values.Flavour.{Flavour}
use Rattle.deno_semver.specs.PackageReading.{IsPartsRejection}
use Rattle.deno_semver.specs.declared.package.errors.PackageReqPartsParseError.TheVariants as parts
use Rattle.deno_semver.proofs.package.read.req_of.Goals as goal

out_of_memory : (f : Flavour) (version : Option (List ℕ)) → IsPartsRejection f version parts.Memory
out_of_memory f None = refl
out_of_memory f (Some version) = inl refl

pub returns-in-Err-clause-rejected : goal.returns-in-Err-clause-rejected
returns-in-Err-clause-rejected c = out_of_memory c.args.flavour (option_copied c.args.cut.version)
