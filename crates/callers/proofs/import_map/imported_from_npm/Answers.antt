use Rattle.std.proofs.Common.{rules, subst}
use Rattle.callers.specs.ImportMap.{IsImport}
use Rattle.deno_semver.specs.declared.package.reference.PackageReqReference.{PackageReqReference}
use Rattle.callers.proofs.import_map.imported_from_npm.Goals as goal

pub returns-in-Ok-named-clause-answer : goal.returns-in-Ok-named-clause-answer
returns-in-Ok-named-clause-answer c =
    let this : IsImport c.in-Ok.reference c.args.version.now c.in-Ok-named.import = search rules in
    λ reference is. subst (λ (r : PackageReqReference). IsImport r c.args.version.now c.in-Ok-named.import) (c.in-Ok.ensures.parsed.answer _ is) this
