-- What a specifier of an import map names, and whether it allows a version.
use Rattle.std.specs.Prelude.{◌≡◌, ℕ, List, Ok}
use Rattle.callers.specs.Allowance.{allowance_of}
use Rattle.callers.specs.declared.import_map.Import.{Import}
use Rattle.deno_semver.specs.ExportName.{export_name}
use Rattle.deno_semver.specs.ReferenceOutcome.{IsReferenceOutcome}
use Rattle.deno_semver.specs.declared.package.values.PackageKind.{PackageKind}
use Rattle.deno_semver.specs.declared.package.reference.PackageReqReference.{PackageReqReference}
use Rattle.semver_base.specs.declared.version.Version.{Version}

-- the package's name, the export that the path means, and whether the requirement allows the version
pub record IsImport (reference : PackageReqReference) (version : Version) (reported : Import) : Type 0 where
  pub name : reported.name ≡ reference.req.name
  pub export : reported.export ≡ export_name reference.sub_path
  pub allowance : reported.allowance ≡ allowance_of reference.req.version_req.inner version

-- the same for the reference that the text parses to
pub record IsImportOf (kind : PackageKind) (text : List ℕ) (version : Version) (reported : Import) : Type 0 where
  pub reference : PackageReqReference
  pub is_reference : IsReferenceOutcome kind text (Ok reference)
  pub is_import : IsImport reference version reported
