-- When package requirements, and what is made of them, are equal. Source: the crate `deno_semver`, which ignores the
-- version's text.
use Rattle.std.specs.Prelude.{◌≡◌}
use Rattle.deno_semver.specs.declared.jsr.dependency.JsrDepPackageReq.{JsrDepPackageReq}
use Rattle.deno_semver.specs.declared.package.reference.PackageReqReference.{PackageReqReference}
use Rattle.deno_semver.specs.declared.package.values.PackageReq.{PackageReq}

-- the names are the same, and the version requirements mean the same
abbrev pub AreEqualReqs : PackageReq → PackageReq → Type 0
AreEqualReqs x y = (x.name ≡ y.name) × (x.version_req.inner ≡ y.version_req.inner)

-- `==` of references
abbrev pub AreEqualReferences : PackageReqReference → PackageReqReference → Type 0
AreEqualReferences x y = AreEqualReqs x.req y.req × (x.sub_path ≡ y.sub_path)

-- `==` of dependencies
abbrev pub AreEqualDependencies : JsrDepPackageReq → JsrDepPackageReq → Type 0
AreEqualDependencies x y = (x.kind ≡ y.kind) × AreEqualReqs x.req y.req
