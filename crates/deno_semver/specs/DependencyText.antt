-- The texts of dependencies of JSR packages. Source: the crate `deno_semver`.
use Rattle.std.specs.Prelude.{ℕ, List}
use Rattle.deno_semver.specs.ReferenceText.{with_scheme}
use Rattle.deno_semver.specs.RequirementText.{normal_req_text, req_text}
use Rattle.deno_semver.specs.declared.jsr.dependency.JsrDepPackageReq.{JsrDepPackageReq}

-- the scheme and the package requirement; the same with its canonical form
abbrev pub dependency_text : JsrDepPackageReq → List ℕ
dependency_text d = with_scheme d.kind (req_text d.req)

-- the text that is stored
abbrev pub normal_dependency_text : JsrDepPackageReq → List ℕ
normal_dependency_text d = with_scheme d.kind (normal_req_text d.req)
