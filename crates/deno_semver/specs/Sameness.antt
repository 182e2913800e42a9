-- The derived `==` of names with versions, references and dependencies says whether they are equal. Each `.._eq` is the `==` of its type, and each
-- `.._reported` says so of it.
use denote.Enum.Bare.{sameb}
use Rattle.std.proofs.Common.{Bool, ◌≡◌, ◌&&◌, ℕ, List, Option, None, Some, refl, ap, Decides}
use Rattle.std.specs.Option.{option_eq}
use Rattle.semver_base.specs.PrecedenceLaws.{version_eq, version_reported}
use Rattle.semver_base.specs.declared.version.Version.{Version}
use Rattle.semver_base.specs.Sameness.{both_reported, text_eq, text_reported, reported_as}
use Rattle.semver_req.specs.Sameness.{inner_eq, inner_reported}
use Rattle.deno_semver.specs.Equal.{AreEqualDependencies, AreEqualReferences, AreEqualReqs}
use Rattle.deno_semver.specs.ReqOrderLaws.{req_eq}
use Rattle.deno_semver.specs.contracts.package.values.PackageKind.{the_type}
use Rattle.deno_semver.specs.declared.jsr.dependency.JsrDepPackageReq.{JsrDepPackageReq}
use Rattle.deno_semver.specs.declared.package.values.PackageKind.{PackageKind}
use Rattle.deno_semver.specs.declared.package.values.PackageKind.TheVariants.{Jsr, Npm}
use Rattle.deno_semver.specs.declared.package.values.PackageNv.{PackageNv}
use Rattle.deno_semver.specs.declared.package.nv_reference.PackageNvReference.{PackageNvReference}
use Rattle.deno_semver.specs.declared.package.reference.PackageReqReference.{PackageReqReference}
use Rattle.deno_semver.specs.declared.package.values.PackageReq.{PackageReq}

pub path_reported : (x y : Option (List ℕ)) → Decides (option_eq text_eq x y) (x ≡ y)
path_reported None None = (λ e. refl, λ e. refl)
path_reported None (Some y) = (λ e. cc e, λ e. cc e)
path_reported (Some x) None = (λ e. cc e, λ e. cc e)
path_reported (Some x) (Some y) = reported_as (text_eq x y) (ap Some) (λ e. cc e) (text_reported x y)

abbrev registry_eq : PackageKind → PackageKind → Bool
registry_eq = sameb the_type

pub registry_reported : (x y : PackageKind) → Decides (registry_eq x y) (x ≡ y)
registry_reported Jsr Jsr = (λ e. refl, λ e. refl)
registry_reported Jsr Npm = (λ e. cc e, λ e. cc e)
registry_reported Npm Jsr = (λ e. cc e, λ e. cc e)
registry_reported Npm Npm = (λ e. refl, λ e. refl)

req_reported : (x y : PackageReq) → Decides (req_eq x y) (AreEqualReqs x y)
req_reported x y = both_reported (text_eq x.name y.name) (inner_eq x.version_req.inner y.version_req.inner) (text_reported x.name y.name) (inner_reported x.version_req.inner y.version_req.inner)

pub reference_reported : (x y : PackageReqReference) → Decides (req_eq x.req y.req && option_eq text_eq x.sub_path y.sub_path) (AreEqualReferences x y)
reference_reported x y = both_reported (req_eq x.req y.req) (option_eq text_eq x.sub_path y.sub_path) (req_reported x.req y.req) (path_reported x.sub_path y.sub_path)

abbrev dependency_eq : JsrDepPackageReq → JsrDepPackageReq → Bool
dependency_eq x y = registry_eq x.kind y.kind && req_eq x.req y.req

pub dependency_reported : (x y : JsrDepPackageReq) → Decides (dependency_eq x y) (AreEqualDependencies x y)
dependency_reported x y = both_reported (registry_eq x.kind y.kind) (req_eq x.req y.req) (registry_reported x.kind y.kind) (req_reported x.req y.req)

abbrev pub nv_of : List ℕ → Version → PackageNv
nv_of n v = record { name = n; version = v }

pub same_nv : {n m : List ℕ} {v w : Version} → n ≡ m → v ≡ w → nv_of n v ≡ nv_of m w
same_nv e f = rw (e, f) refl

abbrev nv_eq : PackageNv → PackageNv → Bool
nv_eq x y = text_eq x.name y.name && version_eq x.version y.version

pub nv_reported : (x y : PackageNv) → Decides (nv_eq x y) (x ≡ y)
nv_reported x y = reported_as (nv_eq x y) (λ h. same_nv h.0 h.1) (λ e. (ap (λ (nv : PackageNv). nv.name) e, ap (λ (nv : PackageNv). nv.version) e))
    (both_reported (text_eq x.name y.name) (version_eq x.version y.version) (text_reported x.name y.name) (version_reported x.version y.version))

abbrev pub reference_of : PackageNv → Option (List ℕ) → PackageNvReference
reference_of nv path = record { nv = nv; sub_path = path }

pub same_reference : {n m : PackageNv} {p q : Option (List ℕ)} → n ≡ m → p ≡ q → reference_of n p ≡ reference_of m q
same_reference e f = rw (e, f) refl

abbrev nv_reference_eq : PackageNvReference → PackageNvReference → Bool
nv_reference_eq x y = nv_eq x.nv y.nv && option_eq text_eq x.sub_path y.sub_path

pub nv_reference_reported : (x y : PackageNvReference) → Decides (nv_reference_eq x y) (x ≡ y)
nv_reference_reported x y = reported_as (nv_reference_eq x y) (λ h. same_reference h.0 h.1) (λ e. (ap (λ (r : PackageNvReference). r.nv) e, ap (λ (r : PackageNvReference). r.sub_path) e))
    (both_reported (nv_eq x.nv y.nv) (option_eq text_eq x.sub_path y.sub_path) (nv_reported x.nv y.nv) (path_reported x.sub_path y.sub_path))
