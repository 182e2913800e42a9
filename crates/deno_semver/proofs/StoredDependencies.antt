-- What the stored canonical form of a dependency parsed by npm's grammar parses to.
use Rattle.std.proofs.Common.{◌≡◌, ℕ, List, ◌++◌, Ok, refl, sym, subst, arith, IsUtf8, codes}
use Rattle.serde_json.specs.Data.{string}
use Rattle.semver_req.specs.declared.common.values.Flavour.TheVariants.{Npm}
use Rattle.deno_semver.specs.DependencyText.{normal_dependency_text}
use Rattle.deno_semver.specs.DependencyOutcome.{IsDependencyOutcome, is_dependency}
use Rattle.deno_semver.specs.Json.{IsStringOf, IsTextOfDependency, IsTextOfReq}
use Rattle.deno_semver.specs.Kind.{scheme_of}
use Rattle.deno_semver.specs.RequirementText.{normal_req_text}
use Rattle.deno_semver.specs.Stored.{IsStableDependency, IsStableReq, IsStoredDependency, IsStoredReq, StoredRequirementsAreReadAgain}
use Rattle.deno_semver.specs.declared.jsr.dependency.JsrDepPackageReq.{JsrDepPackageReq}
use Rattle.deno_semver.specs.declared.package.values.PackageKind.{PackageKind}
use Rattle.deno_semver.specs.declared.package.values.PackageKind.TheVariants as registry
use Rattle.deno_semver.specs.declared.package.values.PackageReq.{PackageReq}
use Rattle.deno_semver.proofs.StoredReqs.{after_ascii}
use Rattle.deno_semver.proofs.Dependencies.{dependency_of}

text_same : (a b : List ℕ) → string a ≡ string b → a ≡ b
text_same a b e = cc e

-- after the scheme, a text that parses to a package requirement parses to a dependency
string_of : (kind : PackageKind) (text : List ℕ) (again : PackageReq) → IsStringOf IsTextOfReq (string text) again → IsStringOf IsTextOfDependency (string (scheme_of kind ++ text)) (dependency_of kind again)
string_of kind text again h = record {
  text = scheme_of kind ++ text;
  is_string = refl;
  reads = is_dependency kind text refl (subst (λ t. IsTextOfReq t again) (sym (text_same text h.text h.is_string)) h.reads);
}

stable : (kind : PackageKind) (req : PackageReq) → IsStableReq req → IsStableDependency (dependency_of kind req)
stable kind req h = record {
  again = dependency_of kind h.again;
  parses_to = string_of kind (normal_req_text req) h.again h.parses_to;
  equal = (refl, h.equal);
}

stored : (kind : PackageKind) (req : PackageReq) → IsStoredReq req (string (normal_req_text req)) → IsStoredDependency (dependency_of kind req) (string (normal_dependency_text (dependency_of kind req)))
stored kind req h = record {
  again = dependency_of kind h.again;
  parses_to = string_of kind (normal_req_text req) h.again h.parses_to;
  kind = refl;
  name = h.is_retained.name;
  stored = h.is_retained.stored;
  stable = stable kind h.again h.is_retained.stable;
}

scheme_utf8 : (kind : PackageKind) (body : List ℕ) → IsUtf8 (scheme_of kind ++ body) → IsUtf8 body
scheme_utf8 registry.Jsr body u = after_ascii (codes "jsr") body 58 (omega arith) u
scheme_utf8 registry.Npm body u = after_ascii (codes "npm") body 58 (omega arith) u

-- what is stored of a dependency that npm's grammar parsed from a text
pub stored_dependency : StoredRequirementsAreReadAgain → (d : JsrDepPackageReq) (text : List ℕ) → IsUtf8 text → IsDependencyOutcome Npm text (Ok d) → IsStoredDependency d (string (normal_dependency_text d))
stored_dependency again d text u (is_dependency kind body {req = req} is outcome) = stored kind req (again req body (scheme_utf8 kind body (subst IsUtf8 is u)) outcome)
