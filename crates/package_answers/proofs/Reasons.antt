-- Each fault of a text is shown by one failure.
use Rattle.std.proofs.Common.{◌≡◌, ◌∙◌, ◌⊎◌, List, [], ℕ, None, Some, codes, refl, sym, ap, subst, inl, inr}
use Rattle.semver_base.specs.Failure.{rejection_message}
use Rattle.semver_base.specs.declared.failure.Rejection.{Rejection}
use Rattle.semver_req.specs.Parsers.{Failure}
use Rattle.semver_req.specs.TextRejection.{TextsAreRejectedForOneReason}
use Rattle.semver_req.specs.declared.common.values.Flavour.{Flavour}
use Rattle.semver_req.specs.declared.common.values.Flavour.TheVariants.{Npm, Normal, Specifier}
use Rattle.deno_semver.specs.DependencyOutcome as dependency
use Rattle.deno_semver.specs.DependencyOutcome.{BadRequirement, DependencyFault, ReportsDependency}
use Rattle.deno_semver.specs.PackageOutcome.{BadName, BadVersion, HasPath, NoAt, NoName, PackageFault, rejected_by}
use Rattle.deno_semver.specs.ReferenceOutcome.{BadText, OtherScheme, ReferenceFault, ReportsReference, VersionInPath, unboxed}
use Rattle.deno_semver.specs.declared.jsr.dependency.JsrDepPackageReqParseError.{JsrDepPackageReqParseError}
use Rattle.deno_semver.specs.declared.jsr.dependency.JsrDepPackageReqParseError.TheVariants as error
use Rattle.deno_semver.specs.declared.package.errors.PackageReqReferenceParseError.{PackageReqReferenceParseError}
use Rattle.deno_semver.specs.declared.package.values.PackageKind.{PackageKind}
use Rattle.package_answers.specs.Names.{ShowsRejection}
use Rattle.package_answers.specs.Packages.{ShowsPackageFault, parts_failure}
use Rattle.package_answers.specs.References.{ShowsReferenceFault, reference_failure}
use Rattle.package_answers.specs.Specifiers.{ShowsDependencyFault, dependency_failure}
use Rattle.package_answers.proofs.Outcomes.{one_registry}

rejected_failure : (f : Flavour) (failure : Failure) → parts_failure (rejected_by f failure) ≡ failure
rejected_failure Npm failure = refl
rejected_failure Normal failure = refl
rejected_failure Specifier failure = refl

-- a failure that may be out of memory instead
pub shown_as : {S : Type 0} (failure shown : Failure) → (failure ≡ None) ⊎ (failure ≡ shown) → (failure ≡ shown → S) → (failure ≡ None) ⊎ S
shown_as failure shown (inl none) shows = inl none
shown_as failure shown (inr is) shows = inr (shows is)

pub shown_message : (message : List ℕ) (fault : Rejection) (failure : Failure) → (failure ≡ None) ⊎ ((message ≡ [] → ⊥) × (failure ≡ Some (message, None))) → message ≡ rejection_message fault
    → (failure ≡ None) ⊎ ShowsRejection fault failure
shown_message message fault failure (inl none) is = inl none
shown_message message fault failure (inr h) is = inr (h.1 ∙ ap (λ (text : List ℕ). Some (text, None)) is)

pub rejection_reason : (fault : Rejection) (p q : Failure) → ShowsRejection fault p → ShowsRejection fault q → p ≡ q
rejection_reason fault p q h k = h ∙ sym k

scheme_failure : (f : Flavour) (text : List ℕ) (e : JsrDepPackageReqParseError) → ReportsDependency f text dependency.OtherScheme e → dependency_failure e ≡ Some (codes "Neither jsr: nor npm: stands in front.", None)
scheme_failure f text (error.NotExpectedScheme scheme) r = refl
scheme_failure f text (error.PackageReqParse inner) r = absurd r
scheme_failure f text error.Memory r = absurd r

requirement_failure : (f : Flavour) (text body : List ℕ) (fault : PackageFault) (e : JsrDepPackageReqParseError) → ReportsDependency f text (BadRequirement body fault) e → ShowsPackageFault f fault (dependency_failure e)
requirement_failure f text body fault (error.NotExpectedScheme scheme) r = absurd r
requirement_failure f text body fault (error.PackageReqParse inner) r = (inner.source, r.source, refl)
requirement_failure f text body fault error.Memory r = absurd r

module _ (one_reason : TextsAreRejectedForOneReason) where
  pub package_reason : (f : Flavour) (fault : PackageFault) (p q : Failure) → ShowsPackageFault f fault p → ShowsPackageFault f fault q → p ≡ q
  package_reason f NoName p q h k = h.2 ∙ ap parts_failure (h.1 ∙ sym k.1) ∙ sym k.2
  package_reason f BadName p q h k = h.2 ∙ ap parts_failure (h.1 ∙ sym k.1) ∙ sym k.2
  package_reason f (BadVersion version) p q h k =
      let same = one_reason f version h.1.0 k.1.0 h.1.2 k.1.2 h.1.1 k.1.1 in
      (h.2 ∙ ap parts_failure h.1.3 ∙ rejected_failure f h.1.0) ∙ same ∙ sym (k.2 ∙ ap parts_failure k.1.3 ∙ rejected_failure f k.1.0)
  package_reason f (HasPath path) p q h k = h.2 ∙ ap parts_failure (h.1 ∙ sym k.1) ∙ sym k.2
  package_reason f NoAt p q h k = h.2 ∙ ap parts_failure (h.1 ∙ sym k.1) ∙ sym k.2

  pub reported_reason : (registry : PackageKind) (text : List ℕ) (fault : ReferenceFault) (e d : PackageReqReferenceParseError) → ReportsReference registry text fault e → ReportsReference registry text fault d
      → reference_failure (unboxed e) ≡ reference_failure (unboxed d)
  reported_reason registry text OtherScheme e d r s = ap reference_failure (r ∙ sym s)
  reported_reason registry text (BadText fault) e d r s =
      ap reference_failure r.2 ∙ package_reason Specifier fault (parts_failure r.0) (parts_failure s.0) (r.0, r.1, refl) (s.0, s.1, refl) ∙ sym (ap reference_failure s.2)
  reported_reason registry text (VersionInPath current suggested) e d r s = ap reference_failure (r ∙ sym s)

  pub reference_reason : (text : List ℕ) (fault : ReferenceFault) (p q : Failure) → ShowsReferenceFault text fault p → ShowsReferenceFault text fault q → p ≡ q
  reference_reason text fault p q h k =
      let reports = subst (λ (registry : PackageKind). ReportsReference registry text fault k.1) (one_registry text k.0 h.0 k.2 h.2) k.3 in
      h.4 ∙ reported_reason h.0 text fault h.1 k.1 h.3 reports ∙ sym k.4

  pub dependency_reason : (f : Flavour) (text : List ℕ) (fault : DependencyFault) (p q : Failure) → ShowsDependencyFault f text fault p → ShowsDependencyFault f text fault q → p ≡ q
  dependency_reason f text dependency.OtherScheme p q h k = h.2 ∙ scheme_failure f text h.0 h.1 ∙ sym (k.2 ∙ scheme_failure f text k.0 k.1)
  dependency_reason f text (BadRequirement body fault) p q h k =
      h.2 ∙ package_reason f fault (dependency_failure h.0) (dependency_failure k.0) (requirement_failure f text body fault h.0 h.1) (requirement_failure f text body fault k.0 k.1) ∙ sym k.2
