-- Where the text of a reference has a fault.
use Rattle.std.proofs.Common.{◌≡◌, ◌≢◌, ◌∙◌, ◌+◌, ◌-◌, ◌==◌, ◌||◌, Bool, false, ◌++◌, ◌∷◌, ℕ, List, [], true, Option, None, Some, Err, Bor, MatchOption, ap, append_assoc, arith, inl, inr, length, length-append, Ok, refl, subst, sym, ◌⊎◌, bytes_eq, codes, if◌then◌else◌, unwrap_or}
use Rattle.std.specs.List.{list_all}
use Rattle.std.proofs.lemmas.List.{append_cancel_left}
use Rattle.std.proofs.lemmas.Bool.{and_parts}
use Rattle.std.proofs.lemmas.List.Folds.{list_all-append}
use Rattle.semver_req.specs.Parsers.{Failure}
use Rattle.semver_req.specs.declared.common.values.Flavour.TheVariants.{Specifier}
use Rattle.deno_semver.specs.Cuts.{is_not}
use Rattle.deno_semver.specs.Kind.{scheme_of}
use Rattle.deno_semver.specs.PackageOutcome.{BadVersion, PackageFault, Reports}
use Rattle.deno_semver.specs.PackageText.{IsAfterScope, IsPackageText, IsPathPart, PackageParts, without_slash}
use Rattle.deno_semver.specs.ReferenceOutcome as error
use Rattle.deno_semver.specs.ReferenceOutcome.{BadText, IsReferenceOutcome, IsReferenceRejection, OtherScheme, ReferenceFault, ReportsReference, VersionInPath, bad_text, is_reference, unboxed, version_in_path}
use Rattle.deno_semver.specs.ReferenceReading.{IsAfterScheme}
use Rattle.deno_semver.specs.ReferenceText.{sub_path_of}
use Rattle.deno_semver.specs.declared.package.values.PackageKind.{PackageKind}
use Rattle.deno_semver.specs.declared.package.reference.PackageReqReference.{PackageReqReference}
use Rattle.deno_semver.specs.declared.package.errors.PackageReqReferenceInvalidParseError.{PackageReqReferenceInvalidParseError}
use Rattle.deno_semver.specs.declared.package.errors.PackageReqReferenceInvalidWithVersionParseError.{PackageReqReferenceInvalidWithVersionParseError}
use Rattle.deno_semver.specs.declared.package.errors.PackageReqReferenceParseError.{PackageReqReferenceParseError}
use Rattle.package_answers.specs.Errors.{IsFaultAt, IsPartError}
use Rattle.package_answers.specs.Packages.{AreOfRange}
use Rattle.package_answers.specs.References.{AreBehindScheme, AreReferenceErrors, IsReferenceFaultAt, IsRegistryOf, bad_version, behind_scheme, other_fault, reference_failure, valid}
use Rattle.package_answers.specs.declared.errors.PackageErrors.{PackageErrors}
use Rattle.package_answers.specs.declared.errors.PackageErrors.TheVariants as errors
use Rattle.package_answers.specs.declared.errors.Part.{Part}
use Rattle.package_answers.proofs.PackagePlaces.{IsAt}

-- ---- a path ends its text

abbrev Ends : List ℕ → List ℕ → Type 0
Ends text end = (front : List ℕ) × (text ≡ front ++ end)

ends_more : {text end more : List ℕ} → Ends text end → Ends end more → Ends text more
ends_more {more = more} h k = (h.0 ++ k.0, h.1 ∙ (ap (λ t. h.0 ++ t) k.1 ∙ sym (append_assoc h.0 k.0 more)))

ends_body : (text : List ℕ) → Ends text (without_slash text)
ends_body [] = ([], refl)
ends_body (b ∷ rest) = go (b == 47)
  where
    go : (is : Bool) → Ends (b ∷ rest) (if is then rest else b ∷ rest)
    go true = (b ∷ [], refl)
    go false = ([], refl)

ends_name : (scope : Option (List ℕ)) (body rest : List ℕ) → IsAfterScope scope body rest → Ends body rest
ends_name None body rest h = ([], h.1)
ends_name (Some s) body rest h = (s ++ 47 ∷ [], h.1 ∙ sym (append_assoc s (47 ∷ []) rest))

ends_path : (tail path : List ℕ) → IsPathPart tail path → Ends tail path
ends_path [] path h = ([], sym h)
ends_path (b ∷ rest) path h = (b ∷ [], rw h.1 refl)

path_last : {text : List ℕ} (cut : PackageParts) → IsPackageText text cut → Ends text cut.path
path_last {text} cut h = ends_more (ends_body text) (ends_more (ends_name cut.scope (without_slash text) h.rest h.scope) (ends_more (h.last, h.rest_is) (ends_path h.tail cut.path h.path)))

path_of : (path sub : List ℕ) → sub_path_of path ≡ Some sub → path ≡ sub
path_of path sub h = go (bytes_eq path [] || bytes_eq path (codes "/")) h
  where
    go : (none : Bool) → (if none then None else Some path) ≡ Some sub → path ≡ sub
    go true e = cc e
    go false e = cc e

-- ---- which fault an error reports

module _ {kind : PackageKind} {text : List ℕ} where
  -- a version in the path follows an `@`
  pub no_version : {current suggested : List ℕ} → IsReferenceOutcome kind text (Err (VersionInPath current suggested)) → list_all (is_not 64) text ≡ true → ⊥
  no_version (version_in_path {body} {before} {version} text_is h has) none =
      let path : Ends body (before ++ (64 ∷ version)) = subst (Ends body) (path_of h.cut.path (before ++ (64 ∷ version)) (sym h.sub_path ∙ has.path)) (path_last h.cut h.is_cut) in
      let whole = ends_more (scheme_of kind, text_is) (ends_more path (before, refl)) in
      cc (and_parts (list_all (is_not 64) whole.0) _ (sym (list_all-append (is_not 64) whole.0 (64 ∷ version)) ∙ rw whole.1 at none)).1

  scheme_first : {fault : PackageFault} → IsReferenceOutcome kind text (Err (BadText fault)) → (body : List ℕ) × (text ≡ scheme_of kind ++ body)
  scheme_first (bad_text {body} text_is h of) = (body, text_is)

module _ (kind : PackageKind) (text : List ℕ) (e : PackageReqReferenceParseError) where
  pub lacks_scheme : (fault : ReferenceFault) (other : PackageKind) → ReportsReference kind text fault e → unboxed e ≡ error.NotExpectedScheme other → fault ≡ OtherScheme
  lacks_scheme OtherScheme other h is = refl
  lacks_scheme (BadText fault) other h is = cc (h.2, is)
  lacks_scheme (VersionInPath current suggested) other h is = cc (h, is)

  pub has_version : (fault : ReferenceFault) (value : PackageReqReferenceInvalidWithVersionParseError) → ReportsReference kind text fault e → unboxed e ≡ error.InvalidPathWithVersion value
      → (current : List ℕ) × (suggested : List ℕ) × (fault ≡ VersionInPath current suggested)
  has_version OtherScheme value h is = cc (h, is)
  has_version (BadText fault) value h is = cc (h.2, is)
  has_version (VersionInPath current suggested) value h is = (current, suggested, refl)

  pub has_bad_text : (fault : ReferenceFault) (value : PackageReqReferenceInvalidParseError) → ReportsReference kind text fault e → unboxed e ≡ error.Invalid value → (inner : PackageFault) × (fault ≡ BadText inner) × Reports Specifier inner value.source
  has_bad_text OtherScheme value h is = cc (h, is)
  has_bad_text (BadText inner) value h is =
      let same : error.Invalid (record { specifier = text; source = h.0 }) ≡ error.Invalid value = sym h.2 ∙ is in
      let source : h.0 ≡ value.source = cc same in
      (inner, refl, subst (Reports Specifier inner) source h.1)
  has_bad_text (VersionInPath current suggested) value h is = cc (h, is)

  pub no_memory : (fault : ReferenceFault) → ReportsReference kind text fault e → unboxed e ≡ error.Memory → ⊥
  no_memory OtherScheme h is = cc (h, is)
  no_memory (BadText fault) h is = cc (h.2, is)
  no_memory (VersionInPath current suggested) h is = cc (h, is)

-- ---- behind the scheme

module _ (kind : PackageKind) (text : List ℕ) (body : List ℕ) (body_is : (b : List ℕ) → text ≡ scheme_of kind ++ b → body ≡ b) where
  text_is : (b : List ℕ) → text ≡ scheme_of kind ++ b → text ≡ scheme_of kind ++ body
  text_is b is = is ∙ ap (λ t. scheme_of kind ++ t) (sym (body_is b is))

  scheme_before : (b : List ℕ) → text ≡ scheme_of kind ++ b → length text - length body ≡ length (scheme_of kind)
  scheme_before b is = omega (arith, ap length (text_is b is), length-append (scheme_of kind) body)

  pub behind : (fault : ReferenceFault) {inner : PackageFault} {missing : Option Part} {place : ℕ} → fault ≡ BadText inner → IsReferenceOutcome kind text (Err fault) → IsFaultAt body inner missing place
      → IsReferenceFaultAt text fault missing (length text - length body + place)
  behind fault {inner} {missing} {place} is outcome h =
      let first = scheme_first (rw is at outcome) in
      rw (is, scheme_before first.0 first.1) (behind_scheme kind (text_is first.0 first.1) h)

  of_range : (b : List ℕ) (all : PackageErrors) → text ≡ scheme_of kind ++ b → AreOfRange Specifier (length text - length body) body all → AreBehindScheme kind text all
  of_range b all is h = record { body = body; text_is = text_is b is; are = subst (λ n. AreOfRange Specifier n body all) (scheme_before b is) h }

  -- ---- the errors of a text, by what its parser reports

  module _ (registry : IsRegistryOf text kind) where
    pub read : (r : PackageReqReference) (all : PackageErrors) → IsReferenceOutcome kind text (Ok r) → AreOfRange Specifier (length text - length body) body all → AreReferenceErrors text all
    read r all (is_reference {body = b} is h lacks) are = valid {read = record { kind = kind; reference = r }} (registry, is_reference is h lacks) (of_range b all is are)

    module _ (e : PackageReqReferenceParseError) (failure : Failure) (rejected : IsReferenceRejection kind text e) (failure_is : (failure ≡ None) ⊎ (failure ≡ reference_failure (unboxed e))) (some : failure ≢ None) where
      is_failure : failure ≡ reference_failure (unboxed e)
      is_failure = go failure_is
        where
          go : (failure ≡ None) ⊎ (failure ≡ reference_failure (unboxed e)) → failure ≡ reference_failure (unboxed e)
          go (inl none) = absurd (some none)
          go (inr is) = is

      by_place : (fault : ReferenceFault) → IsReferenceOutcome kind text (Err fault) → ReportsReference kind text fault e → (place : Option (ℕ × Option Part)) (all : PackageErrors)
          → MatchOption place ((version : List ℕ) × (fault ≡ BadText (BadVersion version))) (λ at. IsReferenceFaultAt text fault at.1 at.0)
          → MatchOption place (AreOfRange Specifier (length text - length body) body all) (λ at. IsPartError (IsAt at) failure all) → AreReferenceErrors text all
      by_place fault is reports None all of are =
          let outcome : IsReferenceOutcome kind text (Err (BadText (BadVersion of.0))) = subst (λ (x : ReferenceFault). IsReferenceOutcome kind text (Err x)) of.1 is in
          let first = scheme_first outcome in
          bad_version kind (kind, registry, outcome) (of_range first.0 all first.1 are)
      by_place fault is reports (Some at) (errors.Range pieces) h are = absurd are
      by_place fault is reports (Some at) (errors.Part error) h are = other_fault kind e registry is reports (rw (are.0.0, are.0.1) h, are.1 ∙ is_failure)

      pub reported : (place : Option (ℕ × Option Part)) (all : PackageErrors)
          → ((k : PackageKind) (fault : ReferenceFault) → IsReferenceOutcome k text (Err fault) → ReportsReference k text fault e → ((b : List ℕ) → text ≡ scheme_of k ++ b → body ≡ b)
          → MatchOption place ((version : List ℕ) × (fault ≡ BadText (BadVersion version))) (λ at. IsReferenceFaultAt text fault at.1 at.0))
          → MatchOption place (AreOfRange Specifier (length text - length body) body all) (λ at. IsPartError (IsAt at) failure all) → AreReferenceErrors text all
      reported place all there are = go rejected
        where
          go : IsReferenceRejection kind text e → AreReferenceErrors text all
          go (inl memory) = absurd (some (is_failure ∙ ap reference_failure memory))
          go (inr found) = by_place found.0 found.1 found.2 place all (there kind found.0 found.1 found.2 body_is) are

-- the text behind the scheme, if that is first
pub body_is : (kind : PackageKind) (text : List ℕ) (r : Option (Bor (List ℕ))) (other : Bor (List ℕ)) → IsAfterScheme kind text r → (b : List ℕ) → text ≡ scheme_of kind ++ b → (unwrap_or r other).now ≡ b
body_is kind text None other h b is = absurd (h b is)
body_is kind text (Some body) other h b is = append_cancel_left (scheme_of kind) body.now b (sym h ∙ is)
