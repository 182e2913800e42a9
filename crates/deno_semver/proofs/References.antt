-- A text parses to one reference or has one fault, and which fault an error reports.
use Rattle.std.proofs.Common.{◌≡◌, ℕ, List, ◌∷◌, ◌++◌, Option, Some, Result, Ok, Err, refl, sym, ap, subst, ◌∙◌, inl, inr}
use Rattle.std.proofs.lemmas.List.{append_cancel_left}
use Rattle.semver_req.specs.Outcome.{TextsHaveOneOutcome}
use Rattle.semver_req.specs.declared.common.values.Flavour.TheVariants.{Specifier}
use Rattle.deno_semver.specs.Kind.{scheme_of}
use Rattle.deno_semver.specs.PackageOutcome.{PackageFault, IsFirstPackageFault, bad_name, bad_version, has_path, no_name}
use Rattle.deno_semver.specs.PackageText.{PackageParts, scoped_name}
use Rattle.deno_semver.specs.ReferenceOutcome.{BadText, HasVersionInPath, IsOfReference, IsReadReference, IsReferenceAnswer, IsReferenceOutcome, IsReferenceRejection, ReferenceFault, VersionInPath, bad_text, is_reference, other_scheme, version_in_path}
use Rattle.deno_semver.specs.ReferenceReading.{IsFrontError, IsReportedInvalid, IsReportedVersion}
use Rattle.deno_semver.specs.ReferenceText.{reference_text, sub_path_of, text_with_version}
use Rattle.deno_semver.specs.declared.package.errors.PackageReqPartsParseError.{PackageReqPartsParseError}
use Rattle.deno_semver.specs.declared.package.values.PackageKind.{PackageKind}
use Rattle.deno_semver.specs.declared.package.reference.PackageReqReference.{PackageReqReference}
use Rattle.deno_semver.specs.declared.package.errors.PackageReqReferenceParseError.{PackageReqReferenceParseError}
use Rattle.deno_semver.specs.declared.package.values.PackageReq.{PackageReq}
use Rattle.deno_semver.proofs.PackageFaults.{fault_one, read_or_rejected, same_pair, version_at, version_one}
use Rattle.deno_semver.proofs.PackageText.{last_one, no_alone, no_part, package_one}

-- ---- one parse

abbrev reference_of : PackageReq → Option (List ℕ) → PackageReqReference
reference_of req path = record { req = req; sub_path = path }

same_reference : {x y : PackageReq} {p q : Option (List ℕ)} → x ≡ y → p ≡ q → reference_of x p ≡ reference_of y q
same_reference a b = rw (a, b) refl

module _ (texts : TextsHaveOneOutcome) {body : List ℕ} where
  reference_one : (x y : PackageReqReference) → IsReadReference body x → IsReadReference body y → x ≡ y
  reference_one x y h k =
      let same : h.cut ≡ k.cut = package_one h.cut k.cut h.is_cut k.is_cut in
      let names : x.req.name ≡ y.req.name = h.name ∙ (ap (λ (c : PackageParts). scoped_name c.scope c.name) same ∙ sym k.name) in
      let reqs : x.req.version_req ≡ y.req.version_req = version_one texts Specifier k.cut.version x.req.version_req y.req.version_req (version_at Specifier x.req.version_req same h.version_req) k.version_req in
      let paths : x.sub_path ≡ y.sub_path = h.sub_path ∙ (ap (λ (c : PackageParts). sub_path_of c.path) same ∙ sym k.sub_path) in
      same_reference (same_pair names reqs) paths

  no_fault : {r : PackageReqReference} (fault : PackageFault) → IsReadReference body r → IsFirstPackageFault Specifier body fault → IsOfReference fault → ⊥
  no_fault _ h (no_name s) of = no_part h.cut h.is_cut s
  no_fault _ h (bad_name s) of = no_alone h.cut h.is_cut s
  no_fault {r} _ h (bad_version {cut} {version = v} k is rejected) of =
      read_or_rejected texts Specifier cut.version v r.req.version_req is (version_at Specifier r.req.version_req (package_one h.cut cut h.is_cut k) h.version_req) rejected
  no_fault _ h (has_path req k vr p) of = absurd of

version_of_one : (r : PackageReqReference) {b v c w : List ℕ} → HasVersionInPath r b v → HasVersionInPath r c w → (b ≡ c) × (v ≡ w)
version_of_one r {b} {v} {c} {w} h k =
    let same : Some (b ++ (64 ∷ v)) ≡ Some (c ++ (64 ∷ w)) = sym h.path ∙ k.path in
    let paths : b ++ (64 ∷ v) ≡ c ++ (64 ∷ w) = cc same in
    last_one b v c w paths h.last_at k.last_at

-- ---- one outcome

abbrev moved : PackageReqReference → List ℕ → List ℕ → ReferenceFault
moved r before version = VersionInPath (reference_text r) (text_with_version r.req version before)

same_moved : {r s : PackageReqReference} {b c v w : List ℕ} → r ≡ s → b ≡ c → v ≡ w → moved r b v ≡ moved s c w
same_moved a b c = rw (a, b, c) refl

module _ (kind : PackageKind) {text : List ℕ} where
  pub bodies : {a b : List ℕ} → text ≡ scheme_of kind ++ a → text ≡ scheme_of kind ++ b → a ≡ b
  bodies {a} {b} e f = append_cancel_left (scheme_of kind) a b (sym e ∙ f)

  at : {a b : List ℕ} {r : PackageReqReference} → text ≡ scheme_of kind ++ a → text ≡ scheme_of kind ++ b → IsReadReference a r → IsReadReference b r
  at {r = r} e f h = subst (λ (t : List ℕ). IsReadReference t r) (bodies e f) h

  fault_at : {a b : List ℕ} {fault : PackageFault} → text ≡ scheme_of kind ++ a → text ≡ scheme_of kind ++ b → IsFirstPackageFault Specifier a fault → IsFirstPackageFault Specifier b fault
  fault_at {fault = fault} e f h = subst (λ (t : List ℕ). IsFirstPackageFault Specifier t fault) (bodies e f) h

module _ (texts : TextsHaveOneOutcome) {kind : PackageKind} {text : List ℕ} where
  pub outcome_one : (o p : Result PackageReqReference ReferenceFault) → IsReferenceOutcome kind text o → IsReferenceOutcome kind text p → o ≡ p
  outcome_one _ _ (other_scheme none) (other_scheme none') = refl
  outcome_one _ _ (other_scheme none) (is_reference {body} e h n) = absurd (none body e)
  outcome_one _ _ (other_scheme none) (bad_text {body} e h of) = absurd (none body e)
  outcome_one _ _ (other_scheme none) (version_in_path {body} e h v) = absurd (none body e)
  outcome_one _ _ (is_reference {body} e h n) (other_scheme none) = absurd (none body e)
  outcome_one _ _ (is_reference {reference = x} e h n) (is_reference {reference = y} f k m) = ap Ok (reference_one texts x y (at kind e f h) k)
  outcome_one _ _ (is_reference {reference = x} e h n) (bad_text {fault} f k of) = absurd (no_fault texts fault (at kind e f h) k of)
  outcome_one _ _ (is_reference {reference = x} e h n) (version_in_path {before} {version} {reference = y} f k v) =
      absurd (n before version (subst (λ (r : PackageReqReference). HasVersionInPath r before version) (sym (reference_one texts x y (at kind e f h) k)) v))
  outcome_one _ _ (bad_text {body} e h of) (other_scheme none) = absurd (none body e)
  outcome_one _ _ (bad_text {fault} e h of) (is_reference f k m) = absurd (no_fault texts fault (at kind f e k) h of)
  outcome_one _ _ (bad_text {fault = a} e h of) (bad_text {fault = b} f k of') = ap (λ (x : PackageFault). Err (BadText x)) (fault_one texts a b (fault_at kind e f h) k)
  outcome_one _ _ (bad_text {fault} e h of) (version_in_path f k v) = absurd (no_fault texts fault (at kind f e k) h of)
  outcome_one _ _ (version_in_path {body} e h v) (other_scheme none) = absurd (none body e)
  outcome_one _ _ (version_in_path {before} {version} {reference = x} e h v) (is_reference {reference = y} f k m) =
      absurd (m before version (subst (λ (r : PackageReqReference). HasVersionInPath r before version) (reference_one texts x y (at kind e f h) k) v))
  outcome_one _ _ (version_in_path e h v) (bad_text {fault} f k of) = absurd (no_fault texts fault (at kind e f h) k of)
  outcome_one _ _ (version_in_path {before = b} {version = v} {reference = x} e h has) (version_in_path {before = c} {version = w} {reference = y} f k has') =
      let same = reference_one texts x y (at kind e f h) k in
      let parts = version_of_one y (subst (λ (r : PackageReqReference). HasVersionInPath r b v) same has) has' in
      ap (λ (x : ReferenceFault). Err x) (same_moved same parts.0 parts.1)

  -- ---- results

  pub read_answer : (r : PackageReqReference) → IsReferenceOutcome kind text (Ok r) → (o : Result PackageReqReference ReferenceFault) → IsReferenceOutcome kind text o → IsReferenceAnswer kind text o (Ok r)
  read_answer r h o k = subst (λ (x : Result PackageReqReference ReferenceFault). IsReferenceAnswer kind text x (Ok r)) (outcome_one (Ok r) o h k) refl

  pub rejected_answer : {e : PackageReqReferenceParseError} → IsReferenceRejection kind text e → (o : Result PackageReqReference ReferenceFault) → IsReferenceOutcome kind text o → IsReferenceAnswer kind text o (Err e)
  rejected_answer (inl memory) (Ok r) k = memory
  rejected_answer (inl memory) (Err fault) k = inl memory
  rejected_answer {e} (inr h) o k = subst (λ (x : Result PackageReqReference ReferenceFault). IsReferenceAnswer kind text x (Err e)) (outcome_one (Err h.0) o h.1 k) (inr h.2)

module _ {kind : PackageKind} {text : List ℕ} where
  pub rejected_text : {body : List ℕ} {source : PackageReqPartsParseError} {e : PackageReqReferenceParseError} → text ≡ scheme_of kind ++ body → IsFrontError Specifier body source → IsReportedInvalid text source e
      → IsReferenceRejection kind text e
  rejected_text is fault (inl memory) = inl memory
  rejected_text is (inl memory) (inr h) = absurd (h.0 memory)
  rejected_text {source = source} is (inr fault) (inr h) = inr (BadText fault.0, bad_text is fault.1 fault.2, (source, fault.3, h.1))

  pub rejected_version : {body before version : List ℕ} {r : PackageReqReference} {e : PackageReqReferenceParseError} → text ≡ scheme_of kind ++ body → IsReadReference body r → HasVersionInPath r before version
      → IsReportedVersion kind r before version e → IsReferenceRejection kind text e
  rejected_version is h has (inl memory) = inl memory
  rejected_version {before = b} {version = v} {r = r} is h has (inr reported) = inr (moved r b v, version_in_path is h has, reported)
