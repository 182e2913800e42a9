-- Which fault of a text an error reports, and that a text has one outcome.
use Rattle.std.proofs.Common.{◌≡◌, ◌<◌, ℕ, Bool, true, false, List, [], ◌∷◌, length, Option, Some, None, Result, Ok, Err, refl, sym, ap, subst, ◌∙◌, arith, inl, inr, ◌⊎◌, if◌then◌else◌, codes}
use Rattle.semver_req.specs.Outcome.{IsOutcome, Outcome, Ranges, Rejected, Tag, TextsHaveOneOutcome}
use Rattle.semver_req.specs.Parsers.{IsRead, IsReadFrom}
use Rattle.semver_req.specs.Requirement.{Requirement}
use Rattle.semver_req.specs.declared.common.values.Flavour.{Flavour}
use Rattle.semver_req.specs.declared.range_set_or_tag.RangeSetOrTag.{RangeSetOrTag}
use Rattle.deno_semver.specs.PackageOutcome.{BadName, BadVersion, PackageFault, HasPath, IsFirstPackageFault, IsPackageAnswer, IsPackageOutcome, IsPackageRejection, IsReadReq, IsVersionReq, IsOutOfMemory, NoAt, NoName, Reports, ReportsFault, bad_name, bad_version, failed, has_path, is_fault, is_package, no_name}
use Rattle.deno_semver.specs.PackageReading.{IsFaultError, IsPartsRejection, IsPathError, ReportsSource}
use Rattle.deno_semver.specs.PackageSteps.{IsUncut}
use Rattle.deno_semver.specs.ReferenceReading.{IsFrontError, IsReadWithPath}
use Rattle.deno_semver.specs.PackageText.{IsPackageText, IsPathPart, PackageParts, lacks_at, scoped_name}
use Rattle.deno_semver.specs.declared.package.errors.PackageReqParseError.{PackageReqParseError}
use Rattle.deno_semver.specs.declared.package.errors.PackageReqPartsParseError.{PackageReqPartsParseError}
use Rattle.deno_semver.specs.declared.package.errors.PackageReqPartsParseError.TheVariants as parts
use Rattle.deno_semver.specs.declared.package.values.PackageReq.{PackageReq}
use Rattle.deno_semver.proofs.PackageText.{no_alone, no_part, package_one, part_or_alone}

-- ---- the fault that an error reports

module _ (f : Flavour) (text : List ℕ) {e : PackageReqPartsParseError} where
  pub uncut_error : IsUncut text e → IsFrontError f text e
  uncut_error (inl h) = inr (NoName, no_name h.1, tt, h.0)
  uncut_error (inr h) = inr (BadName, bad_name h.1, tt, h.0)

  pub version_error : (cut : PackageParts) → IsPackageText text cut → IsPartsRejection f cut.version e → IsFrontError f text e
  version_error cut h rejected = go cut.version refl rejected
    where
      go : (v : Option (List ℕ)) → cut.version ≡ v → IsPartsRejection f v e → IsFrontError f text e
      go None is memory = inl memory
      go (Some v) is (inl memory) = inl memory
      go (Some v) is (inr bad) = inr (BadVersion v, bad_version h is bad.rejected, tt, bad.reports)

  pub front_error : IsFrontError f text e → IsFaultError f text e
  front_error (inl memory) = inl memory
  front_error (inr h) = inr (h.0, h.1, h.3)

  path_error : (cut : PackageParts) (req : Requirement) (tail : List ℕ) → IsPackageText text cut → IsVersionReq f cut.version req → IsPathPart tail cut.path → 0 < length cut.path
      → IsPathError tail e → IsFaultError f text e
  path_error cut req tail h is is_path some (inl memory) = inl memory
  path_error cut req tail h is is_path some (inr reported) = inr (HasPath cut.path, has_path req h is some, reported ∙ ap shown (tail_is tail is_path))
    where
      shown : List ℕ → PackageReqPartsParseError
      shown t = parts.SpecifierVersionReq (failed (Some (codes "Unexpected character '/'", Some t)))

      tail_is : (t : List ℕ) → IsPathPart t cut.path → t ≡ 47 ∷ cut.path
      tail_is [] k = absurd (omega (arith, some, ap length k))
      tail_is (b ∷ rest) k = rw (k.0, k.1) refl

  pub path_fault : {req : PackageReq} {tail path : List ℕ} → IsReadWithPath f text req tail path → 0 < length path → IsPathError tail e → IsFaultError f text e
  path_fault {req} {tail} h some reported = path_error h.cut req.version_req tail h.is_cut h.version_req h.tail_is (rw (sym h.path_is) some) reported

pub no_path : (f : Flavour) (text : List ℕ) {req : PackageReq} {tail path : List ℕ} → IsReadWithPath f text req tail path → length path ≡ 0 → IsReadReq f text req
no_path f text h none = record { cut = h.cut; is_cut = h.is_cut; name = h.name; version_req = h.version_req; no_path = rw (sym h.path_is) none }

-- ---- one outcome

abbrev pub req_of : List ℕ → RangeSetOrTag → Requirement
req_of text answer = record { raw_text = text; inner = answer }

pub same_req : {s t : List ℕ} {i j : RangeSetOrTag} → s ≡ t → i ≡ j → req_of s i ≡ req_of t j
same_req a b = rw (a, b) refl

-- what one outcome parses to
same_read : (f : Flavour) (o : Outcome) (x y : RangeSetOrTag) → IsRead f o x → IsRead f o y → x ≡ y
same_read f (Ranges tree) x y a b = a ∙ sym b
same_read f (Tag tag) x y a b = a ∙ sym b
same_read f Rejected x y a b = absurd a

pub version_at : (f : Flavour) {x y : PackageParts} (req : Requirement) → x ≡ y → IsVersionReq f x.version req → IsVersionReq f y.version req
version_at f req e h = subst (λ (c : PackageParts). IsVersionReq f c.version req) e h

reported : (f : Flavour) (b : Bool) (fault : PackageFault) (source e : PackageReqPartsParseError) → e ≡ (if b then parts.MissingAtSymbol else source) → Reports f fault source → Reports f (if b then NoAt else fault) e
reported f true fault source e is reports = is
reported f false fault source e is reports = subst (λ (x : PackageReqPartsParseError). Reports f fault x) (sym is) reports

abbrev pub pair_of : List ℕ → Requirement → PackageReq
pair_of name req = record { name = name; version_req = req }

pub same_pair : {n m : List ℕ} {x y : Requirement} → n ≡ m → x ≡ y → pair_of n x ≡ pair_of m y
same_pair a b = rw (a, b) refl

module _ (texts : TextsHaveOneOutcome) where
  -- what a text parses to is what its outcome means
  pub read_of : (f : Flavour) (text : List ℕ) (o : Outcome) (req : Requirement) → IsReadFrom f text req → IsOutcome f text o → IsRead f o req.inner
  read_of f text o req h is = subst (λ x. IsRead f x req.inner) (texts f text h.reading.outcome o h.reading.is_outcome is) h.reading.is_read

  -- the result of one parser for one text
  pub version_one : (f : Flavour) (v : Option (List ℕ)) (x y : Requirement) → IsVersionReq f v x → IsVersionReq f v y → x ≡ y
  version_one f None x y h k = h ∙ sym k
  version_one f (Some text) x y h k =
      let read = k.reading in
      same_req (h.raw_text ∙ sym k.raw_text) (same_read f read.outcome x.inner y.inner (read_of f text read.outcome x h read.is_outcome) read.is_read)

  pub read_or_rejected : (f : Flavour) (v : Option (List ℕ)) (w : List ℕ) (x : Requirement) → v ≡ Some w → IsVersionReq f v x → IsOutcome f w Rejected → ⊥
  read_or_rejected f None w x is h rejected = cc is
  read_or_rejected f (Some v) w x is h rejected = let same : v ≡ w = cc is in read_of f v Rejected x h (rw same rejected)

module _ (texts : TextsHaveOneOutcome) {f : Flavour} {text : List ℕ} where
  pub fault_one : (a b : PackageFault) → IsFirstPackageFault f text a → IsFirstPackageFault f text b → a ≡ b
  fault_one _ _ (no_name s) (no_name t) = refl
  fault_one _ _ (no_name s) (bad_name t) = absurd (part_or_alone text s t)
  fault_one _ _ (no_name s) (bad_version {cut} k is r) = absurd (no_part cut k s)
  fault_one _ _ (no_name s) (has_path {cut} req k v p) = absurd (no_part cut k s)
  fault_one _ _ (bad_name s) (no_name t) = absurd (part_or_alone text t s)
  fault_one _ _ (bad_name s) (bad_name t) = refl
  fault_one _ _ (bad_name s) (bad_version {cut} k is r) = absurd (no_alone cut k s)
  fault_one _ _ (bad_name s) (has_path {cut} req k v p) = absurd (no_alone cut k s)
  fault_one _ _ (bad_version {cut} h is r) (no_name t) = absurd (no_part cut h t)
  fault_one _ _ (bad_version {cut} h is r) (bad_name t) = absurd (no_alone cut h t)
  fault_one _ _ (bad_version {cut = x} {version = v} h is r) (bad_version {cut = y} {version = w} k is' r') =
      let same : Some v ≡ Some w = sym is ∙ (ap (λ (c : PackageParts). c.version) (package_one x y h k) ∙ is') in
      let versions : v ≡ w = cc same in
      ap BadVersion versions
  fault_one _ _ (bad_version {cut = x} {version = v} h is r) (has_path {cut = y} req k vr p) = absurd (read_or_rejected texts f x.version v req is (version_at f req (package_one y x k h) vr) r)
  fault_one _ _ (has_path {cut} req h vr p) (no_name t) = absurd (no_part cut h t)
  fault_one _ _ (has_path {cut} req h vr p) (bad_name t) = absurd (no_alone cut h t)
  fault_one _ _ (has_path {cut = x} req h vr p) (bad_version {cut = y} {version = v} k is r) = absurd (read_or_rejected texts f y.version v req is (version_at f req (package_one x y h k) vr) r)
  fault_one _ _ (has_path {cut = x} req h vr p) (has_path {cut = y} req' k vr' p') = ap (λ (c : PackageParts). HasPath c.path) (package_one x y h k)

  no_fault : {req : PackageReq} (fault : PackageFault) → IsReadReq f text req → IsFirstPackageFault f text fault → ⊥
  no_fault _ h (no_name s) = no_part h.cut h.is_cut s
  no_fault _ h (bad_name s) = no_alone h.cut h.is_cut s
  no_fault {req} _ h (bad_version {cut} {version = v} k is r) = read_or_rejected texts f cut.version v req.version_req is (version_at f req.version_req (package_one h.cut cut h.is_cut k) h.version_req) r
  no_fault _ h (has_path {cut} req k vr p) = omega (arith, p, h.no_path, ap (λ (c : PackageParts). length c.path) (package_one h.cut cut h.is_cut k))

  read_one : (x y : PackageReq) → IsReadReq f text x → IsReadReq f text y → x ≡ y
  read_one x y h k =
      let same : h.cut ≡ k.cut = package_one h.cut k.cut h.is_cut k.is_cut in
      let names : x.name ≡ y.name = h.name ∙ (ap (λ (c : PackageParts). scoped_name c.scope c.name) same ∙ sym k.name) in
      let reqs : x.version_req ≡ y.version_req = version_one texts f k.cut.version x.version_req y.version_req (version_at f x.version_req same h.version_req) k.version_req in
      same_pair names reqs

  pub outcome_one : (o p : Result PackageReq PackageFault) → IsPackageOutcome f text o → IsPackageOutcome f text p → o ≡ p
  outcome_one _ _ (is_package {req} h) (is_package {req = other} k) = ap Ok (read_one req other h k)
  outcome_one _ _ (is_package h) (is_fault {fault} k) = absurd (no_fault fault h k)
  outcome_one _ _ (is_fault {fault} k) (is_package h) = absurd (no_fault fault h k)
  outcome_one _ _ (is_fault {fault = a} h) (is_fault {fault = b} k) = ap (λ x. Err (if lacks_at text then NoAt else x)) (fault_one a b h k)

  -- ---- results

  pub read_answer : (req : PackageReq) → IsReadReq f text req → (o : Result PackageReq PackageFault) → IsPackageOutcome f text o → IsPackageAnswer f text o (Ok req)
  read_answer req h _ (is_package {req = other} k) = read_one req other h k
  read_answer req h _ (is_fault {fault} k) = absurd (no_fault fault h k)

  whole : (fault : PackageFault) (source : PackageReqPartsParseError) (e : PackageReqParseError) → ReportsSource text source e → Reports f fault source → ReportsFault f (if lacks_at text then NoAt else fault) text e
  whole fault source e h reports = record { source = reported f (lacks_at text) fault source e.source h.source_is reports; text_is = h.text_is }

  pub rejected : (source : PackageReqPartsParseError) (e : PackageReqParseError) → IsFaultError f text source → IsOutOfMemory e ⊎ ReportsSource text source e → IsPackageRejection f text e
  rejected source e fault (inl memory) = inl memory
  rejected source e (inl memory) (inr h) = absurd (h.no_memory memory)
  rejected source e (inr fault) (inr h) = inr (_, is_fault fault.1, whole fault.0 source e h fault.2)

  pub rejected_answer : (source : PackageReqPartsParseError) (e : PackageReqParseError) → IsFaultError f text source → IsOutOfMemory e ⊎ ReportsSource text source e
      → (o : Result PackageReq PackageFault) → IsPackageOutcome f text o → IsPackageAnswer f text o (Err e)
  rejected_answer source e fault (inl memory) _ (is_package k) = memory
  rejected_answer source e fault (inl memory) _ (is_fault k) = inl memory
  rejected_answer source e (inl memory) (inr h) _ (is_package k) = absurd (h.no_memory memory)
  rejected_answer source e (inl memory) (inr h) _ (is_fault k) = absurd (h.no_memory memory)
  rejected_answer source e (inr fault) (inr h) _ (is_package k) = absurd (no_fault fault.0 k fault.1)
  rejected_answer source e (inr fault) (inr h) _ (is_fault {fault = other} k) =
      let same : fault.0 ≡ other = fault_one fault.0 other fault.1 k in
      inr (whole other source e h (subst (λ (x : PackageFault). Reports f x source) same fault.2))
