-- The text of a package or a reference has one list of errors as JSON.
use Rattle.std.proofs.Common.{◌≡◌, ◌∙◌, ◌+◌, ◌++◌, ℕ, true, List, [], ◌∷◌, length, map, Option, Result, Ok, Err, get_or, refl, sym, ap, subst, arith}
use Rattle.std.specs.List.{list_all}
use Rattle.std.proofs.lemmas.Bool.{and_parts}
use Rattle.std.proofs.lemmas.List.{append_cancel_left}
use Rattle.semver_req.specs.Alternatives.{TextsHaveOneListOfErrors, reported}
use Rattle.semver_req.specs.Parsers.{Failure}
use Rattle.semver_req.specs.TextRejection.{TextsAreRejectedForOneReason}
use Rattle.semver_req.specs.declared.common.values.Flavour.{Flavour}
use Rattle.semver_req.specs.declared.common.values.Flavour.TheVariants.{Specifier}
use Rattle.semver_req.specs.declared.error_places.pieces.InvalidPiece.{InvalidPiece}
use Rattle.deno_semver.specs.Cuts.{is_not}
use Rattle.deno_semver.specs.Kind.{scheme_of}
use Rattle.deno_semver.specs.OneOutcome.{PackageTextsHaveOneOutcome, ReferencesHaveOneOutcome}
use Rattle.deno_semver.specs.PackageOutcome.{BadVersion, IsPackageOutcome, PackageFault, Reports}
use Rattle.deno_semver.specs.PackagePlaces.{RequirementsStandAtOnePlace}
use Rattle.deno_semver.specs.ReferenceOutcome.{BadText, IsReferenceOutcome, ReferenceFault, ReportsReference, unboxed}
use Rattle.deno_semver.specs.declared.package.errors.PackageReqPartsParseError.{PackageReqPartsParseError}
use Rattle.deno_semver.specs.declared.package.reference.PackageReqReference.{PackageReqReference}
use Rattle.deno_semver.specs.declared.package.values.PackageKind.{PackageKind}
use Rattle.deno_semver.specs.declared.package.values.PackageKind.TheVariants.{Jsr, Npm}
use Rattle.deno_semver.specs.declared.package.values.PackageReq.{PackageReq}
use Rattle.answers.specs.AskingLaws.{same_fault}
use Rattle.answers.specs.ErrorLaws.{same_errors_json}
use Rattle.package_answers.specs.Errors.{IsFaultAt, IsPartError, has_path, no_at, no_last, no_name, no_slash, package_errors_json}
use Rattle.package_answers.specs.Packages as packages
use Rattle.package_answers.specs.Packages.{AreOfRange, ArePackageErrors, AreRangeErrors, parts_failure}
use Rattle.package_answers.specs.References as references
use Rattle.package_answers.specs.References.{AreBehindScheme, AreReferenceErrors, IsReferenceFaultAt, IsRegistryOf, at_version, behind_scheme, no_scheme, reference_failure}
use Rattle.package_answers.specs.declared.errors.PackageErrors.{PackageErrors}
use Rattle.package_answers.specs.declared.errors.PackageErrors.TheVariants as errors
use Rattle.package_answers.specs.declared.errors.Part.{Part}
use Rattle.package_answers.proofs.Outcomes.{one_registry}
use Rattle.package_answers.proofs.Reasons.{package_reason, reported_reason}

-- ---- splits at the first `/` and at the last `@`

holds_slash : (a b : List ℕ) → list_all (is_not 47) (a ++ (47 ∷ b)) ≡ true → ⊥
holds_slash [] b h = cc h
holds_slash (x ∷ a) b h = holds_slash a b (and_parts (is_not 47 x) (list_all (is_not 47) (a ++ (47 ∷ b))) h).1

behind_slash : (a v b w : List ℕ) → a ++ (47 ∷ v) ≡ b ++ (47 ∷ w) → list_all (is_not 47) a ≡ true → list_all (is_not 47) b ≡ true → v ≡ w
behind_slash [] v [] w e p q = cc e
behind_slash [] v (y ∷ b) w e p q =
    let head : 47 ≡ y = cc e in
    absurd (holds_slash [] b (rw (← head) at q))
behind_slash (x ∷ a) v [] w e p q =
    let head : x ≡ 47 = cc e in
    absurd (holds_slash [] a (rw head at p))
behind_slash (x ∷ a) v (y ∷ b) w e p q =
    let tail : a ++ (47 ∷ v) ≡ b ++ (47 ∷ w) = cc e in
    behind_slash a v b w tail (and_parts (is_not 47 x) (list_all (is_not 47) a) p).1 (and_parts (is_not 47 y) (list_all (is_not 47) b) q).1

holds_at : (a b : List ℕ) → list_all (is_not 64) (a ++ (64 ∷ b)) ≡ true → ⊥
holds_at [] b h = cc h
holds_at (x ∷ a) b h = holds_at a b (and_parts (is_not 64 x) (list_all (is_not 64) (a ++ (64 ∷ b))) h).1

before_at : (a v b w : List ℕ) → a ++ (64 ∷ v) ≡ b ++ (64 ∷ w) → list_all (is_not 64) v ≡ true → list_all (is_not 64) w ≡ true → length a ≡ length b
before_at [] v [] w e p q = refl
before_at [] v (y ∷ b) w e p q =
    let tail : v ≡ b ++ (64 ∷ w) = cc e in
    absurd (holds_at b w (rw tail at p))
before_at (x ∷ a) v [] w e p q =
    let tail : w ≡ a ++ (64 ∷ v) = cc (sym e) in
    absurd (holds_at a v (rw tail at q))
before_at (x ∷ a) v (y ∷ b) w e p q =
    let tail : a ++ (64 ∷ v) ≡ b ++ (64 ∷ w) = cc e in
    let more = before_at a v b w tail p q in
    omega (arith, more)

-- ---- where a fault is

fault_place_one : (text : List ℕ) (fault : PackageFault) (m n : Option Part) (p q : ℕ) → IsFaultAt text fault m p → IsFaultAt text fault n q → (m ≡ n) × (p ≡ q)
fault_place_one text fault m n p q no_at no_at = (refl, refl)
fault_place_one text fault m n p q no_name no_name = (refl, refl)
fault_place_one text fault m n p q (no_slash h) (no_slash k) = (refl, refl)
fault_place_one text fault m n p q (no_slash h) (no_last scope rest e k) = absurd (holds_slash scope rest (rw e at h))
fault_place_one text fault m n p q (no_last scope rest e h) (no_slash k) = absurd (holds_slash scope rest (rw e at k))
fault_place_one text fault m n p q (no_last scope rest e h) (no_last other more g k) =
    let behind = behind_slash scope rest other more (sym e ∙ g) h k in
    (refl, rw behind refl)
fault_place_one text fault m n p q has_path has_path = (refl, refl)

no_version_place : {T : Type 0} {text version : List ℕ} {m : Option Part} {p : ℕ} → IsFaultAt text (BadVersion version) m p → T
no_version_place h = elim h [ ]

-- ---- behind a scheme

-- a text begins with one scheme
one_scheme : (k j : PackageKind) (b c : List ℕ) → scheme_of k ++ b ≡ scheme_of j ++ c → k ≡ j
one_scheme Jsr Jsr b c e = refl
one_scheme Jsr Npm b c e = absurd (omega (arith, ap (λ t. get_or t 0 0) e))
one_scheme Npm Jsr b c e = absurd (omega (arith, ap (λ t. get_or t 0 0) e))
one_scheme Npm Npm b c e = refl

reference_place_one : (text : List ℕ) (fault : ReferenceFault) (m n : Option Part) (p q : ℕ) → IsReferenceFaultAt text fault m p → IsReferenceFaultAt text fault n q → (m ≡ n) × (p ≡ q)
reference_place_one text fault m n p q no_scheme no_scheme = (refl, refl)
reference_place_one text fault m n p q (behind_scheme k {body = b} {fault = f} {missing = i} {place = x} e h) (behind_scheme j {body = c} {missing = o} {place = y} g l) =
    let kind = one_scheme k j b c (sym e ∙ g) in
    let whole : scheme_of j ++ b ≡ scheme_of j ++ c = rw kind at (sym e ∙ g) in
    let body = append_cancel_left (scheme_of j) b c whole in
    let both = fault_place_one c f i o x y (rw body at h) l in
    (both.0, rw (kind, both.1) refl)
reference_place_one text fault m n p q (at_version a v e h) (at_version b w g k) = (refl, before_at a v b w (sym e ∙ g) h k)

no_version_behind : {T : Type 0} {text version : List ℕ} {m : Option Part} {p : ℕ} → IsReferenceFaultAt text (BadText (BadVersion version)) m p → T
no_version_behind (behind_scheme k e h) = no_version_place h

-- ---- the JSON of one error

module _ (IsAt : Option Part → ℕ → Type 0) (one : (m n : Option Part) (p q : ℕ) → IsAt m p → IsAt n q → (m ≡ n) × (p ≡ q)) (end : ℕ) where
  part_one : (failure other : Failure) (e d : PackageErrors) → failure ≡ other → IsPartError IsAt failure e → IsPartError IsAt other d → package_errors_json end e ≡ package_errors_json end d
  part_one failure other (errors.Range pieces) d is h k = absurd h
  part_one failure other (errors.Part e) (errors.Range pieces) is h k = absurd k
  part_one failure other (errors.Part e) (errors.Part d) is h k =
      let at = one e.missing d.missing e.place d.place h.0 k.0 in
      rw (at.0, at.1, h.1 ∙ (is ∙ sym k.1)) refl

-- ---- the errors of the range

module _ (one_place : RequirementsStandAtOnePlace) (one_list : TextsHaveOneListOfErrors) where
  range_errors_one : (f : Flavour) (before : ℕ) (text : List ℕ) (es ds : List InvalidPiece) → AreRangeErrors f before text es → AreRangeErrors f before text ds → map reported es ≡ map reported ds
  range_errors_one f before text es ds (packages.of_range {start = s} {range = r} h a) (packages.of_range {start = t} {range = q} k b) =
      let both = one_place text s t r q h k in
      one_list f (before + t) q es ds (rw (both.0, both.1) at a) b
  range_errors_one f before text es ds (packages.of_range h a) (packages.no_range n) = absurd (cc (h.version_is, n h.parts h.is_cut))
  range_errors_one f before text es ds (packages.no_range n) (packages.of_range k b) = absurd (cc (k.version_is, n k.parts k.is_cut))
  range_errors_one f before text es ds (packages.no_range n) (packages.no_range m) = refl

  of_range_one : (f : Flavour) (before : ℕ) (text : List ℕ) (end : ℕ) (e d : PackageErrors) → AreOfRange f before text e → AreOfRange f before text d → package_errors_json end e ≡ package_errors_json end d
  of_range_one f before text end (errors.Part e) d h k = absurd h
  of_range_one f before text end (errors.Range es) (errors.Part d) h k = absurd k
  of_range_one f before text end (errors.Range es) (errors.Range ds) h k = same_errors_json es.items ds.items (range_errors_one f before text es.items ds.items h k)

  -- ---- the errors behind a scheme

  behind_one : (k j : PackageKind) (text : List ℕ) (end : ℕ) (e d : PackageErrors) → AreBehindScheme k text e → AreBehindScheme j text d → package_errors_json end e ≡ package_errors_json end d
  behind_one k j text end e d h i = go (one_scheme k j h.body i.body (sym h.text_is ∙ i.text_is))
    where
      go : k ≡ j → package_errors_json end e ≡ package_errors_json end d
      go same =
          let whole : scheme_of j ++ h.body ≡ scheme_of j ++ i.body = rw same at (sym h.text_is ∙ i.text_is) in
          let body = append_cancel_left (scheme_of j) h.body i.body whole in
          of_range_one Specifier (length (scheme_of j)) i.body end e d (rw (same, body) at h.are) i.are

  -- ---- packages

  module _ (one_reason : TextsAreRejectedForOneReason) where
    failure_one : (f : Flavour) (fault other : PackageFault) (e d : PackageReqPartsParseError) → fault ≡ other → Reports f fault e → Reports f other d → parts_failure e ≡ parts_failure d
    failure_one f fault other e d same h k = package_reason one_reason f other (parts_failure e) (parts_failure d) (e, subst (λ (x : PackageFault). Reports f x e) same h, refl) (d, k, refl)

    module _ (one_outcome : PackageTextsHaveOneOutcome) (f : Flavour) (text : List ℕ) where
      same_of : (fault other : PackageFault) → IsPackageOutcome f text (Err fault) → IsPackageOutcome f text (Err other) → fault ≡ other
      same_of fault other o u = same_fault {X = PackageReq} fault other (one_outcome f text (Err fault) (Err other) o u)

      range_or_part : {T : Type 0} (version : List ℕ) (fault : PackageFault) (failure : Failure) (e : PackageErrors) → IsPackageOutcome f text (Err (BadVersion version)) → IsPackageOutcome f text (Err fault) → IsPartError (IsFaultAt text fault) failure e → T
      range_or_part version fault failure (errors.Range es) o u is = absurd is
      range_or_part version fault failure (errors.Part e) o u is = no_version_place {version = version} (subst (λ (x : PackageFault). IsFaultAt text x e.missing e.place) (sym (same_of (BadVersion version) fault o u)) is.0)

      pub package_errors_one : (e d : PackageErrors) → ArePackageErrors f text e → ArePackageErrors f text d → package_errors_json (length text) e ≡ package_errors_json (length text) d
      package_errors_one e d (packages.valid o a) (packages.valid u b) = of_range_one f 0 text (length text) e d a b
      package_errors_one e d (packages.valid o a) (packages.bad_version u b) = of_range_one f 0 text (length text) e d a b
      package_errors_one e d (packages.bad_version o a) (packages.valid u b) = of_range_one f 0 text (length text) e d a b
      package_errors_one e d (packages.bad_version o a) (packages.bad_version u b) = of_range_one f 0 text (length text) e d a b
      package_errors_one e d (packages.valid {req} o a) (packages.other_fault {fault} error u r is) = absurd (cc (one_outcome f text (Ok req) (Err fault) o u))
      package_errors_one e d (packages.other_fault {fault} error o r is) (packages.valid {req} u b) = absurd (cc (one_outcome f text (Ok req) (Err fault) u o))
      package_errors_one e d (packages.bad_version {version} o a) (packages.other_fault {fault} error u r is) = range_or_part version fault (parts_failure error) d o u is
      package_errors_one e d (packages.other_fault {fault} error o r is) (packages.bad_version {version} u b) = range_or_part version fault (parts_failure error) e u o is
      package_errors_one e d (packages.other_fault {fault} error o r is) (packages.other_fault {fault = other} more u s also) =
          let same = same_of fault other o u in
          part_one (IsFaultAt text other) (fault_place_one text other) (length text) (parts_failure error) (parts_failure more) e d (failure_one f fault other error more same r s)
          (subst (λ (x : PackageFault). IsPartError (IsFaultAt text x) (parts_failure error) e) same is) also

    -- ---- references

    module _ (one_outcome : ReferencesHaveOneOutcome) (text : List ℕ) where
      -- the outcome of another registry is of this one
      by_registry : (kind other : PackageKind) (o : Result PackageReqReference ReferenceFault) → IsRegistryOf text kind → IsRegistryOf text other → IsReferenceOutcome other text o → IsReferenceOutcome kind text o
      by_registry kind other o h k is = subst (λ (r : PackageKind). IsReferenceOutcome r text o) (one_registry text other kind k h) is

      fault_one : (kind other : PackageKind) (fault also : ReferenceFault) → IsRegistryOf text kind → IsReferenceOutcome kind text (Err fault) → IsRegistryOf text other → IsReferenceOutcome other text (Err also) → fault ≡ also
      fault_one kind other fault also h o k u = same_fault {X = PackageReqReference} fault also (one_outcome kind text (Err fault) (Err also) o (by_registry kind other (Err also) h k u))

      read_or_fault : {T : Type 0} (kind other : PackageKind) (read : PackageReqReference) (fault : ReferenceFault) → IsRegistryOf text kind → IsReferenceOutcome kind text (Ok read) → IsRegistryOf text other → IsReferenceOutcome other text (Err fault) → T
      read_or_fault kind other read fault h o k u = absurd (cc (one_outcome kind text (Ok read) (Err fault) o (by_registry kind other (Err fault) h k u)))

      version_or_part : {T : Type 0} (kind other : PackageKind) (version : List ℕ) (fault : ReferenceFault) (failure : Failure) (e : PackageErrors) → IsRegistryOf text kind → IsReferenceOutcome kind text (Err (BadText (BadVersion version)))
          → IsRegistryOf text other → IsReferenceOutcome other text (Err fault) → IsPartError (IsReferenceFaultAt text fault) failure e → T
      version_or_part kind other version fault failure (errors.Range es) h o k u is = absurd is
      version_or_part kind other version fault failure (errors.Part e) h o k u is =
          no_version_behind {version = version} (subst (λ (x : ReferenceFault). IsReferenceFaultAt text x e.missing e.place) (sym (fault_one kind other (BadText (BadVersion version)) fault h o k u)) is.0)

      pub reference_errors_one : (e d : PackageErrors) → AreReferenceErrors text e → AreReferenceErrors text d → package_errors_json (length text) e ≡ package_errors_json (length text) d
      reference_errors_one e d (references.valid {read = r} o a) (references.valid {read = s} u b) = behind_one r.kind s.kind text (length text) e d a b
      reference_errors_one e d (references.valid {read = r} o a) (references.bad_version k u b) = behind_one r.kind k text (length text) e d a b
      reference_errors_one e d (references.bad_version k o a) (references.valid {read = s} u b) = behind_one k s.kind text (length text) e d a b
      reference_errors_one e d (references.bad_version k o a) (references.bad_version j u b) = behind_one k j text (length text) e d a b
      reference_errors_one e d (references.valid {read = r} o a) (references.other_fault j {fault} error g u s is) = read_or_fault r.kind j r.reference fault o.0 o.1 g u
      reference_errors_one e d (references.other_fault k {fault} error h o r is) (references.valid {read = s} u b) = read_or_fault s.kind k s.reference fault u.0 u.1 h o
      reference_errors_one e d (references.bad_version k {version} o a) (references.other_fault j {fault} error g u s is) = version_or_part o.0 j version fault (reference_failure (unboxed error)) d o.1 o.2 g u is
      reference_errors_one e d (references.other_fault k {fault} error h o r is) (references.bad_version j {version} u b) = version_or_part u.0 k version fault (reference_failure (unboxed error)) e u.1 u.2 h o is
      reference_errors_one e d (references.other_fault k {fault} error h o r is) (references.other_fault j {fault = other} more g u s also) =
          let same = fault_one k j fault other h o g u in
          let kind = one_registry text j k g h in
          let reports = subst (λ (x : ReferenceFault). ReportsReference k text x error) same r in
          let failures = reported_reason one_reason k text other error more reports (subst (λ (x : PackageKind). ReportsReference x text other more) kind s) in
          part_one (IsReferenceFaultAt text other) (reference_place_one text other) (length text) (reference_failure (unboxed error)) (reference_failure (unboxed more)) e d failures
          (subst (λ (x : ReferenceFault). IsPartError (IsReferenceFaultAt text x) (reference_failure (unboxed error)) e) same is) also
