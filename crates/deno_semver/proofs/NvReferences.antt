-- A text parses to one reference to a version or has one fault, and the text of a parsed reference parses to it.
use Rattle.std.proofs.Common.{◌≡◌, ◌==◌, ◌++◌, ◌∷◌, [], ℕ, List, Option, None, Some, Result, Ok, Err, refl, sym, ap, subst, ◌∙◌, inl, inr, append_assoc, ◌⊎◌, Bor}
use Rattle.std.proofs.lemmas.Bool.{cases_Bool, eqb-true}
use Rattle.semver_base.specs.Grammar.{Stops}
use Rattle.semver_base.specs.VersionText.{ReadsBack, VersionTextsHaveOneOutcome, version_text}
use Rattle.semver_base.specs.declared.failure.Rejection.{Rejection}
use Rattle.semver_base.specs.declared.failure.Rejection.TheVariants.{UnexpectedCharacter}
use Rattle.deno_semver.specs.Kind.{scheme_of}
use Rattle.deno_semver.specs.NameAndVersion.{IsNvFront, IsNvMemory, IsNvName, ReportsNvFault, is_front, is_version_byte, nv_text}
use Rattle.deno_semver.specs.NameAndVersionSteps.{IsFrontRejection}
use Rattle.deno_semver.specs.NvReference.{IsNoPath, IsNvReferenceAnswer, IsNvReferenceOutcome, IsNvReferenceRejection, NvReferenceReadsBack, bad_front, is_followed, is_reference, nv_error, other_scheme}
use Rattle.deno_semver.specs.PackageText.{without_slash}
use Rattle.deno_semver.specs.ReferenceText.{LacksScheme, path_text}
use Rattle.deno_semver.specs.declared.package.values.PackageKind.{PackageKind}
use Rattle.deno_semver.specs.declared.package.values.PackageNv.{PackageNv}
use Rattle.deno_semver.specs.declared.package.name_version.PackageNvParseError.{PackageNvParseError}
use Rattle.deno_semver.specs.declared.package.nv_reference.PackageNvReference.{PackageNvReference}
use Rattle.deno_semver.specs.declared.package.nv_reference.PackageNvReferenceParseError.{PackageNvReferenceParseError}
use Rattle.deno_semver.specs.Sameness.{reference_of, same_reference}
use Rattle.deno_semver.proofs.NameAndVersion.{FrontAnswers, front_of, front_one, no_front, same_fault, same_nv, same_rest}
use Rattle.deno_semver.proofs.NvText.{IsBareVersion, front_name, writes_text}
use Rattle.deno_semver.proofs.References.{bodies}

path_one : (p q : Option (List ℕ)) → path_text p ≡ path_text q → p ≡ q
path_one None None e = refl
path_one None (Some q) e = cc e
path_one (Some p) None e = cc e
path_one (Some p) (Some q) e = let same : p ≡ q = cc e in ap Some same

no_path : (path : Option (List ℕ)) (rest : List ℕ) → IsNoPath rest → rest ≡ path_text path → ⊥
no_path None [] h e = h
no_path None (b ∷ rest) h e = cc e
no_path (Some p) [] h e = h
no_path (Some p) (b ∷ rest) h e = let first : b ≡ 47 = cc e in h first

-- ---- values and errors

module _ {kind : PackageKind} {text : List ℕ} (body : List ℕ) (is : text ≡ scheme_of kind ++ body) where
  pub reads : {nv : PackageNv} {rest : List ℕ} (r : PackageNvReference) → IsNvFront (without_slash body) (Ok (nv, rest)) → (r.nv ≡ nv) × (rest ≡ path_text r.sub_path) → IsNvReferenceOutcome kind text (Ok r)
  reads {nv} {rest} r h e = is_reference body is (subst (λ (x : PackageNv). IsNvFront (without_slash body) (Ok (x, path_text r.sub_path))) (sym e.0) (subst (λ (t : List ℕ). IsNvFront (without_slash body) (Ok (nv, t))) e.1 h))

  pub rejected_front : {e : PackageNvParseError} {x : PackageNvReferenceParseError} → IsFrontRejection (without_slash body) text e → nv_error x ≡ e → IsNvReferenceRejection kind text x
  rejected_front (inl memory) same = inl (rw same memory)
  rejected_front (inr h) same = inr (h.0, bad_front body is h.1, rw same h.2)

  pub rejected_rest : {nv : PackageNv} {rest : List ℕ} {e : PackageNvParseError} {x : PackageNvReferenceParseError} → IsNvFront (without_slash body) (Ok (nv, rest))
      → IsNvMemory e ⊎ (IsNoPath rest × ReportsNvFault UnexpectedCharacter text e) → nv_error x ≡ e → IsNvReferenceRejection kind text x
  rejected_rest h (inl memory) same = inl (rw same memory)
  rejected_rest h (inr reported) same = inr (UnexpectedCharacter, is_followed body is h reported.0, rw same reported.1)

pub rejected_scheme : {kind : PackageKind} {text : List ℕ} {e : PackageNvParseError} {x : PackageNvReferenceParseError} → LacksScheme kind text → IsNvMemory e ⊎ ReportsNvFault UnexpectedCharacter text e → nv_error x ≡ e
    → IsNvReferenceRejection kind text x
rejected_scheme none (inl memory) same = inl (rw same memory)
rejected_scheme none (inr reported) same = inr (UnexpectedCharacter, other_scheme none, rw same reported)

-- ---- results

pub scheme_answer : {kind : PackageKind} {text : List ℕ} {e : PackageNvParseError} {x : PackageNvReferenceParseError} → LacksScheme kind text → IsNvMemory e ⊎ ReportsNvFault UnexpectedCharacter text e → nv_error x ≡ e
    → (o : Result PackageNvReference Rejection) → IsNvReferenceOutcome kind text o → IsNvReferenceAnswer text o (Err x)
scheme_answer none reported same _ (other_scheme k) = rw same reported
scheme_answer none reported same _ (is_reference body is h) = absurd (none body is)
scheme_answer none reported same _ (bad_front body is h) = absurd (none body is)
scheme_answer none reported same _ (is_followed body is h k) = absurd (none body is)

at : (kind : PackageKind) {text : List ℕ} (body other : List ℕ) {o : Result (PackageNv × List ℕ) Rejection} → text ≡ scheme_of kind ++ body → text ≡ scheme_of kind ++ other
    → IsNvFront (without_slash other) o → IsNvFront (without_slash body) o
at kind body other {o = o} is e h = subst (λ (t : List ℕ). IsNvFront (without_slash t) o) (bodies kind e is) h

module _ {kind : PackageKind} {text : List ℕ} (body : List ℕ) (is : text ≡ scheme_of kind ++ body) where
  pub front_answer : {e : PackageNvParseError} {x : PackageNvReferenceParseError} → FrontAnswers (without_slash body) text (Err e) → nv_error x ≡ e
      → (o : Result PackageNvReference Rejection) → IsNvReferenceOutcome kind text o → IsNvReferenceAnswer text o (Err x)
  front_answer answer same _ (other_scheme none) = absurd (none body is)
  front_answer answer same _ (is_reference other e h) = rw same (answer _ (at kind body other is e h))
  front_answer answer same _ (bad_front other e h) = rw same (answer _ (at kind body other is e h))
  front_answer answer same _ (is_followed other e h k) = rw same (inl (answer _ (at kind body other is e h)))

  module _ {nv : PackageNv} {rest : Bor (List ℕ)} (answer : FrontAnswers (without_slash body) text (Ok (nv, rest))) where
    pub rest_answer : {e : PackageNvParseError} {x : PackageNvReferenceParseError} → IsNvMemory e ⊎ (IsNoPath rest.now × ReportsNvFault UnexpectedCharacter text e) → nv_error x ≡ e
        → (o : Result PackageNvReference Rejection) → IsNvReferenceOutcome kind text o → IsNvReferenceAnswer text o (Err x)
    rest_answer reported same _ (other_scheme none) = absurd (none body is)
    rest_answer (inl memory) same _ (is_reference other e h) = rw same memory
    rest_answer (inr reported) same _ (is_reference other {path} e h) = absurd (no_path path rest.now reported.0 (answer _ (at kind body other is e h)).1)
    rest_answer reported same _ (bad_front other e h) = absurd (answer _ (at kind body other is e h))
    rest_answer (inl memory) same _ (is_followed other e h k) = rw same (inl memory)
    rest_answer (inr reported) same _ (is_followed other e h k) = rw same (inr reported.1)

    pub read_answer : (r : PackageNvReference) → (r.nv ≡ nv) × (rest.now ≡ path_text r.sub_path) → (o : Result PackageNvReference Rejection) → IsNvReferenceOutcome kind text o → IsNvReferenceAnswer text o (Ok r)
    read_answer r same _ (other_scheme none) = absurd (none body is)
    read_answer r same _ (is_reference other {nv = w} {path} e h) =
        let both = answer _ (at kind body other is e h) in
        let nvs : r.nv ≡ w = same.0 ∙ both.0 in
        same_reference nvs (path_one r.sub_path path (sym same.1 ∙ both.1))
    read_answer r same _ (bad_front other e h) = absurd (answer _ (at kind body other is e h))
    read_answer r same _ (is_followed other {rest = tail} e h k) = absurd (no_path r.sub_path tail k (sym (answer _ (at kind body other is e h)).1 ∙ same.1))

-- ---- one outcome

-- a path, or nothing, isn't something that is neither
path_or_not : (x y : PackageNv) (path : Option (List ℕ)) (rest : List ℕ) → front_of x (path_text path) ≡ front_of y rest → IsNoPath rest → ⊥
path_or_not x y path rest e none = no_path path rest none (sym (same_rest x y (path_text path) rest e))

module _ (versions : VersionTextsHaveOneOutcome) (kind : PackageKind) {text : List ℕ} where
  -- two names with versions after the scheme of one text are the same
  after_one : (a b : List ℕ) (o p : Result (PackageNv × List ℕ) Rejection) → text ≡ scheme_of kind ++ a → text ≡ scheme_of kind ++ b
      → IsNvFront (without_slash a) o → IsNvFront (without_slash b) p → o ≡ p
  after_one a b o p e e' h k = front_one versions o p h (at kind a b e e' k)

  pub nv_reference_one : (o p : Result PackageNvReference Rejection) → IsNvReferenceOutcome kind text o → IsNvReferenceOutcome kind text p → o ≡ p
  nv_reference_one _ _ (other_scheme none) (other_scheme _) = refl
  nv_reference_one _ _ (other_scheme none) (is_reference body e h) = absurd (none body e)
  nv_reference_one _ _ (other_scheme none) (bad_front body e h) = absurd (none body e)
  nv_reference_one _ _ (other_scheme none) (is_followed body e h k) = absurd (none body e)
  nv_reference_one _ _ (is_reference body e h) (other_scheme none) = absurd (none body e)
  nv_reference_one _ _ (bad_front body e h) (other_scheme none) = absurd (none body e)
  nv_reference_one _ _ (is_followed body e h k) (other_scheme none) = absurd (none body e)
  nv_reference_one _ _ (is_reference a {nv = x} {path = p} e h) (is_reference b {nv = y} {path = q} e' k) =
      let same : front_of x (path_text p) ≡ front_of y (path_text q) = after_one a b _ _ e e' h k in
      ap Ok (same_reference (same_nv x y (path_text p) (path_text q) same) (path_one p q (same_rest x y (path_text p) (path_text q) same)))
  nv_reference_one _ _ (is_reference a {nv = x} {path = p} e h) (bad_front b {fault = y} e' k) = absurd (no_front x (path_text p) y (after_one a b _ _ e e' h k))
  nv_reference_one _ _ (is_reference a {nv = x} {path = p} e h) (is_followed b {rest = rest} {nv = y} e' k none) = absurd (path_or_not x y p rest (after_one a b _ _ e e' h k) none)
  nv_reference_one _ _ (bad_front a {fault = x} e h) (is_reference b {nv = y} {path = q} e' k) = absurd (no_front y (path_text q) x (after_one b a _ _ e' e k h))
  nv_reference_one _ _ (bad_front a {fault = x} e h) (bad_front b {fault = y} e' k) = ap Err (same_fault x y _ _ refl refl (after_one a b _ _ e e' h k))
  nv_reference_one _ _ (bad_front a {fault = x} e h) (is_followed b {rest = rest} {nv = y} e' k none) = absurd (no_front y rest x (after_one b a _ _ e' e k h))
  nv_reference_one _ _ (is_followed a {rest = rest} {nv = x} e h none) (is_reference b {nv = y} {path = q} e' k) = absurd (path_or_not y x q rest (after_one b a _ _ e' e k h) none)
  nv_reference_one _ _ (is_followed a {rest = rest} {nv = x} e h none) (bad_front b {fault = y} e' k) = absurd (no_front x rest y (after_one a b _ _ e e' h k))
  nv_reference_one _ _ (is_followed a e h none) (is_followed b e' k other) = refl

-- ---- it parses back

keeps_slash : (name rest : List ℕ) → IsNvName name → ((more : List ℕ) → name ≡ 47 ∷ more → ⊥) → without_slash (name ++ rest) ≡ name ++ rest
keeps_slash [] rest h free = absurd h
keeps_slash (b ∷ more) rest h free = elim (cases_Bool (b == 47)) [
  | inl is ↦ absurd (free more (rw (eqb-true b 47 is) refl))
  | inr isnt ↦ rw isnt refl
]

ends : (path : Option (List ℕ)) → Stops is_version_byte (path_text path)
ends None = tt
ends (Some path) = refl

written : (kind : PackageKind) (nv : PackageNv) (path : Option (List ℕ)) → IsNvName nv.name → IsBareVersion nv.version → ReadsBack nv.version → NvReferenceReadsBack kind (reference_of nv path)
written kind nv path name_is plain back free =
    let text = append_assoc nv.name (64 ∷ version_text nv.version) (path_text path) in
    let same = ap without_slash text ∙ keeps_slash nv.name (64 ∷ (version_text nv.version ++ path_text path)) name_is free in
    let front : IsNvFront (nv.name ++ (64 ∷ (version_text nv.version ++ path_text path))) (Ok (nv, path_text path)) = is_front (writes_text nv.version name_is plain (ends path)) back in
    is_reference (nv_text nv ++ path_text path) refl (subst (λ (t : List ℕ). IsNvFront t (Ok (nv, path_text path))) (sym same) front)

pub reads_back : {text rest : List ℕ} {nv : PackageNv} (kind : PackageKind) (r : PackageNvReference) → IsNvFront text (Ok (nv, rest)) → IsBareVersion nv.version → ReadsBack nv.version → r.nv ≡ nv → NvReferenceReadsBack kind r
reads_back {nv = nv} kind r h plain back same =
    subst (λ (x : PackageNv). NvReferenceReadsBack kind (reference_of x r.sub_path)) (sym same) (written kind nv r.sub_path (front_name h) plain back)
