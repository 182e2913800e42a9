-- A text parses to one dependency or has one fault, and which fault an error reports.
use Rattle.std.proofs.Common.{◌≡◌, ◌==◌, ◌++◌, ℕ, List, true, false, Result, Ok, Err, get_or, refl, sym, ap, ap₂, subst, ◌∙◌, inl, inr, ◌⊎◌, Bor, Option, None, Some, MatchOption, arith, take, String, Global, string_bytes}
use Rattle.std.proofs.Math.Seq.{take-length}
use Rattle.std.proofs.lemmas.Str.Pattern.{IsSplitOnceResult, split_once_first}
use Rattle.std.proofs.lemmas.List.{append_cancel_left}
use Rattle.semver_req.specs.declared.common.values.Flavour.{Flavour}
use Rattle.deno_semver.specs.DependencyOutcome.{BadRequirement, DependencyFault, IsDependencyAnswer, IsDependencyOutcome, IsDependencyRejection, IsOfPackageError, OtherScheme, ReportsDependency, bad_requirement, is_dependency, other_scheme, reported_scheme}
use Rattle.deno_semver.specs.Kind.{scheme_of}
use Rattle.deno_semver.specs.OneOutcome.{PackageTextsHaveOneOutcome}
use Rattle.deno_semver.specs.PackageOutcome.{PackageFault, IsPackageAnswer, IsPackageOutcome, IsPackageRejection, IsOutOfMemory, ReportsFault}
use Rattle.deno_semver.specs.ReferenceText.{LacksScheme}
use Rattle.deno_semver.specs.declared.jsr.dependency.JsrDepPackageReq.{JsrDepPackageReq}
use Rattle.deno_semver.specs.declared.jsr.dependency.JsrDepPackageReqParseError.{JsrDepPackageReqParseError}
use Rattle.deno_semver.specs.declared.jsr.dependency.JsrDepPackageReqParseError.TheVariants as error
use Rattle.deno_semver.specs.declared.package.errors.PackageReqParseError.{PackageReqParseError}
use Rattle.deno_semver.specs.declared.package.values.PackageKind.{PackageKind}
use Rattle.deno_semver.specs.declared.package.values.PackageKind.TheVariants.{Jsr, Npm}
use Rattle.deno_semver.specs.declared.package.values.PackageReq.{PackageReq}

-- ---- one scheme

two_schemes : (a b : List ℕ) → scheme_of Jsr ++ a ≡ scheme_of Npm ++ b → ⊥
two_schemes a b e =
    let first : (get_or (scheme_of Jsr ++ a) 0 0 == 106) ≡ (get_or (scheme_of Npm ++ b) 0 0 == 106) = ap (λ (t : List ℕ). get_or t 0 0 == 106) e in
    let reported : true ≡ false = first in
    cc reported

one_kind : (k l : PackageKind) (a b : List ℕ) → scheme_of k ++ a ≡ scheme_of l ++ b → k ≡ l
one_kind Jsr Jsr a b e = refl
one_kind Jsr Npm a b e = absurd (two_schemes a b e)
one_kind Npm Jsr a b e = absurd (two_schemes b a (sym e))
one_kind Npm Npm a b e = refl

one_body : (k l : PackageKind) (a b : List ℕ) → scheme_of k ++ a ≡ scheme_of l ++ b → a ≡ b
one_body k l a b e = append_cancel_left (scheme_of k) a b (e ∙ ap (λ (x : PackageKind). scheme_of x ++ b) (sym (one_kind k l a b e)))

-- ---- errors and results

-- the text before the first `:`
pub before_colon : (text : List ℕ) (r : Option (Bor (List ℕ) × Bor (List ℕ))) → IsSplitOnceResult 58 text r → MatchOption r (text ≡ reported_scheme text) (λ x. x.0.now ≡ reported_scheme text)
before_colon text None h = sym (ap (λ n. take n text) (split_once_first 58 text None h (omega arith)) ∙ take-length text)
before_colon text (Some x) h = (split_once_first 58 text (Some x) h (omega arith)).1

pub scheme_rejected : {f : Flavour} {text : List ℕ} (scheme : String Global) → ((kind : PackageKind) → LacksScheme kind text) → string_bytes scheme ≡ reported_scheme text
    → IsDependencyRejection f text (error.NotExpectedScheme scheme)
scheme_rejected scheme none reported = inr (OtherScheme, other_scheme none, reported)

pub scheme_answer : {f : Flavour} {text : List ℕ} (scheme : String Global) → ((kind : PackageKind) → LacksScheme kind text) → string_bytes scheme ≡ reported_scheme text
    → (o : Result JsrDepPackageReq DependencyFault) → IsDependencyOutcome f text o → IsDependencyAnswer f text o (Err (error.NotExpectedScheme scheme))
scheme_answer scheme none reported _ (other_scheme k) = inr reported
scheme_answer scheme none reported _ (is_dependency kind body is h) = absurd (none kind body is)
scheme_answer scheme none reported _ (bad_requirement kind body is h) = absurd (none kind body is)

abbrev pub dependency_of : PackageKind → PackageReq → JsrDepPackageReq
dependency_of kind req = record { kind = kind; req = req }

same_dependency : {k l : PackageKind} {x y : PackageReq} → k ≡ l → x ≡ y → dependency_of k x ≡ dependency_of l y
same_dependency a b = rw (a, b) refl

module _ (packages : PackageTextsHaveOneOutcome) {f : Flavour} {text : List ℕ} where
  -- two package requirements after the schemes of one text are the same
  after_one : (k l : PackageKind) (a b : List ℕ) (o p : Result PackageReq PackageFault) → text ≡ scheme_of k ++ a → text ≡ scheme_of l ++ b
      → IsPackageOutcome f a o → IsPackageOutcome f b p → o ≡ p
  after_one k l a b o p e e' h h' = packages f a o p h (subst (λ body. IsPackageOutcome f body p) (sym (one_body k l a b (sym e ∙ e'))) h')

  pub dependency_one : (o p : Result JsrDepPackageReq DependencyFault) → IsDependencyOutcome f text o → IsDependencyOutcome f text p → o ≡ p
  dependency_one _ _ (other_scheme none) (other_scheme _) = refl
  dependency_one _ _ (other_scheme none) (is_dependency kind body is h) = absurd (none kind body is)
  dependency_one _ _ (other_scheme none) (bad_requirement kind body is h) = absurd (none kind body is)
  dependency_one _ _ (is_dependency kind body is h) (other_scheme none) = absurd (none kind body is)
  dependency_one _ _ (bad_requirement kind body is h) (other_scheme none) = absurd (none kind body is)
  dependency_one _ _ (is_dependency k a {req = x} e h) (is_dependency l b {req = y} e' h') =
      let same : x ≡ y = cc (after_one k l a b (Ok x) (Ok y) e e' h h') in
      ap Ok (same_dependency (one_kind k l a b (sym e ∙ e')) same)
  dependency_one _ _ (is_dependency k a {req = x} e h) (bad_requirement l b {fault = y} e' h') = absurd (cc (after_one k l a b (Ok x) (Err y) e e' h h'))
  dependency_one _ _ (bad_requirement k a {fault = x} e h) (is_dependency l b {req = y} e' h') = absurd (cc (after_one k l a b (Err x) (Ok y) e e' h h'))
  dependency_one _ _ (bad_requirement k a {fault = x} e h) (bad_requirement l b {fault = y} e' h') =
      let same : x ≡ y = cc (after_one k l a b (Err x) (Err y) e e' h h') in
      ap₂ (λ (body : List ℕ) (fault : PackageFault). Err (BadRequirement body fault)) (one_body k l a b (sym e ∙ e')) same

-- the package parser's result for each outcome
abbrev pub PackageAnswers : Flavour → List ℕ → Result PackageReq PackageReqParseError → Type 0
PackageAnswers f body result = (o : Result PackageReq PackageFault) → IsPackageOutcome f body o → IsPackageAnswer f body o result

memory_of : {inner : PackageReqParseError} {e : JsrDepPackageReqParseError} → IsOutOfMemory inner → IsOfPackageError inner e → e ≡ error.Memory
memory_of memory (inl h) = h.1
memory_of memory (inr h) = absurd (h.0 memory.source)

reports_of : {f : Flavour} (text : List ℕ) {body : List ℕ} {fault : PackageFault} {inner : PackageReqParseError} {e : JsrDepPackageReqParseError} → IsOutOfMemory inner ⊎ ReportsFault f fault body inner → IsOfPackageError inner e
    → (e ≡ error.Memory) ⊎ ReportsDependency f text (BadRequirement body fault) e
reports_of text (inl memory) of = inl (memory_of memory of)
reports_of text (inr reported) (inl h) = inl h.1
reports_of {f} text {body} {fault} (inr reported) (inr h) = inr (subst (λ (x : JsrDepPackageReqParseError). ReportsDependency f text (BadRequirement body fault) x) (sym h.1) reported)

pub package_rejected : {f : Flavour} {text : List ℕ} (kind : PackageKind) (body : List ℕ) {inner : PackageReqParseError} {e : JsrDepPackageReqParseError} → text ≡ scheme_of kind ++ body → IsPackageRejection f body inner
    → IsOfPackageError inner e → IsDependencyRejection f text e
package_rejected kind body is (inl memory) of = inl (memory_of memory of)
package_rejected {f} {text} kind body {inner} {e} is (inr h) of = go (reports_of {f = f} text {body = body} {fault = h.0} {inner = inner} {e = e} (inr h.2) of)
  where
    go : (e ≡ error.Memory) ⊎ ReportsDependency f text (BadRequirement body h.0) e → IsDependencyRejection f text e
    go (inl memory) = inl memory
    go (inr reported) = inr (BadRequirement body h.0, bad_requirement kind body is h.1, reported)

module _ {f : Flavour} {text : List ℕ} (kind : PackageKind) (body : List ℕ) (is : text ≡ scheme_of kind ++ body) where
  at : (k : PackageKind) (other : List ℕ) {o : Result PackageReq PackageFault} → text ≡ scheme_of k ++ other → IsPackageOutcome f other o → IsPackageOutcome f body o
  at k other {o} e h = subst (λ (t : List ℕ). IsPackageOutcome f t o) (one_body k kind other body (sym e ∙ is)) h

  pub package_answer : {inner : PackageReqParseError} {e : JsrDepPackageReqParseError} → PackageAnswers f body (Err inner) → IsOfPackageError inner e
      → (o : Result JsrDepPackageReq DependencyFault) → IsDependencyOutcome f text o → IsDependencyAnswer f text o (Err e)
  package_answer answer of _ (other_scheme none) = absurd (none kind body is)
  package_answer answer of _ (is_dependency k other x h) = memory_of (answer _ (at k other x h)) of
  package_answer {inner} {e} answer of _ (bad_requirement k other {fault} x h) =
      let same = one_body k kind other body (sym x ∙ is) in
      let reported = reports_of {f = f} text {body = body} {fault = fault} {inner = inner} {e = e} (answer _ (at k other x h)) of in
      subst (λ (t : List ℕ). (e ≡ error.Memory) ⊎ ReportsDependency f text (BadRequirement t fault) e) (sym same) reported

  pub read_answer : (req : PackageReq) → PackageAnswers f body (Ok req) → (o : Result JsrDepPackageReq DependencyFault) → IsDependencyOutcome f text o → IsDependencyAnswer f text o (Ok (dependency_of kind req))
  read_answer req answer _ (other_scheme none) = absurd (none kind body is)
  read_answer req answer _ (is_dependency k other {req = y} x h) =
      let reqs : req ≡ y = answer _ (at k other x h) in
      same_dependency (one_kind kind k body other (sym is ∙ x)) reqs
  read_answer req answer _ (bad_requirement k other x h) = absurd (answer _ (at k other x h))
