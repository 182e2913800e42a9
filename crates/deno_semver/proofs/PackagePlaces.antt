-- Where the version requirement of a package stands in its text.
use Rattle.std.proofs.Common.{◌≡◌, ◌+◌, ◌-◌, ◌==◌, ℕ, Bool, true, false, List, [], ◌∷◌, ◌++◌, length, Option, None, Some, refl, sym, subst, ap, ◌∙◌, arith, inl, inr, append_assoc, length-append, if◌then◌else◌}
use Rattle.deno_semver.specs.PackagePlaces.{IsRequirementAt, LacksRequirement, RequirementsStandAtOnePlace}
use Rattle.deno_semver.specs.PackageSteps.{IsCut, IsUncut}
use Rattle.deno_semver.specs.PackageText.{IsAfterScope, IsNamePart, IsPackageText, PackageParts, without_slash}
use Rattle.deno_semver.specs.declared.package.errors.PackageReqPartsParseError.{PackageReqPartsParseError}
use Rattle.deno_semver.proofs.PackageText.{no_alone, no_part, package_one, tail_one}

before_body : (text : List ℕ) → (front : List ℕ) × (text ≡ front ++ without_slash text)
before_body [] = ([], refl)
before_body (b ∷ rest) = go (b == 47)
  where
    go : (is : Bool) → (front : List ℕ) × (b ∷ rest ≡ front ++ (if is then rest else b ∷ rest))
    go true = (b ∷ [], refl)
    go false = ([], refl)

before_name : (scope : Option (List ℕ)) (body rest : List ℕ) → IsAfterScope scope body rest → (front : List ℕ) × (body ≡ front ++ rest)
before_name None body rest h = ([], h.1)
before_name (Some s) body rest h = (s ++ 47 ∷ [], h.1 ∙ sym (append_assoc s (47 ∷ []) rest))

-- what stands before the version
before_version : {text version : List ℕ} (parts : PackageParts) (h : IsPackageText text parts) → parts.version ≡ Some version → (before : List ℕ) × (text ≡ before ++ (version ++ h.tail))
before_version {text} {version} parts h is =
    let body = before_body text in
    let name = before_name parts.scope (without_slash text) h.rest h.scope in
    let named : IsNamePart h.last parts.name (Some version) = subst (IsNamePart h.last parts.name) is h.named in
    let behind = version ++ h.tail in
    let rest_is : h.rest ≡ (parts.name ++ 64 ∷ []) ++ behind = h.rest_is ∙ (ap (λ t. t ++ h.tail) named.0 ∙ (append_assoc parts.name (64 ∷ version) h.tail ∙ sym (append_assoc parts.name (64 ∷ []) behind))) in
    let body_is : without_slash text ≡ (name.0 ++ (parts.name ++ 64 ∷ [])) ++ behind = name.1 ∙ (ap (λ t. name.0 ++ t) rest_is ∙ sym (append_assoc name.0 (parts.name ++ 64 ∷ []) behind)) in
    (body.0 ++ (name.0 ++ (parts.name ++ 64 ∷ [])), body.1 ∙ (ap (λ t. body.0 ++ t) body_is ∙ sym (append_assoc body.0 (name.0 ++ (parts.name ++ 64 ∷ [])) behind)))

module _ {text name version tail path : List ℕ} {found : Option (List ℕ)} (cut : IsCut text name found tail path) (is : found ≡ Some version) where
  before : (before : List ℕ) × (text ≡ before ++ (version ++ tail))
  before =
      let b = before_version (record { scope = cut.scope; name = cut.last; version = found; path = path }) cut.parts is in
      (b.0, b.1 ∙ ap (λ t. b.0 ++ (version ++ t)) cut.tail_is)

  sizes : length text ≡ length before.0 + (length version + length tail)
  sizes = ap length before.1 ∙ (length-append before.0 (version ++ tail) ∙ ap (λ n. length before.0 + n) (length-append version tail))

  pub requirement_at : IsRequirementAt text (length text - length tail - length version) version
  requirement_at = record {
    parts = record { scope = cut.scope; name = cut.last; version = found; path = path };
    is_cut = cut.parts;
    version_is = is;
    before = before.0;
    text_is = before.1 ∙ ap (λ t. before.0 ++ (version ++ t)) (sym cut.tail_is);
    start_is = omega (arith, sizes);
  }

pub no_requirement : {text name : List ℕ} (tail path : List ℕ) {found : Option (List ℕ)} → IsCut text name found tail path → found ≡ None → LacksRequirement text
no_requirement tail path {found = found} cut is parts h = ap (λ (p : PackageParts). p.version) (package_one parts (record { scope = cut.scope; name = cut.last; version = found; path = path }) h cut.parts) ∙ is

pub no_parts : {text : List ℕ} (e : PackageReqPartsParseError) → IsUncut text e → LacksRequirement text
no_parts e (inl lacks) parts h = absurd (no_part parts h lacks.1)
no_parts e (inr alone) parts h = absurd (no_alone parts h alone.1)

pub one_place : RequirementsStandAtOnePlace
one_place text start other requirement also h k =
    let parts = package_one h.parts k.parts h.is_cut k.is_cut in
    let some : Some requirement ≡ Some also = sym h.version_is ∙ (ap (λ (p : PackageParts). p.version) parts ∙ k.version_is) in
    let same : requirement ≡ also = cc some in
    let tails = tail_one h.parts k.parts h.is_cut k.is_cut in
    let sizes : length text ≡ length h.before + (length requirement + length h.is_cut.tail) = omega (arith, ap length h.text_is, length-append h.before (requirement ++ h.is_cut.tail), length-append requirement h.is_cut.tail) in
    let others : length text ≡ length k.before + (length also + length k.is_cut.tail) = omega (arith, ap length k.text_is, length-append k.before (also ++ k.is_cut.tail), length-append also k.is_cut.tail) in
    (omega (arith, h.start_is, k.start_is, sizes, others, ap length same, ap length tails), same)
