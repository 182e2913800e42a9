-- The name of a parsed package, followed by `@` and the text of a version, splits into that name and that text.
use Rattle.std.proofs.Common.{◌≡◌, ◌<◌, ◌==◌, ℕ, true, false, List, [], ◌∷◌, ◌++◌, length, Option, Some, None, refl, sym, ap, subst, ◌∙◌, arith, append-nil, append_assoc, length-append}
use Rattle.std.specs.List.{list_all}
use Rattle.std.proofs.lemmas.Bool.{and_from, and_parts}
use Rattle.std.proofs.lemmas.Bool.Decides.{nat_tests}
use Rattle.std.proofs.lemmas.List.Folds.{list_all-append}
use Rattle.semver_base.specs.ValueLaws.{all_first}
use Rattle.deno_semver.specs.Cuts.{is_not}
use Rattle.deno_semver.specs.PackageText.{IsAfterScope, IsNamePart, IsPackageText, IsScope, PackageParts, scoped_name, starts_with_at, without_slash}

-- the name of some package's text
pub record IsReadName (name : List ℕ) : Type 0 where
  pub text : List ℕ
  pub cut : PackageParts
  pub is_cut : IsPackageText text cut
  pub is_name : name ≡ scoped_name cut.scope cut.name

abbrev pub parts_with : Option (List ℕ) → List ℕ → List ℕ → PackageParts
parts_with scope name version = record { scope = scope; name = name; version = Some version; path = [] }

pub name_passes : (last name : List ℕ) (version : Option (List ℕ)) → IsNamePart last name version → list_all (is_not 47) last ≡ true → list_all (is_not 47) name ≡ true
name_passes last name None h k = rw h.0 at k
name_passes last name (Some v) h k = all_first (is_not 47) name (64 ∷ v) (rw h.0 at k)

-- a name without a scope is non-empty, and doesn't begin with `@`
pub record IsBareName (name : List ℕ) : Type 0 where
  pub first : ℕ
  pub more : List ℕ
  pub name_is : name ≡ first ∷ more
  pub no_at : (first == 64) ≡ false
  pub no_slash : (first == 47) ≡ false

pub not_slash : (x : ℕ) → is_not 47 x ≡ true → (x == 47) ≡ false
not_slash x h = grind (arith, nat_tests)

pub at_no_slash : (x : ℕ) → (x == 64) ≡ true → (x == 47) ≡ false
at_no_slash x h = grind (arith, nat_tests)

plain : (body last tail name : List ℕ) (version : Option (List ℕ)) → starts_with_at body ≡ false → body ≡ last ++ tail → 0 < length last → list_all (is_not 47) last ≡ true → IsNamePart last name version → IsBareName name
plain body last tail [] None other is some pass h = absurd (omega (arith, some, ap length h.0))
plain body last tail [] (Some v) other is some pass h =
    let whole : body ≡ 64 ∷ (v ++ tail) = is ∙ ap (λ t. t ++ tail) h.0 in
    let at : starts_with_at body ≡ true = ap starts_with_at whole in
    absurd (cc (at, other))
plain body last tail (x ∷ more) None other is some pass h =
    let whole : body ≡ x ∷ (more ++ tail) = is ∙ ap (λ t. t ++ tail) h.0 in
    let passes : list_all (is_not 47) (x ∷ more) ≡ true = rw h.0 at pass in
    record { first = x; more = more; name_is = refl; no_at = sym (ap starts_with_at whole) ∙ other; no_slash = not_slash x (and_parts (is_not 47 x) _ passes).0 }
plain body last tail (x ∷ more) (Some v) other is some pass h =
    let whole : body ≡ x ∷ ((more ++ (64 ∷ v)) ++ tail) = is ∙ ap (λ t. t ++ tail) h.0 in
    let passes : list_all (is_not 47) (x ∷ (more ++ (64 ∷ v))) ≡ true = rw h.0 at pass in
    record { first = x; more = more; name_is = refl; no_at = sym (ap starts_with_at whole) ∙ other; no_slash = not_slash x (and_parts (is_not 47 x) _ passes).0 }

stored_slash : (x : ℕ) (rest : List ℕ) → (x == 47) ≡ false → without_slash (x ∷ rest) ≡ x ∷ rest
stored_slash x rest h = rw h refl

some_last : (name version : List ℕ) → 0 < length (name ++ (64 ∷ version))
some_last name version = omega (arith, length-append name (64 ∷ version))

module _ (version : List ℕ) (no_at : list_all (is_not 64) version ≡ true) (no_slash : list_all (is_not 47) version ≡ true) where
  last_passes : (name : List ℕ) → list_all (is_not 47) name ≡ true → list_all (is_not 47) (name ++ (64 ∷ version)) ≡ true
  last_passes name h = list_all-append (is_not 47) name (64 ∷ version) ∙ and_from _ _ h no_slash

  -- text that continues after its scope with the last part of a name and the version
  cut_of : (text : List ℕ) (scope : Option (List ℕ)) (name : List ℕ) → IsAfterScope scope (without_slash text) (name ++ (64 ∷ version)) → list_all (is_not 47) name ≡ true → IsPackageText text (parts_with scope name version)
  cut_of text scope name after passes = record {
    rest = name ++ (64 ∷ version);
    scope = after;
    last = name ++ (64 ∷ version);
    tail = [];
    rest_is = sym (append-nil (name ++ (64 ∷ version)));
    last_some = some_last name version;
    last_is = last_passes name passes;
    named = (refl, no_at);
    path = refl;
  }

  bare_cut : (name : List ℕ) → IsBareName name → list_all (is_not 47) name ≡ true → IsPackageText (name ++ (64 ∷ version)) (parts_with None name version)
  bare_cut name h passes =
      let whole : name ++ (64 ∷ version) ≡ h.first ∷ (h.more ++ (64 ∷ version)) = ap (λ t. t ++ (64 ∷ version)) h.name_is in
      let same : without_slash (name ++ (64 ∷ version)) ≡ name ++ (64 ∷ version) = ap without_slash whole ∙ (stored_slash h.first _ h.no_slash ∙ sym whole) in
      let no : starts_with_at (without_slash (name ++ (64 ∷ version))) ≡ false = ap starts_with_at (same ∙ whole) ∙ h.no_at in
      cut_of (name ++ (64 ∷ version)) None name (no, same) passes

  scoped_cut : (scope name : List ℕ) → IsScope scope → list_all (is_not 47) name ≡ true → IsPackageText ((scope ++ (47 ∷ name)) ++ (64 ∷ version)) (parts_with (Some scope) name version)
  scoped_cut [] name h passes = cc h.at
  scoped_cut (x ∷ more) name h passes =
      let whole : ((x ∷ more) ++ (47 ∷ name)) ++ (64 ∷ version) ≡ (x ∷ more) ++ (47 ∷ (name ++ (64 ∷ version))) = append_assoc (x ∷ more) (47 ∷ name) (64 ∷ version) in
      let same = stored_slash x ((more ++ (47 ∷ name)) ++ (64 ∷ version)) (at_no_slash x h.at) in
      cut_of (((x ∷ more) ++ (47 ∷ name)) ++ (64 ∷ version)) (Some (x ∷ more)) name (h, same ∙ whole) passes

  -- the parts of that text
  pub record IsCutAgain (name : List ℕ) : Type 0 where
    pub cut : PackageParts
    pub is_cut : IsPackageText (name ++ (64 ∷ version)) cut
    pub is_name : name ≡ scoped_name cut.scope cut.name
    pub version_is : cut.version ≡ Some version
    pub no_path : length cut.path ≡ 0

  pub cut_again : (name : List ℕ) → IsReadName name → IsCutAgain name
  cut_again name h = go h.cut.scope h.is_cut.scope h.is_name
    where
      passes : list_all (is_not 47) h.cut.name ≡ true
      passes = name_passes h.is_cut.last h.cut.name h.cut.version h.is_cut.named h.is_cut.last_is

      go : (scope : Option (List ℕ)) → IsAfterScope scope (without_slash h.text) h.is_cut.rest → name ≡ scoped_name scope h.cut.name → IsCutAgain name
      go None after is = record {
        cut = parts_with None h.cut.name version;
        is_cut = subst (λ t. IsPackageText (t ++ (64 ∷ version)) (parts_with None h.cut.name version)) (sym is)
            (bare_cut h.cut.name (plain (without_slash h.text) h.is_cut.last h.is_cut.tail h.cut.name h.cut.version after.0 (after.1 ∙ h.is_cut.rest_is) h.is_cut.last_some h.is_cut.last_is h.is_cut.named) passes);
        is_name = is;
        version_is = refl;
        no_path = refl;
      }
      go (Some scope) after is = record {
        cut = parts_with (Some scope) h.cut.name version;
        is_cut = subst (λ t. IsPackageText (t ++ (64 ∷ version)) (parts_with (Some scope) h.cut.name version)) (sym is) (scoped_cut scope h.cut.name after.0 passes);
        is_name = is;
        version_is = refl;
        no_path = refl;
      }
