-- The text of a parsed reference parses to it, and `*` is any version in the strict grammar.
use Rattle.std.proofs.Common.{◌≡◌, ◌<◌, ◌==◌, ◌++◌, ◌∷◌, [], ℕ, Bool, true, false, List, Option, None, Some, Ok, length, refl, sym, ap, subst, ◌∙◌, arith, append-nil, append_assoc, nat_eq, ◌||◌, bytes_eq, codes}
use Rattle.std.specs.Cmp.Lexicographic.{pointwise}
use Rattle.std.specs.List.{list_all}
use Rattle.std.proofs.lemmas.Bool.{and_parts}
use Rattle.std.proofs.lemmas.Bool.Decides.{nat_tests}
use Rattle.std.proofs.lemmas.Slice.Eq.{bytes_eq-Decides}
use Rattle.semver_base.specs.ValueLaws.{all_second}
use Rattle.semver_req.specs.Outcome.{TextsHaveOneOutcome}
use Rattle.semver_req.specs.Requirement.{Requirement, wildcard}
use Rattle.semver_req.specs.Rereading.{StarIsAnyVersion}
use Rattle.semver_req.specs.declared.common.values.Flavour.TheVariants.{Specifier}
use Rattle.deno_semver.specs.Cuts.{is_not}
use Rattle.deno_semver.specs.Kind.{scheme_of}
use Rattle.deno_semver.specs.PackageOutcome.{IsVersionReq}
use Rattle.deno_semver.specs.PackageText.{IsAfterScope, IsNamePart, IsPackageText, IsPathPart, IsScope, PackageParts, scoped_name, starts_with_at, without_slash}
use Rattle.deno_semver.specs.ReferenceOutcome.{HasNoVersionInPath, IsBareName, IsReadReference, IsReferenceOutcome, ReferenceReadsBack, is_reference}
use Rattle.deno_semver.specs.ReferenceText.{path_text, reference_text, sub_path_of}
use Rattle.deno_semver.specs.declared.package.values.PackageKind.{PackageKind}
use Rattle.deno_semver.specs.declared.package.reference.PackageReqReference.{PackageReqReference}
use Rattle.deno_semver.proofs.PackageFaults.{version_one}
use Rattle.deno_semver.proofs.StoredNames.{at_no_slash, name_passes, not_slash}

-- ---- `*` in the strict grammar

-- if the text is `*`, or there is none, any version matches
pub any_version : TextsHaveOneOutcome → StarIsAnyVersion → (v : Option (List ℕ)) (req : Requirement) → IsVersionReq Specifier v req → req.raw_text ≡ codes "*" → req ≡ wildcard
any_version texts star None req is any = is
any_version texts star (Some v) req is any =
    let text : v ≡ codes "*" = sym is.raw_text ∙ any in
    version_one texts Specifier (Some (codes "*")) req wildcard (subst (λ (t : List ℕ). IsVersionReq Specifier (Some t) req) text is) (star Specifier)

-- ---- how a written text splits

-- how a sub path is written
abbrev written_path : Option (List ℕ) → List ℕ
written_path None = []
written_path (Some path) = path

path_part : (sub_path : Option (List ℕ)) → IsPathPart (path_text sub_path) (written_path sub_path)
path_part None = refl
path_part (Some path) = (refl, refl)

path_again : (path : List ℕ) (sub_path : Option (List ℕ)) → sub_path ≡ sub_path_of path → sub_path ≡ sub_path_of (written_path sub_path)
path_again path None is = refl
path_again path (Some p) is = go (bytes_eq path [] || bytes_eq path (codes "/")) refl
  where
    go : (b : Bool) → (bytes_eq path [] || bytes_eq path (codes "/")) ≡ b → Some p ≡ sub_path_of p
    go true e = let none : Some p ≡ None = rw e at is in cc none
    go false e = let some : Some p ≡ Some path = rw e at is in let same : p ≡ path = cc some in rw (same, e) refl

-- a scope, or a last part that isn't one
abbrev IsFront : Option (List ℕ) → List ℕ → Type 0
IsFront None last = starts_with_at last ≡ false
IsFront (Some scope) last = IsScope scope

keeps_front : (scope : Option (List ℕ)) (last rest : List ℕ) → IsFront scope last → 0 < length last → list_all (is_not 47) last ≡ true → without_slash (scoped_name scope last ++ rest) ≡ scoped_name scope last ++ rest
keeps_front None [] rest h some free = absurd (omega (arith, some))
keeps_front None (b ∷ last) rest h some free = rw (not_slash b (and_parts (is_not 47 b) (list_all (is_not 47) last) free).0) refl
keeps_front (Some []) last rest h some free = cc h.at
keeps_front (Some (b ∷ scope)) last rest h some free = rw (at_no_slash b h.at) refl

after_front : (scope : Option (List ℕ)) (last tail text : List ℕ) → IsFront scope last → 0 < length last → text ≡ scoped_name scope last ++ tail → IsAfterScope scope text (last ++ tail)
after_front None [] tail text h some is = absurd (omega (arith, some))
after_front None (b ∷ last) tail text h some is = (rw is h, is)
after_front (Some scope) last tail text h some is = (h, is ∙ append_assoc scope (47 ∷ last) tail)

cut_again : (scope : Option (List ℕ)) (last name : List ℕ) (version sub_path : Option (List ℕ)) (text : List ℕ) → IsFront scope last → 0 < length last → list_all (is_not 47) last ≡ true → IsNamePart last name version
    → text ≡ scoped_name scope last ++ path_text sub_path → IsPackageText text (record { scope = scope; name = name; version = version; path = written_path sub_path })
cut_again scope last name version sub_path text front some free named is = record {
  rest = last ++ path_text sub_path;
  scope = after_front scope last (path_text sub_path) (without_slash text) front some (ap without_slash is ∙ keeps_front scope last (path_text sub_path) front some free);
  last = last;
  tail = path_text sub_path;
  rest_is = refl;
  last_some = some;
  last_is = free;
  named = named;
  path = path_part sub_path;
}

-- ---- parsed references

first_at : (last x : List ℕ) → 0 < length last → starts_with_at (last ++ x) ≡ starts_with_at last
first_at [] x some = absurd (omega (arith, some))
first_at (b ∷ last) x some = refl

front_of : {text : List ℕ} (parts : PackageParts) (h : IsPackageText text parts) → IsFront parts.scope h.last
front_of {text} parts h = go parts.scope h.scope
  where
    go : (s : Option (List ℕ)) → IsAfterScope s (without_slash text) h.rest → IsFront s h.last
    go None k = sym (first_at h.last h.tail h.last_some) ∙ (ap starts_with_at (sym (k.1 ∙ h.rest_is)) ∙ k.0)
    go (Some s) k = k.0

scoped_with : (scope : Option (List ℕ)) (name x : List ℕ) → scoped_name scope name ++ x ≡ scoped_name scope (name ++ x)
scoped_with None name x = refl
scoped_with (Some scope) name x = append_assoc scope (47 ∷ name) x

-- without an `@` in the path there isn't a version in it
pub no_version_in : (r : PackageReqReference) (path : List ℕ) → r.sub_path ≡ Some path → list_all (is_not 64) path ≡ true → HasNoVersionInPath r
no_version_in r path is none before version h =
    let both : Some path ≡ Some (before ++ (64 ∷ version)) = sym is ∙ h.path in
    let same : path ≡ before ++ (64 ∷ version) = cc both in
    cc (all_second (is_not 64) before (64 ∷ version) (sym (ap (list_all (is_not 64)) same) ∙ none))

-- a last part that is a name alone, or is followed by a version
not_empty : (last name : List ℕ) (version : Option (List ℕ)) → IsNamePart last name version → starts_with_at last ≡ false → 0 < length last → (0 < length name) × (starts_with_at name ≡ false)
not_empty last name None h at some = (rw (ap length (sym h.0)) some, rw (sym h.0) at)
not_empty last [] (Some v) h at some = let reported : starts_with_at (64 ∷ v) ≡ false = rw h.0 at at in cc reported
not_empty last (b ∷ name) (Some v) h at some = let reported : starts_with_at ((b ∷ name) ++ (64 ∷ v)) ≡ false = rw h.0 at at in (omega arith, reported)

-- the name of a reference to any version parses to a name without a version
record IsAlone (scope : Option (List ℕ)) (name : List ℕ) : Type 0 where
  some : 0 < length name
  front : IsFront scope name
  no_at : list_all (is_not 64) name ≡ true

not_at : (b : ℕ) → (b == 64) ≡ false → is_not 64 b ≡ true
not_at b h = grind (arith, nat_tests)

alone : (scope : Option (List ℕ)) (last name : List ℕ) (version : Option (List ℕ)) → IsFront scope last → 0 < length last → IsNamePart last name version → IsBareName (scoped_name scope name) → IsAlone scope name
alone None last [] version front some named plain = let h = not_empty last [] version named front some in absurd (omega (arith, h.0))
alone None last (b ∷ name) version front some named plain =
    let h = not_empty last (b ∷ name) version named front some in
    record { some = omega arith; front = h.1; no_at = rw (not_at b h.1) plain.no_at }
alone (Some scope) last [] version front some named plain = absurd (plain.no_slash scope refl)
alone (Some []) last (b ∷ name) version front some named plain = cc front.at
alone (Some (a ∷ scope)) last (b ∷ name) version front some named plain =
    let back = all_second (is_not 64) scope (47 ∷ b ∷ name) plain.no_at in
    record { some = omega arith; front = front; no_at = (and_parts (is_not 64 47) (list_all (is_not 64) (b ∷ name)) back).1 }

-- ---- it parses back

module _ (texts : TextsHaveOneOutcome) (any : StarIsAnyVersion) (kind : PackageKind) {body : List ℕ} (r : PackageReqReference) (h : IsReadReference body r) (none : HasNoVersionInPath r) where
  abbrev tail : List ℕ
  tail = path_text r.sub_path

  any_back : (pointwise nat_eq r.req.version_req.raw_text (codes "*")) ≡ true → IsBareName r.req.name → IsReferenceOutcome kind (scheme_of kind ++ reference_text r) (Ok r)
  any_back star plain =
      let is_star = (bytes_eq-Decides r.req.version_req.raw_text (codes "*")).0 star in
      let whole = alone h.cut.scope h.is_cut.last h.cut.name h.cut.version (front_of h.cut h.is_cut) h.is_cut.last_some h.is_cut.named (subst (λ (n : List ℕ). IsBareName n) h.name plain) in
      let written : reference_text r ≡ scoped_name h.cut.scope h.cut.name ++ tail = rw star (ap (λ t. t ++ tail) (append-nil r.req.name ∙ h.name)) in
      is_reference refl (record {
        cut = record { scope = h.cut.scope; name = h.cut.name; version = None; path = written_path r.sub_path };
        is_cut = cut_again h.cut.scope h.cut.name h.cut.name None r.sub_path (reference_text r) whole.front whole.some (name_passes h.is_cut.last h.cut.name h.cut.version h.is_cut.named h.is_cut.last_is) (refl, whole.no_at) written;
        name = h.name;
        version_req = any_version texts any h.cut.version r.req.version_req h.version_req is_star;
        sub_path = path_again h.cut.path r.sub_path h.sub_path;
      }) none

  last_is : (v : Option (List ℕ)) → h.cut.version ≡ v → IsVersionReq Specifier v r.req.version_req → IsNamePart h.is_cut.last h.cut.name v → (pointwise nat_eq r.req.version_req.raw_text (codes "*")) ≡ false
      → scoped_name h.cut.scope h.cut.name ++ (64 ∷ r.req.version_req.raw_text) ≡ scoped_name h.cut.scope h.is_cut.last
  last_is None is req named other = let reported : pointwise nat_eq (codes "*") (codes "*") ≡ false = rw (ap (λ (x : Requirement). x.raw_text) req) at other in cc reported
  last_is (Some v) is req named other =
      rw (req.raw_text, named.0) (scoped_with h.cut.scope h.cut.name (64 ∷ v))

  version_back : (pointwise nat_eq r.req.version_req.raw_text (codes "*")) ≡ false → IsReferenceOutcome kind (scheme_of kind ++ reference_text r) (Ok r)
  version_back other =
      let same = last_is h.cut.version refl h.version_req h.is_cut.named other in
      let written : reference_text r ≡ scoped_name h.cut.scope h.is_cut.last ++ tail = rw other (ap (λ t. t ++ tail) (ap (λ t. t ++ (64 ∷ r.req.version_req.raw_text)) h.name ∙ same)) in
      is_reference refl (record {
        cut = record { scope = h.cut.scope; name = h.cut.name; version = h.cut.version; path = written_path r.sub_path };
        is_cut = cut_again h.cut.scope h.is_cut.last h.cut.name h.cut.version r.sub_path (reference_text r) (front_of h.cut h.is_cut) h.is_cut.last_some h.is_cut.last_is h.is_cut.named written;
        name = h.name;
        version_req = h.version_req;
        sub_path = path_again h.cut.path r.sub_path h.sub_path;
      }) none

  pub reads_back : ReferenceReadsBack kind r
  reads_back plain = go (pointwise nat_eq r.req.version_req.raw_text (codes "*")) refl
    where
      go : (b : Bool) → (pointwise nat_eq r.req.version_req.raw_text (codes "*")) ≡ b → IsReferenceOutcome kind (scheme_of kind ++ reference_text r) (Ok r)
      go true star = any_back star (plain ((bytes_eq-Decides r.req.version_req.raw_text (codes "*")).0 star))
      go false other = version_back other
