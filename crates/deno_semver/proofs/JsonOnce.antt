-- No JSON parses to two values, from what texts parse to.
use Rattle.std.proofs.Common.{◌≡◌, ◌==◌, ℕ, Bool, List, [], ◌∷◌, get_or, Some, Result, Ok, codes, refl, sym, ap, ap₂, subst, ◌∙◌}
use Rattle.serde_json.specs.Data.{Data, array, string, Items, item, no_items}
use Rattle.semver_base.specs.declared.range.RangeBound.{RangeBound}
use Rattle.semver_base.specs.declared.range.RangeBound.TheVariants as bound
use Rattle.semver_base.specs.declared.range.VersionBoundKind.{VersionBoundKind}
use Rattle.semver_base.specs.declared.range.VersionBoundKind.TheVariants as kind
use Rattle.semver_base.specs.declared.range.VersionRange.{VersionRange}
use Rattle.semver_base.specs.declared.version.Version.{Version}
use Rattle.semver_base.specs.VersionText.{VersionTextsHaveOneOutcome}
use Rattle.std.specs.Str.{trim}
use Rattle.semver_req.specs.Outcome.{Outcome, Ranges, Rejected, Tag, TextsHaveOneOutcome}
use Rattle.semver_req.specs.Parsers.{IsRead}
use Rattle.semver_req.specs.declared.common.values.Flavour.TheVariants.{Normal}
use Rattle.semver_req.specs.declared.range_set_or_tag.RangeSetOrTag.{RangeSetOrTag}
use Rattle.deno_semver.specs.Json.{AreItemsOf, IsJsonOfBound, IsJsonOfRange, IsJsonOfRangeBound, IsJsonOfSet, IsJsonOfVersionReq, IsMemberOf, IsStringOf, IsTextItself, IsTextOfDependency, IsTextOfInner, IsTextOfKind, IsTextOfNv, IsTextOfReference, IsTextOfReq, IsTextOfVersion}
use Rattle.deno_semver.specs.OneOutcome.{DependenciesHaveOneOutcome, NamesWithVersionsHaveOneOutcome, PackageTextsHaveOneOutcome, ParsesToOne, VersionReferencesHaveOneOutcome}
use Rattle.deno_semver.specs.StoredList.{IsJsonOfReqs}
use Rattle.deno_semver.specs.declared.package.values.PackageKind.{PackageKind}

-- ---- strings, members and items

-- a text parses to one value
abbrev pub ReadsOne : {T : Type 0} → (List ℕ → T → Type 0) → Type 0
ReadsOne {T} Reads = (text : List ℕ) (x y : T) → Reads text x → Reads text y → x ≡ y

one_string : (s t : List ℕ) → string s ≡ string t → s ≡ t
one_string s t e = cc e

one_array : (ds es : Items) → array ds ≡ array es → ds ≡ es
one_array ds es e = cc e

one_some : (d e : Data) → Some d ≡ Some e → d ≡ e
one_some d e is = cc is

pub string_once : {T : Type 0} (Reads : List ℕ → T → Type 0) → ReadsOne Reads → ParsesToOne (IsStringOf Reads)
string_once {T} Reads one json x y h k =
    let same : h.text ≡ k.text = one_string h.text k.text (sym h.is_string ∙ k.is_string) in
    one k.text x y (subst (λ text. Reads text x) same h.reads) k.reads

member_once : {T : Type 0} (Reads : Data → T → Type 0) → ParsesToOne Reads → (key : List ℕ) → ParsesToOne (IsMemberOf Reads key)
member_once {T} Reads one key json x y h k =
    let same : h.member_json ≡ k.member_json = one_some h.member_json k.member_json (sym h.is_member ∙ k.is_member) in
    one k.member_json x y (subst (λ d. Reads d x) same h.reads) k.reads

items_once : {T : Type 0} (Reads : Data → T → Type 0) → ParsesToOne Reads → (ds : Items) (xs ys : List T) → AreItemsOf Reads ds xs → AreItemsOf Reads ds ys → xs ≡ ys
items_once Reads one no_items [] [] h k = refl
items_once Reads one no_items [] (y ∷ ys) h k = absurd k
items_once Reads one no_items (x ∷ xs) ys h k = absurd h
items_once Reads one (item d ds) [] ys h k = absurd h
items_once Reads one (item d ds) (x ∷ xs) [] h k = absurd k
items_once Reads one (item d ds) (x ∷ xs) (y ∷ ys) h k = ap₂ (λ z zs. z ∷ zs) (one d x y h.0 k.0) (items_once Reads one ds xs ys h.1 k.1)

array_once : {T : Type 0} (Reads : Data → T → Type 0) → ParsesToOne Reads → (json : Data) (ds es : Items) (xs ys : List T) → json ≡ array ds → json ≡ array es
    → AreItemsOf Reads ds xs → AreItemsOf Reads es ys → xs ≡ ys
array_once Reads one json ds es xs ys is also h k = items_once Reads one es xs ys (subst (λ is. AreItemsOf Reads is xs) (one_array ds es (sym is ∙ also)) h) k

-- ---- versions, bounds and ranges

abbrev begins_as_inclusive : List ℕ → Bool
begins_as_inclusive text = get_or text 0 0 == 73

kind_once : ReadsOne IsTextOfKind
kind_once text kind.Inclusive kind.Inclusive h k = refl
kind_once text kind.Inclusive kind.Exclusive h k = cc (ap begins_as_inclusive (sym h ∙ k))
kind_once text kind.Exclusive kind.Inclusive h k = cc (ap begins_as_inclusive (sym k ∙ h))
kind_once text kind.Exclusive kind.Exclusive h k = refl

-- outcomes that are values are the same value
one_value : {T E : Type 0} (x y : T) {o p : Result T E} → o ≡ Ok x → p ≡ Ok y → o ≡ p → x ≡ y
one_value x y is also same = cc (sym is ∙ same ∙ also)

module _ (versions : VersionTextsHaveOneOutcome) where
  pub version_once : ParsesToOne (IsStringOf IsTextOfVersion)
  version_once = string_once IsTextOfVersion (λ text x y h k. one_value x y refl refl (versions (trim text) (Ok x) (Ok y) h k))

  bound_once : ParsesToOne IsJsonOfBound
  bound_once json x y h k = ap₂ (λ (b : VersionBoundKind) (v : Version). record { kind = b; version = v })
      (member_once (IsStringOf IsTextOfKind) (string_once IsTextOfKind kind_once) (codes "kind") json x.kind y.kind h.kind k.kind)
      (member_once (IsStringOf IsTextOfVersion) version_once (codes "version") json x.version y.version h.version k.version)

  range_bound_once : ParsesToOne IsJsonOfRangeBound
  range_bound_once json bound.Unbounded bound.Unbounded h k = refl
  range_bound_once json bound.Unbounded (bound.Version y) h k = cc (h, k.1)
  range_bound_once json (bound.Version x) bound.Unbounded h k = cc (h.1, k)
  range_bound_once json (bound.Version x) (bound.Version y) h k =
      let same : h.0 ≡ k.0 = cc (h.1, k.1) in
      ap bound.Version (bound_once k.0 x y (subst (λ d. IsJsonOfBound d x) same h.2) k.2)

  pub range_once : ParsesToOne IsJsonOfRange
  range_once json x y h k = ap₂ (λ (s e : RangeBound). record { start = s; end = e })
      (member_once IsJsonOfRangeBound range_bound_once (codes "start") json x.start y.start h.start k.start)
      (member_once IsJsonOfRangeBound range_bound_once (codes "end") json x.end y.end h.end k.end)

  pub set_once : ParsesToOne IsJsonOfSet
  set_once json x y h k = ap (λ (ranges : List VersionRange). record { 0 = ranges })
      (array_once IsJsonOfRange range_once json h.items k.items x.0 y.0 h.is_array k.is_array h.ranges k.ranges)

-- ---- requirements

text_once : ReadsOne IsTextItself
text_once text x y h k = h ∙ sym k

module _ (texts : TextsHaveOneOutcome) where
  inner_once : ReadsOne IsTextOfInner
  inner_once text x y h k = go k.outcome k.is_read (subst (λ o. IsRead Normal o x) (texts Normal text h.outcome k.outcome h.is_outcome k.is_outcome) h.is_read)
    where
      go : (o : Outcome) → IsRead Normal o y → IsRead Normal o x → x ≡ y
      go (Ranges tree) a b = b ∙ sym a
      go (Tag tag) a b = b ∙ sym a
      go Rejected a b = absurd a

  pub requirement_once : ParsesToOne IsJsonOfVersionReq
  requirement_once json x y h k = ap₂ (λ (text : List ℕ) (answer : RangeSetOrTag). record { raw_text = text; inner = answer })
      (member_once (IsStringOf IsTextItself) (string_once IsTextItself text_once) (codes "raw_text") json x.raw_text y.raw_text h.raw_text k.raw_text)
      (member_once (IsStringOf IsTextOfInner) (string_once IsTextOfInner inner_once) (codes "inner") json x.inner y.inner h.inner k.inner)

-- ---- packages

module _ (packages : PackageTextsHaveOneOutcome) where
  pub package_once : ParsesToOne (IsStringOf IsTextOfReq)
  package_once = string_once IsTextOfReq (λ text x y h k. one_value x y refl refl (packages Normal text (Ok x) (Ok y) h k))

  pub reqs_once : ParsesToOne IsJsonOfReqs
  reqs_once json x y h k = array_once (IsStringOf IsTextOfReq) package_once json h.items k.items x y h.is_array k.is_array h.are_read k.are_read

pub nv_once : NamesWithVersionsHaveOneOutcome → ParsesToOne (IsStringOf IsTextOfNv)
nv_once names = string_once IsTextOfNv (λ text x y h k. one_value x y refl refl (names text (Ok x) (Ok y) h k))

pub reference_once : VersionReferencesHaveOneOutcome → (kind : PackageKind) → ParsesToOne (IsStringOf (IsTextOfReference kind))
reference_once references kind = string_once (IsTextOfReference kind) (λ text x y h k. one_value x y refl refl (references kind text (Ok x) (Ok y) h k))

pub dependency_once : DependenciesHaveOneOutcome → ParsesToOne (IsStringOf IsTextOfDependency)
dependency_once dependencies = string_once IsTextOfDependency (λ text x y h k. one_value x y refl refl (dependencies Normal text (Ok x) (Ok y) h k))
