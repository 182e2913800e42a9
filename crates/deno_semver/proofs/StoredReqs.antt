-- What the stored canonical form of a package requirement parsed by npm's grammar parses to.
use Rattle.std.proofs.Common.{◌≡◌, ◌<◌, ◌==◌, ℕ, true, false, Bool, List, [], ◌∷◌, ◌++◌, length, drop, get_or, Option, Some, None, refl, sym, ap, subst, ◌∙◌, arith, append-nil, append_assoc, length-append, ◌-◌, ◌+◌, IsUtf8, codes, if◌then◌else◌, eqb-true}
use Rattle.std.specs.List.{list_all}
use Rattle.std.proofs.lemmas.List.{drop_at, get_or-append_right}
use Rattle.std.proofs.lemmas.Str.{IsCharBoundary-after_ascii, IsCharBoundary-before_ascii, IsUtf8-drop, IsUtf8-take}
use Rattle.std.proofs.Math.Seq.{take-append_seam}
use Rattle.serde_json.specs.Data.{string}
use Rattle.semver_base.specs.Comparators.{Comparator}
use Rattle.semver_base.specs.Meaning.{everything}
use Rattle.semver_base.specs.NormalText.{set_text}
use Rattle.semver_base.specs.Shortest.{shortest_tree}
use Rattle.semver_base.specs.declared.range.VersionRange.{VersionRange}
use Rattle.semver_req.specs.RetainedSet.{IsReadSet, retained}
use Rattle.semver_req.specs.Outcome.{IsOutcome, Outcome, Ranges, Rejected, Tag}
use Rattle.semver_req.specs.Pieces.{normal}
use Rattle.semver_req.specs.Parsers.{IsRead, IsReadFrom, IsReading, IsReadOrTag, ReadRequirementsAreAnswers}
use Rattle.semver_req.specs.Requirement.{Requirement, inner_text, ranges_of, wildcard}
use Rattle.semver_req.specs.Rereading.{HoldsNoSeparator, NormalTextsHoldNoSeparator, NormalTextsKeepTheirMeaning, OneRereadingStabilizes, StarIsAnyVersion, TagsHoldNoSeparator, TagsReadBack}
use Rattle.semver_req.specs.declared.common.values.Flavour.TheVariants.{Npm, Normal}
use Rattle.semver_req.specs.declared.range_set_or_tag.RangeSetOrTag.{RangeSetOrTag}
use Rattle.semver_req.specs.declared.range_set_or_tag.RangeSetOrTag.TheVariants as inner
use Rattle.deno_semver.specs.Cuts.{is_not}
use Rattle.deno_semver.specs.Json.{IsTextOfReq}
use Rattle.deno_semver.specs.PackageOutcome.{IsReadReq, IsVersionReq, is_package}
use Rattle.deno_semver.specs.PackageText.{IsAfterScope, IsNamePart, IsPackageText, IsPathPart, PackageParts, without_slash}
use Rattle.deno_semver.specs.RequirementText.{normal_req_text}
use Rattle.deno_semver.specs.Stored.{IsReadFor, IsStableReq, IsStoredReq, StoredRequirementsAreReadAgain}
use Rattle.deno_semver.specs.declared.package.values.PackageReq.{PackageReq}
use Rattle.deno_semver.proofs.StoredNames.{IsReadName, cut_again}
use Rattle.deno_semver.proofs.PackageFaults.{req_of}

-- ---- the text of the version is UTF-8

-- the text of the version follows an ASCII byte, and stands before another or at the end
pub after_ascii : (before rest : List ℕ) (a : ℕ) → a < 128 → IsUtf8 (before ++ (a ∷ rest)) → IsUtf8 rest
after_ascii before rest a low u =
    let text = before ++ (a ∷ rest) in
    let zero : length before - length before ≡ 0 = omega arith in
    let at : get_or text (length before) 0 ≡ a = get_or-append_right before (a ∷ rest) (length before) (length before) 0 refl (omega arith) ∙ ap (λ k. get_or (a ∷ rest) k 0) zero in
    let inside : length before < length text = omega (arith, length-append before (a ∷ rest)) in
    let some = IsUtf8-drop text (length before + 1) u (IsCharBoundary-after_ascii text (length before) u inside (omega (arith, at, low))) in
    let split : text ≡ (before ++ (a ∷ [])) ++ rest = sym (append_assoc before (a ∷ []) rest) in
    let whole : length (before ++ (a ∷ [])) ≡ length before + 1 = length-append before (a ∷ []) in
    subst IsUtf8 (ap (drop (length before + 1)) split ∙ drop_at (before ++ (a ∷ [])) rest (length before + 1) whole) some

before_ascii : (front rest : List ℕ) (a : ℕ) → a < 128 → IsUtf8 (front ++ (a ∷ rest)) → IsUtf8 front
before_ascii front rest a low u =
    let text = front ++ (a ∷ rest) in
    let zero : length front - length front ≡ 0 = omega arith in
    let at : get_or text (length front) 0 ≡ a = get_or-append_right front (a ∷ rest) (length front) (length front) 0 refl (omega arith) ∙ ap (λ k. get_or (a ∷ rest) k 0) zero in
    let inside : length front < length text = omega (arith, length-append front (a ∷ rest)) in
    let some = IsUtf8-take text (length front) u (IsCharBoundary-before_ascii text (length front) inside (omega (arith, at, low))) in
    rw (take-append_seam front (a ∷ rest)) at some

version_end : (version tail path : List ℕ) → IsPathPart tail path → IsUtf8 (version ++ tail) → IsUtf8 version
version_end version [] path h u = rw append-nil at u
version_end version (b ∷ tail) path h u = before_ascii version tail b (omega (arith, h.0)) u

body_utf8 : (text : List ℕ) → IsUtf8 text → IsUtf8 (without_slash text)
body_utf8 [] u = u
body_utf8 (b ∷ rest) u = go (b == 47) refl
  where
    go : (is : Bool) → (b == 47) ≡ is → IsUtf8 (if is then rest else b ∷ rest)
    go true e = let byte : b ≡ 47 = eqb-true b 47 e in after_ascii [] rest b (omega (arith, byte)) u
    go false e = u

rest_utf8 : (scope : Option (List ℕ)) (body rest : List ℕ) → IsAfterScope scope body rest → IsUtf8 body → IsUtf8 rest
rest_utf8 None body rest h u = subst IsUtf8 h.1 u
rest_utf8 (Some s) body rest h u = after_ascii s rest 47 (omega arith) (subst IsUtf8 h.1 u)

version_utf8 : (text : List ℕ) (cut : PackageParts) (version : List ℕ) → IsPackageText text cut → cut.version ≡ Some version → IsUtf8 text → IsUtf8 version
version_utf8 text cut version h is u =
    let some : IsUtf8 h.rest = rest_utf8 cut.scope (without_slash text) h.rest h.scope (body_utf8 text u) in
    let named : IsNamePart h.last cut.name (Some version) = subst (IsNamePart h.last cut.name) is h.named in
    let whole : h.rest ≡ cut.name ++ (64 ∷ (version ++ h.tail)) = h.rest_is ∙ (ap (λ t. t ++ h.tail) named.0 ∙ append_assoc cut.name (64 ∷ version) h.tail) in
    version_end version h.tail cut.path h.path (after_ascii cut.name (version ++ h.tail) 64 (omega arith) (subst IsUtf8 whole some))

-- ---- what can be stored

-- a tag that parses back, and contains neither `@` nor `/`
record IsStoredTag (t : List ℕ) : Type 0 where
  back : IsOutcome Normal t (Tag t)
  plain : HoldsNoSeparator t

-- ranges that some parser returned, or such a tag
abbrev CanBeStored : RangeSetOrTag → Type 0
CanBeStored (inner.RangeSet set) = IsReadSet set.0
CanBeStored (inner.Tag t) = IsStoredTag t

abbrev as_inner : List VersionRange → RangeSetOrTag
as_inner ranges = inner.RangeSet (record { 0 = ranges })

abbrev again_of : RangeSetOrTag → RangeSetOrTag
again_of (inner.RangeSet set) = as_inner (retained Normal (shortest_tree set.0))
again_of (inner.Tag t) = inner.Tag t

abbrev package_of : List ℕ → RangeSetOrTag → PackageReq
package_of name answer = record { name = name; version_req = req_of (inner_text answer) (again_of answer) }

abbrev stored_text : List ℕ → RangeSetOrTag → List ℕ
stored_text name answer = name ++ (64 ∷ inner_text answer)

one_tree : (t u : List (List Comparator)) → Ranges t ≡ Ranges u → t ≡ u
one_tree t u e = cc e

one_set : (a b : List VersionRange) → as_inner a ≡ as_inner b → a ≡ b
one_set a b e = ap (λ answer. (ranges_of answer).0) e

module _ (rereads : NormalTextsKeepTheirMeaning) (stabilizes : OneRereadingStabilizes) (tags : TagsReadBack) (answers : ReadRequirementsAreAnswers) (bare_sets : NormalTextsHoldNoSeparator) (bare_tags : TagsHoldNoSeparator)
    (star : StarIsAnyVersion) where
  no_at : (answer : RangeSetOrTag) → CanBeStored answer → list_all (is_not 64) (inner_text answer) ≡ true
  no_at (inner.RangeSet set) h = (bare_sets set.0 h).no_at
  no_at (inner.Tag t) h = h.plain.no_at

  no_slash : (answer : RangeSetOrTag) → CanBeStored answer → list_all (is_not 47) (inner_text answer) ≡ true
  no_slash (inner.RangeSet set) h = (bare_sets set.0 h).no_slash
  no_slash (inner.Tag t) h = h.plain.no_slash

  -- ---- what the canonical form parses to

  reading : (answer : RangeSetOrTag) → CanBeStored answer → IsReading Normal (inner_text answer) (again_of answer)
  reading (inner.RangeSet set) h = record { outcome = Ranges (shortest_tree set.0); is_outcome = ((rereads set.0 h).forms Normal normal).0; is_read = refl }
  reading (inner.Tag t) h = record { outcome = Tag t; is_outcome = h.back; is_read = refl }

  can_again : (answer : RangeSetOrTag) → CanBeStored answer → CanBeStored (again_of answer)
  can_again (inner.RangeSet set) h = record { flavour = Normal; text = set_text set.0; tree = shortest_tree set.0; is_outcome = ((rereads set.0 h).forms Normal normal).0; is_retained = refl }
  can_again (inner.Tag t) h = h

  stored_again : (answer : RangeSetOrTag) → CanBeStored answer → IsReadFor answer (again_of answer)
  stored_again (inner.RangeSet set) h =
      let r = rereads set.0 h in
      let tree = (r.forms Normal normal).0 in
      record { means = λ k. r.retained_means k Normal normal (shortest_tree set.0) tree; equal = λ o k. r.equal o k Normal normal (shortest_tree set.0) tree }
  stored_again (inner.Tag t) h = refl

  -- what is parsed from the canonical form parses to itself
  stable_again : (answer : RangeSetOrTag) → CanBeStored answer → again_of (again_of answer) ≡ again_of answer
  stable_again (inner.RangeSet set) h =
      let tree = ((rereads set.0 h).forms Normal normal).0 in
      let once = retained Normal (shortest_tree set.0) in
      let next = can_again (inner.RangeSet set) h in
      let s = stabilizes set.0 h Normal normal (shortest_tree set.0) tree Normal normal in
      let same : s.tree ≡ shortest_tree once = one_tree s.tree (shortest_tree once) (((rereads once next).forms Normal normal).1 (Ranges s.tree) s.is_tree) in
      ap as_inner (sym (ap (retained Normal) same) ∙ s.is_retained)
  stable_again (inner.Tag t) h = refl

  -- ---- the requirement of a package

  reads_again : (name : List ℕ) (answer : RangeSetOrTag) → IsReadName name → CanBeStored answer → IsTextOfReq (stored_text name answer) (package_of name answer)
  reads_again name answer n h =
      let c = cut_again (inner_text answer) (no_at answer h) (no_slash answer h) name n in
      let version : IsVersionReq Normal c.cut.version (req_of (inner_text answer) (again_of answer)) =
      subst (λ v. IsVersionReq Normal v (req_of (inner_text answer) (again_of answer))) (sym c.version_is)
      (record { reading = reading answer h; raw_text = refl }) in
      is_package (record { cut = c.cut; is_cut = c.is_cut; name = c.is_name; version_req = version; no_path = c.no_path })

  stable_req : (name : List ℕ) (answer : RangeSetOrTag) → IsReadName name → CanBeStored answer → IsStableReq (package_of name answer)
  stable_req name answer n h = record {
    again = package_of name (again_of answer);
    parses_to = record { text = stored_text name (again_of answer); is_string = refl; reads = reads_again name (again_of answer) n (can_again answer h) };
    equal = (refl, stable_again answer h);
  }

  stored : (req : PackageReq) → IsReadName req.name → CanBeStored req.version_req.inner → IsStoredReq req (string (normal_req_text req))
  stored req n h = record {
    again = package_of req.name req.version_req.inner;
    parses_to = record { text = normal_req_text req; is_string = refl; reads = reads_again req.name req.version_req.inner n h };
    is_retained = record { name = refl; stored = stored_again req.version_req.inner h; stable = stable_req req.name req.version_req.inner n h };
  }

  -- ---- what npm's grammar parsed can be stored

  -- any version
  any_read : IsReadSet (everything ∷ [])
  any_read = let read = (star Normal).reading in go read.outcome read.is_outcome read.is_read
    where
      go : (o : Outcome) → IsOutcome Normal (codes "*") o → IsRead Normal o wildcard.inner → IsReadSet (everything ∷ [])
      go (Ranges tree) h is = record { flavour = Normal; text = codes "*"; tree = tree; is_outcome = h; is_retained = one_set (everything ∷ []) (retained Normal tree) is }
      go (Tag t) h is = cc is
      go Rejected h is = absurd is

  tag_read : (version t : List ℕ) (o : Outcome) → IsUtf8 version → IsOutcome Npm version o → IsRead Npm o (inner.Tag t) → IsStoredTag t
  tag_read version t (Ranges tree) u h k = cc k
  tag_read version t (Tag s) u h k =
      let same : t ≡ s = cc k in
      subst IsStoredTag (sym same) (record { back = tags Npm version s u tt h; plain = bare_tags Npm version s u tt h })
  tag_read version t Rejected u h k = absurd k

  some_read : (version : List ℕ) (req : Requirement) → IsUtf8 version → IsReadFrom Npm version req → CanBeStored req.inner
  some_read version req u h = go req.inner h.reading (answers Npm version req u h).read_set
    where
      go : (answer : RangeSetOrTag) → IsReading Npm version answer → IsReadOrTag answer → CanBeStored answer
      go (inner.RangeSet set) r k = k
      go (inner.Tag t) r k = tag_read version t r.outcome u r.is_outcome r.is_read

  can_be_stored : (text : List ℕ) (cut : PackageParts) (req : Requirement) → IsPackageText text cut → IsUtf8 text → (version : Option (List ℕ)) → cut.version ≡ version → IsVersionReq Npm version req → CanBeStored req.inner
  can_be_stored text cut req h u None is k = subst CanBeStored (sym (ap (λ (r : Requirement). r.inner) k)) any_read
  can_be_stored text cut req h u (Some version) is k = some_read version req (version_utf8 text cut version h is u) k

  stored_read : (req : PackageReq) (text : List ℕ) → IsUtf8 text → IsReadReq Npm text req → IsStoredReq req (string (normal_req_text req))
  stored_read req text u h =
      stored req (record { text = text; cut = h.cut; is_cut = h.is_cut; is_name = h.name }) (can_be_stored text h.cut req.version_req h.is_cut u h.cut.version refl h.version_req)

  -- what is stored of a package requirement that npm's grammar parsed from a text
  pub stored_npm : StoredRequirementsAreReadAgain
  stored_npm req text u (is_package h) = stored_read req text u h
