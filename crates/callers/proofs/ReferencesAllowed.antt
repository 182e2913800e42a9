-- The result for the text of a reference and the text of a version, from their parsers' results.
use Rattle.std.proofs.Common.{◌≡◌, ℕ, Bool, true, false, List, [], ◌∷◌, ◌++◌, Some, None, Result, Ok, Err, inl, refl, sym, subst, ap, ap₂, ◌∙◌, ◌||◌, bytes_eq, codes, if◌then◌else◌}
use Rattle.std.specs.List.{list_all}
use Rattle.std.specs.Str.{trim}
use Rattle.std.proofs.lemmas.Bool.{and_parts}
use Rattle.callers.specs.Allowance.{allowance_of, yes_or_no}
use Rattle.callers.specs.References.{AllowsReference, IsPartOf}
use Rattle.callers.specs.declared.packages.UnansweredReference.TheVariants as why
use Rattle.semver_base.specs.Comparators.{Comparator}
use Rattle.semver_base.specs.VersionGrammar.{IsVersionAnswer, IsVersionOutcome, IsVersionRejection}
use Rattle.semver_base.specs.declared.failure.Rejection.{Rejection}
use Rattle.semver_base.specs.Failure.{source_of}
use Rattle.semver_base.specs.declared.failure.ParserError.{ParserError}
use Rattle.semver_base.specs.declared.range.PreRelease.TheVariants.{Restricted}
use Rattle.semver_base.specs.declared.version.Version.{Version}
use Rattle.semver_req.specs.RetainedSet.{RetainedSetsMeanTheirTrees, retained}
use Rattle.semver_req.specs.Outcome.{IsOutcome, Outcome, Ranges, Tag}
use Rattle.semver_req.specs.Parsers.{IsRead}
use Rattle.semver_req.specs.declared.common.values.Flavour.TheVariants.{Specifier}
use Rattle.semver_req.specs.declared.range_set_or_tag.RangeSetOrTag.{RangeSetOrTag}
use Rattle.semver_req.specs.declared.range_set_or_tag.RangeSetOrTag.TheVariants as inner
use Rattle.deno_semver.specs.Cuts.{is_not}
use Rattle.deno_semver.specs.PackageOutcome.{IsVersionReq}
use Rattle.deno_semver.specs.PackageText.{PackageParts, scoped_name}
use Rattle.deno_semver.specs.ReferenceOutcome.{IsReferenceAnswer, IsReferenceOutcome, IsReferenceRejection, ReferenceFault, is_reference}
use Rattle.deno_semver.specs.ReferenceText.{sub_path_of}
use Rattle.deno_semver.specs.declared.package.values.PackageKind.{PackageKind}
use Rattle.deno_semver.specs.declared.package.reference.PackageReqReference.{PackageReqReference}
use Rattle.deno_semver.specs.declared.package.errors.PackageReqReferenceParseError.{PackageReqReferenceParseError}

-- ---- a path without an `@`

no_such : (stop : ℕ) (before rest : List ℕ) → list_all (is_not stop) (before ++ (stop ∷ rest)) ≡ true → is_not stop stop ≡ false → ⊥
no_such stop [] rest h is = cc (rw is at h)
no_such stop (b ∷ before) rest h is = no_such stop before rest (and_parts (is_not stop b) _ h).1 is

named : (b : Bool) (path other : List ℕ) → (if b then None else Some path) ≡ Some other → path ≡ other
named true path other h = cc h
named false path other h = cc h

no_version : (path before version : List ℕ) → list_all (is_not 64) path ≡ true → sub_path_of path ≡ Some (before ++ (64 ∷ version)) → ⊥
no_version path before version h is =
    let same : path ≡ before ++ (64 ∷ version) = named (bytes_eq path [] || bytes_eq path (codes "/")) path (before ++ (64 ∷ version)) is in
    no_such 64 before version (subst (λ p. list_all (is_not 64) p ≡ true) same h) refl

module _ (kind : PackageKind) (text : List ℕ) where
  -- the reference of a text with this part
  abbrev reference_of : PackageParts → List ℕ → RangeSetOrTag → PackageReqReference
  reference_of cut part answer = record {
    req = record { name = scoped_name cut.scope cut.name; version_req = record { raw_text = part; inner = answer } };
    sub_path = sub_path_of cut.path;
  }

  has_reference : (part : List ℕ) (o : Outcome) (answer : RangeSetOrTag) (p : IsPartOf kind text part) → IsOutcome Specifier part o → IsRead Specifier o answer
      → IsReferenceOutcome kind text (Ok (reference_of p.cut part answer))
  has_reference part o answer p h is =
      let req = (reference_of p.cut part answer).req.version_req in
      let read : IsVersionReq Specifier (Some part) req = record { reading = record { outcome = o; is_outcome = h; is_read = is }; raw_text = refl } in
      is_reference p.scheme
      (record { cut = p.cut; is_cut = p.is_cut; name = refl; version_req = subst (λ v. IsVersionReq Specifier v req) (sym p.is_part) read; sub_path = refl })
      (λ before version k. no_version p.cut.path before version (p.no_version_in_path k.any) k.path)

  abbrev ranges_of : List (List Comparator) → RangeSetOrTag
  ranges_of tree = inner.RangeSet (record { 0 = retained Specifier tree })

  module _ (version : List ℕ) where
    -- the text isn't a valid reference
    pub reference_rejected : (e : PackageReqReferenceParseError) → IsReferenceRejection kind text e
        → ((o : Result PackageReqReference ReferenceFault) → IsReferenceOutcome kind text o → IsReferenceAnswer kind text o (Err e))
        → AllowsReference kind text version (Err (why.Reference e))
    reference_rejected e rejection answers = record {
      reported = tt;
      answer = λ reference v h k. answers (Ok reference) h;
      tree = λ part tree v p t k. answers (Ok (reference_of p.cut part (ranges_of tree))) (has_reference part (Ranges tree) (ranges_of tree) p t refl);
      tag = λ part name v p t k. answers (Ok (reference_of p.cut part (inner.Tag name))) (has_reference part (Tag name) (inner.Tag name) p t refl);
      no_reference = λ fault h. answers (Err fault) h;
      no_version = λ reference fault h k. inl (answers (Ok reference) h);
      rejection = rejection;
    }

    -- the reference is valid, and the version isn't
    pub version_rejected : (reference : PackageReqReference) → IsReferenceOutcome kind text (Ok reference)
        → ((o : Result PackageReqReference ReferenceFault) → IsReferenceOutcome kind text o → IsReferenceAnswer kind text o (Ok reference))
        → (e : ParserError 1) → IsVersionRejection (trim version) e.source
        → ((o : Result Version Rejection) → IsVersionOutcome (trim version) o → IsVersionAnswer source_of (trim version) o (Err e))
        → AllowsReference kind text version (Err (why.Version e))
    version_rejected reference is answers e rejection versions = record {
      reported = tt;
      answer = λ _ v h k. versions (Ok v) k;
      tree = λ part tree v p t k. versions (Ok v) k;
      tag = λ part name v p t k. versions (Ok v) k;
      no_reference = λ fault h. absurd (answers (Err fault) h);
      no_version = λ _ fault h k. versions (Err fault) k;
      rejection = (rejection, reference, is);
    }

    -- both are valid
    pub both_read : (reference : PackageReqReference) (v : Version) → IsReferenceOutcome kind text (Ok reference)
        → ((o : Result PackageReqReference ReferenceFault) → IsReferenceOutcome kind text o → IsReferenceAnswer kind text o (Ok reference))
        → IsVersionOutcome (trim version) (Ok v) → ((fault : Rejection) → IsVersionOutcome (trim version) (Err fault) → ⊥) → ((w : Version) → IsVersionOutcome (trim version) (Ok w) → v ≡ w)
        → RetainedSetsMeanTheirTrees → AllowsReference kind text version (Ok (allowance_of reference.req.version_req.inner v))
    both_read reference v h answers k no_fault only means = record {
      reported = (reference, v, h, k, refl);
      answer = same;
      tree = λ part tree w p t k.
          same (reference_of p.cut part (ranges_of tree)) w (has_reference part (Ranges tree) (ranges_of tree) p t refl) k ∙ ap yes_or_no (means Specifier tree Restricted w);
      tag = λ part name w p t k. same (reference_of p.cut part (inner.Tag name)) w (has_reference part (Tag name) (inner.Tag name) p t refl) k;
      no_reference = λ fault h. absurd (answers (Err fault) h);
      no_version = λ _ fault h k. absurd (no_fault fault k);
      rejection = tt;
    }
      where
        same : (other : PackageReqReference) (w : Version) → IsReferenceOutcome kind text (Ok other) → IsVersionOutcome (trim version) (Ok w)
            → allowance_of reference.req.version_req.inner v ≡ allowance_of other.req.version_req.inner w
        same other w is k = ap₂ (λ (r : PackageReqReference) (u : Version). allowance_of r.req.version_req.inner u) (answers (Ok other) is) (only w k)
