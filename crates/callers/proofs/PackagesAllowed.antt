-- The result for the text of a package and the text of a version, from their parsers' results.
use Rattle.std.proofs.Common.{◌≡◌, ℕ, List, Some, Result, Ok, Err, inl, inr, length, refl, sym, subst, ap, ap₂, ◌∙◌}
use Rattle.std.specs.Str.{trim}
use Rattle.callers.specs.Allowance.{allowance_of, yes_or_no}
use Rattle.callers.specs.Packages.{AllowsPackage}
use Rattle.callers.specs.declared.packages.Unanswered.TheVariants as why
use Rattle.semver_base.specs.Comparators.{Comparator}
use Rattle.semver_base.specs.VersionGrammar.{IsVersionAnswer, IsVersionOutcome, IsVersionRejection}
use Rattle.semver_base.specs.declared.failure.Rejection.{Rejection}
use Rattle.semver_base.specs.Failure.{source_of}
use Rattle.semver_base.specs.declared.failure.ParserError.{ParserError}
use Rattle.semver_base.specs.declared.range.PreRelease.TheVariants.{Restricted}
use Rattle.semver_base.specs.declared.version.Version.{Version}
use Rattle.semver_req.specs.RetainedSet.{RetainedSetsMeanTheirTrees, retained}
use Rattle.semver_req.specs.Outcome.{IsOutcome, Ranges, worked_on}
use Rattle.semver_req.specs.declared.common.values.Flavour.{Flavour}
use Rattle.semver_req.specs.declared.range_set_or_tag.RangeSetOrTag.TheVariants as inner
use Rattle.deno_semver.specs.PackageOutcome.{PackageFault, IsPackageAnswer, IsPackageOutcome, IsPackageRejection, IsVersionReq, is_package}
use Rattle.deno_semver.specs.PackageText.{IsPackageText, PackageParts, scoped_name}
use Rattle.deno_semver.specs.declared.package.errors.PackageReqParseError.{PackageReqParseError}
use Rattle.deno_semver.specs.declared.package.values.PackageReq.{PackageReq}

module _ (f : Flavour) (text : List ℕ) where
  -- the requirement of ranges of a text with this tree
  abbrev req_of : PackageParts → List ℕ → List (List Comparator) → PackageReq
  req_of cut part tree = record { name = scoped_name cut.scope cut.name; version_req = record { raw_text = worked_on f part; inner = inner.RangeSet (record { 0 = retained f tree }) } }

  has_req : (cut : PackageParts) (part : List ℕ) (tree : List (List Comparator)) → IsPackageText text cut → cut.version ≡ Some part → length cut.path ≡ 0 → IsOutcome f part (Ranges tree)
      → IsPackageOutcome f text (Ok (req_of cut part tree))
  has_req cut part tree h is none t =
      let read : IsVersionReq f (Some part) (req_of cut part tree).version_req = record { reading = record { outcome = Ranges tree; is_outcome = t; is_read = refl }; raw_text = refl } in
      is_package (record { cut = cut; is_cut = h; name = refl; version_req = subst (λ v. IsVersionReq f v (req_of cut part tree).version_req) (sym is) read; no_path = none })

  module _ (version : List ℕ) where
    -- the text isn't a valid package
    pub package_rejected : (e : PackageReqParseError) → IsPackageRejection f text e → ((o : Result PackageReq PackageFault) → IsPackageOutcome f text o → IsPackageAnswer f text o (Err e))
        → AllowsPackage f text version (Err (why.Package e))
    package_rejected e rejection answers = record {
      reported = tt;
      answer = λ req v h k. answers (Ok req) h;
      tree = λ cut part tree v h is none t k. answers (Ok (req_of cut part tree)) (has_req cut part tree h is none t);
      rejected = λ _. refl;
      rejection = rejection;
    }

    -- the package is valid, and the version isn't
    pub version_rejected : (req : PackageReq) → IsPackageOutcome f text (Ok req) → (e : ParserError 1) → IsVersionRejection (trim version) e.source
        → ((o : Result Version Rejection) → IsVersionOutcome (trim version) o → IsVersionAnswer source_of (trim version) o (Err e))
        → AllowsPackage f text version (Err (why.Version e))
    version_rejected req is e rejection versions = record {
      reported = tt;
      answer = λ _ v h k. versions (Ok v) k;
      tree = λ cut part tree v h is_part none t k. versions (Ok v) k;
      rejected = λ _. refl;
      rejection = (rejection, req, is);
    }

    -- both are valid
    pub both_read : (req : PackageReq) (v : Version) → IsPackageOutcome f text (Ok req) → ((o : Result PackageReq PackageFault) → IsPackageOutcome f text o → IsPackageAnswer f text o (Ok req))
        → IsVersionOutcome (trim version) (Ok v) → ((fault : Rejection) → IsVersionOutcome (trim version) (Err fault) → ⊥) → ((w : Version) → IsVersionOutcome (trim version) (Ok w) → v ≡ w)
        → RetainedSetsMeanTheirTrees → AllowsPackage f text version (Ok (allowance_of req.version_req.inner v))
    both_read req v h answers k no_fault only means = record {
      reported = (req, v, h, k, refl);
      answer = same;
      tree = λ cut part tree w is_cut is none t k.
          same (req_of cut part tree) w (has_req cut part tree is_cut is none t) k ∙ ap yes_or_no (means f tree Restricted w);
      rejected = λ either. elim either [
        | inl bad ↦ absurd (answers (Err bad.0) bad.1)
        | inr bad ↦ absurd (no_fault bad.0 bad.1)
      ];
      rejection = tt;
    }
      where
        same : (other : PackageReq) (w : Version) → IsPackageOutcome f text (Ok other) → IsVersionOutcome (trim version) (Ok w) → allowance_of req.version_req.inner v ≡ allowance_of other.version_req.inner w
        same other w is k = ap₂ (λ (r : PackageReq) (u : Version). allowance_of r.version_req.inner u) (answers (Ok other) is) (only w k)
