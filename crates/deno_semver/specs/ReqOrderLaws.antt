-- The order of package requirements is total, and ties only if the names are the same and the version requirements mean the
-- same.
use Rattle.std.proofs.Common.{◌≡◌, ◌&&◌, ℕ, List, [], ◌∷◌, Bool, Some, nat_eq, refl, sym, ap, Equal}
use Rattle.std.proofs.lemmas.Cmp.{back_total, lists_total, nat_list_cmp_total, tied_itself}
use Rattle.std.specs.Cmp.{Equal-is, IsPartialOrder, IsTotalOrder, both_ways, nat_cmp_total, on_total, po, then_total}
use Rattle.std.specs.Cmp.Lexicographic.{options_total, pointwise, slice_cmp, texts_ties}
use Rattle.std.specs.FinMap.{nat_cmp-IsAntisymmetric, slice_cmp-IsAntisymmetric}
use Rattle.std.specs.Ordering.{eq_by_cmp, is_eq, nat_cmp}
use Rattle.semver_base.specs.PrecedenceLaws.{SamePrecedence, precedence-anti, precedence_total, then_first, then_second, then_ties, version_with}
use Rattle.semver_base.specs.declared.range.RangeBound.{RangeBound}
use Rattle.semver_base.specs.declared.range.RangeBound.TheVariants as bound
use Rattle.semver_base.specs.declared.range.VersionBound.{VersionBound}
use Rattle.semver_base.specs.declared.range.VersionBoundKind.{VersionBoundKind}
use Rattle.semver_base.specs.declared.range.VersionBoundKind.TheVariants as kind
use Rattle.semver_base.specs.declared.range.VersionRange.{VersionRange}
use Rattle.semver_base.specs.declared.version.Version.{Version}
use Rattle.semver_base.specs.Sameness.{bound_of, range_of}
use Rattle.semver_req.specs.Requirement.{tag_of}
use Rattle.semver_req.specs.declared.range_set_or_tag.RangeSetOrTag.{RangeSetOrTag}
use Rattle.semver_req.specs.declared.range_set_or_tag.RangeSetOrTag.TheVariants as inner
use Rattle.semver_req.specs.Sameness.{inner_eq, inner_reported}
use Rattle.deno_semver.specs.Equal.{AreEqualReqs}
use Rattle.deno_semver.specs.ReqOrder.{bound_kinds_cmp, bound_place, bound_versions_cmp, build_of, builds_cmp, end_cmp, inner_cmp, kind_place, range_cmp, listed_ranges, req_cmp, start_cmp, text_cmp, version_bound_of}
use Rattle.deno_semver.specs.declared.package.values.PackageReq.{PackageReq}

-- ---- it is total

bound_versions_total : IsTotalOrder bound_versions_cmp
bound_versions_total = on_total (λ (b : VersionBound). b.version) precedence_total

bound_kinds_total : IsTotalOrder bound_kinds_cmp
bound_kinds_total = on_total (λ (b : VersionBound). kind_place b.kind) nat_cmp_total

start_total : IsTotalOrder start_cmp
start_total =
    then_total (on_total bound_place nat_cmp_total)
    (on_total version_bound_of (options_total (then_total (back_total bound_versions_total) bound_kinds_total)))

end_total : IsTotalOrder end_cmp
end_total =
    then_total (on_total bound_place nat_cmp_total)
    (on_total version_bound_of (options_total (then_total bound_versions_total bound_kinds_total)))

range_total : IsTotalOrder range_cmp
range_total =
    then_total (on_total (λ (r : VersionRange). r.start) start_total) (on_total (λ (r : VersionRange). r.end) end_total)

builds_total : IsTotalOrder builds_cmp
builds_total =
    then_total (on_total (λ (r : VersionRange). build_of r.start) (lists_total nat_list_cmp_total))
    (on_total (λ (r : VersionRange). build_of r.end) (lists_total nat_list_cmp_total))

inner_total : IsTotalOrder inner_cmp
inner_total =
    then_total (on_total tag_of (back_total (options_total nat_list_cmp_total)))
    (then_total (on_total listed_ranges (lists_total range_total)) (on_total listed_ranges (lists_total builds_total)))

pub req_total : IsTotalOrder req_cmp
req_total =
    then_total (on_total (λ (r : PackageReq). r.name) nat_list_cmp_total)
    (on_total (λ (r : PackageReq). r.version_req.inner) inner_total)

-- ---- what ties is the same

kind_same : (a b : VersionBoundKind) → nat_cmp (kind_place a) (kind_place b) ≡ Equal → a ≡ b
kind_same kind.Inclusive kind.Inclusive e = refl
kind_same kind.Inclusive kind.Exclusive e = cc e
kind_same kind.Exclusive kind.Inclusive e = cc e
kind_same kind.Exclusive kind.Exclusive e = refl

version_same : (x y : Version) → SamePrecedence x y → x.build ≡ y.build → x ≡ y
version_same x y h b =
    let same : version_with x.major x.minor x.patch x.pre x.build
    ≡ version_with y.major y.minor y.patch y.pre y.build = rw (h.major, h.minor, h.patch, h.pre, b) refl in
    same

bound_same : (x y : VersionBound) → SamePrecedence x.version y.version → x.kind ≡ y.kind
    → x.version.build ≡ y.version.build → x ≡ y
bound_same x y same k b =
    let v = version_same x.version y.version same b in
    let is : bound_of x.kind x.version ≡ bound_of y.kind y.version = rw (k, v) refl in
    is

builds_same : (xs ys : List (List ℕ)) → slice_cmp text_cmp xs ys ≡ Equal → xs ≡ ys
builds_same xs ys e = slice_cmp-IsAntisymmetric (slice_cmp-IsAntisymmetric nat_cmp-IsAntisymmetric) xs ys e

start_same : (a b : RangeBound) → start_cmp a b ≡ Equal → build_of a ≡ build_of b → a ≡ b
start_same (bound.Version x) (bound.Version y) e b =
    let same = precedence-anti y.version x.version (then_first _ _ e) in
    let kinds = kind_same x.kind y.kind (then_second _ _ e) in
    ap (λ (v : VersionBound). bound.Version v) (sym (bound_same y x same (sym kinds) (sym b)))
start_same (bound.Version x) bound.Unbounded e b = cc e
start_same bound.Unbounded (bound.Version y) e b = cc e
start_same bound.Unbounded bound.Unbounded e b = refl

end_same : (a b : RangeBound) → end_cmp a b ≡ Equal → build_of a ≡ build_of b → a ≡ b
end_same (bound.Version x) (bound.Version y) e b =
    let same = precedence-anti x.version y.version (then_first _ _ e) in
    ap (λ (v : VersionBound). bound.Version v) (bound_same x y same (kind_same x.kind y.kind (then_second _ _ e)) b)
end_same (bound.Version x) bound.Unbounded e b = cc e
end_same bound.Unbounded (bound.Version y) e b = cc e
end_same bound.Unbounded bound.Unbounded e b = refl

range_same : (x y : VersionRange) → range_cmp x y ≡ Equal → builds_cmp x y ≡ Equal → x ≡ y
range_same x y e b =
    let s = start_same x.start y.start (then_first _ _ e) (builds_same _ _ (then_first _ _ b)) in
    let t = end_same x.end y.end (then_second _ _ e) (builds_same _ _ (then_second _ _ b)) in
    let same : range_of x.start x.end ≡ range_of y.start y.end = rw (s, t) refl in
    same

ranges_same : (xs ys : List VersionRange) → slice_cmp range_cmp xs ys ≡ Equal → slice_cmp builds_cmp xs ys ≡ Equal
    → xs ≡ ys
ranges_same [] [] e b = refl
ranges_same [] (y ∷ ys) e b = cc e
ranges_same (x ∷ xs) [] e b = cc e
ranges_same (x ∷ xs) (y ∷ ys) e b =
    let first = range_same x y (then_first _ _ e) (then_first _ _ b) in
    let others = ranges_same xs ys (then_second _ _ e) (then_second _ _ b) in
    rw (first, others) refl

abbrev set_of : List VersionRange → RangeSetOrTag
set_of ranges = inner.RangeSet (record { 0 = ranges })

inner_same : (x y : RangeSetOrTag) → inner_cmp x y ≡ Equal → x ≡ y
inner_same (inner.Tag x) (inner.Tag y) e =
    ap (λ (t : List ℕ). inner.Tag t) (sym (slice_cmp-IsAntisymmetric nat_cmp-IsAntisymmetric y x (then_first _ _ e)))
inner_same (inner.Tag x) (inner.RangeSet y) e = cc e
inner_same (inner.RangeSet x) (inner.Tag y) e = cc e
inner_same (inner.RangeSet x) (inner.RangeSet y) e =
    ap set_of (ranges_same x.0 y.0 (then_first _ _ e) (then_second _ _ e))

pub req_same : (x y : PackageReq) → req_cmp x y ≡ Equal → AreEqualReqs x y
req_same x y e = (
  slice_cmp-IsAntisymmetric nat_cmp-IsAntisymmetric x.name y.name
      (then_first _ _ e),
  inner_same x.version_req.inner y.version_req.inner (then_second _ _ e),
)

pub same_req : (x y : PackageReq) → AreEqualReqs x y → req_cmp x y ≡ Equal
same_req x y h = rw (h.0, h.1) (tied_itself req_total y)

-- ---- it ties exactly if `==` holds

inner_ties : (x y : RangeSetOrTag) → inner_eq x y ≡ is_eq (inner_cmp x y)
inner_ties x y = both_ways (inner_eq x y) (is_eq (inner_cmp x y))
    (λ e. rw ((inner_reported x y).0 e) ((Equal-is (inner_cmp y y)).1 (tied_itself inner_total y)))
    (λ e. (inner_reported x y).1 (inner_same x y ((Equal-is (inner_cmp x y)).0 e)))

-- the derived `==`
abbrev pub req_eq : PackageReq → PackageReq → Bool
req_eq x y = pointwise nat_eq x.name y.name && inner_eq x.version_req.inner y.version_req.inner

pub req_ties : (x y : PackageReq) → req_eq x y ≡ eq_by_cmp req_cmp x y
req_ties x y =
    then_ties _ _ (text_cmp x.name y.name) (inner_cmp x.version_req.inner y.version_req.inner)
    (texts_ties x.name y.name) (inner_ties x.version_req.inner y.version_req.inner)

pub req_po : IsPartialOrder req_eq (λ x y. Some (req_cmp x y))
req_po = po req_total req_ties
