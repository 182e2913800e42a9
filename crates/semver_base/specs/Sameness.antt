-- What it means for a test to decide whether two values are the same, and that the derived `==` of the public types does. Each `.._eq` is
-- the `==` of its type, and each `.._reported` says that it decides.
use Rattle.std.proofs.Common.{◌≡◌, ◌↔◌, IsTrue, ◌&&◌, ℕ, List, Bool, true, false, nat_eq, refl, ap, Decides}
use Rattle.std.specs.Cmp.{unsigned_Decides}
use Rattle.std.specs.Cmp.Lexicographic.{pointwise, pointwise_decides}
use Rattle.semver_base.specs.PrecedenceLaws.{version_eq, version_reported}
use Rattle.semver_base.specs.contracts.range.RangeBoundPartialEq.TheImpl as range_bound
use Rattle.semver_base.specs.contracts.range.VersionBoundKindPartialEq.TheImpl as kind_impl
use Rattle.semver_base.specs.contracts.range.VersionBoundPartialEq.TheImpl as version_bound
use Rattle.semver_base.specs.contracts.range.VersionRangePartialEq.TheImpl as version_range
use Rattle.semver_base.specs.contracts.range.VersionRangeSetPartialEq.TheImpl as range_set
use Rattle.semver_base.specs.declared.range.RangeBound.{RangeBound}
use Rattle.semver_base.specs.declared.range.RangeBound.TheVariants as bound
use Rattle.semver_base.specs.declared.range.VersionBound.{VersionBound}
use Rattle.semver_base.specs.declared.range.VersionBoundKind.{VersionBoundKind}
use Rattle.semver_base.specs.declared.range.VersionBoundKind.TheVariants as kind
use Rattle.semver_base.specs.declared.range.VersionRange.{VersionRange}
use Rattle.semver_base.specs.declared.range.VersionRangeSet.{VersionRangeSet}
use Rattle.semver_base.specs.declared.version.Version.{Version}

-- the test is true exactly if the two values are the same
abbrev pub ReportsSame : {T : Type 0} → (T → T → Bool) → Type 0
ReportsSame {T} test = (x y : T) → IsTrue (test x y) ↔ (x ≡ y)

-- a result that is the test decides what the test decides
pub reported_by : {P : Type 0} (r test : Bool) → r ≡ test → Decides test P → Decides r P
reported_by r test e d = rw e d

-- two tests that each decide a fact decide both
pub both_reported : {P Q : Type 0} (a b : Bool) → Decides a P → Decides b Q → Decides (a && b) (P × Q)
both_reported true b p q = (λ e. (p.0 refl, q.0 e), λ h. q.1 h.1)
both_reported false b p q = (λ e. cc e, λ h. p.1 h.0)

-- a test that decides a fact decides every equivalent one
pub reported_as : {P Q : Type 0} (a : Bool) → (P → Q) → (Q → P) → Decides a P → Decides a Q
reported_as a f g d = (λ e. f (d.0 e), λ q. d.1 (g q))

-- ---- texts

abbrev pub text_eq : List ℕ → List ℕ → Bool
text_eq = pointwise nat_eq

pub text_reported : (x y : List ℕ) → Decides (text_eq x y) (x ≡ y)
text_reported = pointwise_decides unsigned_Decides

-- ---- bounds, ranges and sets of ranges

abbrev pub kind_eq : VersionBoundKind → VersionBoundKind → Bool
kind_eq = (kind_impl.ghosts).eq

pub kind_reported : (x y : VersionBoundKind) → Decides (kind_eq x y) (x ≡ y)
kind_reported kind.Inclusive kind.Inclusive = (λ e. refl, λ e. refl)
kind_reported kind.Inclusive kind.Exclusive = (λ e. cc e, λ e. cc e)
kind_reported kind.Exclusive kind.Inclusive = (λ e. cc e, λ e. cc e)
kind_reported kind.Exclusive kind.Exclusive = (λ e. refl, λ e. refl)

abbrev pub bound_of : VersionBoundKind → Version → VersionBound
bound_of k v = record { kind = k; version = v }

abbrev pub version_bound_eq : VersionBound → VersionBound → Bool
version_bound_eq = (version_bound.ghosts).eq

pub version_bound_reported : (x y : VersionBound) → Decides (version_bound_eq x y) (x ≡ y)
version_bound_reported x y = reported_as (version_bound_eq x y)
    (λ h. same x.kind y.kind x.version y.version h.0 h.1)
    (λ e. (ap (λ (b : VersionBound). b.kind) e, ap (λ (b : VersionBound). b.version) e))
    (both_reported (kind_eq x.kind y.kind) (version_eq x.version y.version) (kind_reported x.kind y.kind) (version_reported x.version y.version))
  where
    same : (k l : VersionBoundKind) (v w : Version) → k ≡ l → v ≡ w → bound_of k v ≡ bound_of l w
    same k l v w e f = rw (e, f) refl

abbrev pub range_bound_eq : RangeBound → RangeBound → Bool
range_bound_eq = (range_bound.ghosts).eq

pub range_bound_reported : (x y : RangeBound) → Decides (range_bound_eq x y) (x ≡ y)
range_bound_reported (bound.Version x) (bound.Version y) = reported_as (version_bound_eq x y) (ap (λ (b : VersionBound). bound.Version b)) (λ e. cc e) (version_bound_reported x y)
range_bound_reported (bound.Version x) bound.Unbounded = (λ e. cc e, λ e. cc e)
range_bound_reported bound.Unbounded (bound.Version y) = (λ e. cc e, λ e. cc e)
range_bound_reported bound.Unbounded bound.Unbounded = (λ e. refl, λ e. refl)

abbrev pub range_of : RangeBound → RangeBound → VersionRange
range_of s e = record { start = s; end = e }

abbrev pub range_eq : VersionRange → VersionRange → Bool
range_eq = (version_range.ghosts).eq

pub range_reported : (x y : VersionRange) → Decides (range_eq x y) (x ≡ y)
range_reported x y = reported_as (range_eq x y)
    (λ h. same x.start y.start x.end y.end h.0 h.1)
    (λ e. (ap (λ (r : VersionRange). r.start) e, ap (λ (r : VersionRange). r.end) e))
    (both_reported (range_bound_eq x.start y.start) (range_bound_eq x.end y.end) (range_bound_reported x.start y.start) (range_bound_reported x.end y.end))
  where
    same : (s t d e : RangeBound) → s ≡ t → d ≡ e → range_of s d ≡ range_of t e
    same s t d e f g = rw (f, g) refl

abbrev set_of : List VersionRange → VersionRangeSet
set_of ranges = record { 0 = ranges }

abbrev pub range_set_eq : VersionRangeSet → VersionRangeSet → Bool
range_set_eq = (range_set.ghosts).eq

pub range_set_reported : (x y : VersionRangeSet) → Decides (range_set_eq x y) (x ≡ y)
range_set_reported x y = reported_as (range_set_eq x y) (λ e. ap set_of e) (λ e. ap (λ (s : VersionRangeSet). s.0) e) (pointwise_decides range_reported x.0 y.0)
