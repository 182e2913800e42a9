-- Whether some pre-release of a bound's numbers matches, by the lowest one.
use Rattle.std.proofs.Common.{◌≡◌, ◌&&◌, ◌||◌, ◌↔◌, Bool, true, false, not, Option, Some, None, Result, refl, sym, ◌∙◌, is_some, IfOk, IfSome, IsTrue}
use Rattle.semver_base.specs.Intervals.{is_of, is_within, IsFound}
use Rattle.semver_base.specs.LowestVersion.{DecidesSome, IsLowestPassing, PassesSome}
use Rattle.semver_base.specs.Meaning.{admits_pre, bounds_hold, has_pre_of, is_pre_match, is_release}
use Rattle.semver_base.specs.VersionText.{ReadsBack}
use Rattle.semver_base.specs.declared.version.Version.{Version}
use Rattle.semver_base.specs.declared.range.RangeBound.{RangeBound}
use Rattle.semver_base.specs.declared.range.RangeBound.TheVariants as bound
use Rattle.semver_base.specs.declared.range.VersionBound.{VersionBound}
use Rattle.semver_base.specs.declared.range.VersionRange.{VersionRange}
use Rattle.semver_base.specs.declared.range.intervals.Group.TheVariants.{PreReleases}
use Rattle.semver_base.specs.declared.range.intervals.Interval.{Interval}
use Rattle.semver_base.proofs.Containment.{back_readable}
use Rattle.semver_base.proofs.FoundVersions.{found_if_ok}
use Rattle.semver_base.proofs.LowestFirst.{none_found}
use Rattle.semver_base.specs.OrderLaws.{pre_numbers, SameNumbers}

-- a bound is a pre-release of the numbers of either version
same_pre : (x : RangeBound) (v w : Version) → SameNumbers w v → has_pre_of x v ≡ has_pre_of x w
same_pre bound.Unbounded v w same = refl
same_pre (bound.Version x) v w same = rw (same.major, same.minor, same.patch) refl

-- a range admits pre-releases of the bound's numbers if it admits one
same_admits : (range : VersionRange) (b : VersionBound) (v : Version) → has_pre_of (bound.Version b) v ≡ true → admits_pre range v ≡ admits_pre range b.version
same_admits range b v h =
    let same = pre_numbers b.version v h in
    rw (same_pre range.start v b.version same, same_pre range.end v b.version same) refl

matched : (r p m a w b : Bool) → w ≡ (p && b) → (p ≡ true → m ≡ a) → a ≡ true → (not r && w) ≡ ((not r && p) && ((b && true) && (r || (m || false))))
matched true p m a w b e f g = refl
matched false false m a w b e f g = rw e refl
matched false true m a w true e f g = rw (e, f refl, g) refl
matched false true m a w false e f g = rw e refl

unmatched : (r p m a b : Bool) → (p ≡ true → m ≡ a) → a ≡ false → ((not r && p) && ((b && true) && (r || (m || false)))) ≡ false
unmatched true p m a b f g = refl
unmatched false false m a b f g = refl
unmatched false true m a true f g = rw (f refl, g) refl
unmatched false true m a false f g = refl

module _ (range : VersionRange) (b : VersionBound) where
  -- a range that admits none of the bound's numbers matches none
  pub none_admitted : (W : Type 0) → admits_pre range b.version ≡ false → IsFound (is_pre_match range (bound.Version b)) W None
  none_admitted W none = none_found (is_pre_match range (bound.Version b)) W (λ v readable.
      unmatched (is_release v) (has_pre_of (bound.Version b) v) (admits_pre range v) (admits_pre range b.version) (bounds_hold range v) (same_admits range b v) none)

  -- the lowest within the bounds and the numbers is the lowest that matches
  pub admitted_lowest : {E : Type 0} (W V : Type 0) (i : Interval) (r : Result (Option Version) E) → admits_pre range b.version ≡ true → ((v : Version) → is_within i v ≡ (has_pre_of (bound.Version b) v && bounds_hold range v)) → (V → W)
      → IfOk r (IsFound (λ v. is_of PreReleases v && is_within i v) W) → IfOk r (IsFound (is_pre_match range (bound.Version b)) V)
  admitted_lowest W V i r admits holds written h = found_if_ok (λ v. is_of PreReleases v && is_within i v) (is_pre_match range (bound.Version b)) W V r h
      (λ v. matched (is_release v) (has_pre_of (bound.Version b) v) (admits_pre range v) (admits_pre range b.version) (is_within i v) (bounds_hold range v) (holds v) (same_admits range b v) admits) written

-- ---- what is reported

pub reported : (test : Version → Bool) (x : Option Version) (found : Bool) → found ≡ is_some x → IsLowestPassing test x → DecidesSome test found
reported test (Some v) found e h = rw e (v, h.0)
reported test None found e h = rw e h

pub reported_exact : (test : Version → Bool) (x : Option Version) (found : Bool) → found ≡ is_some x → IsLowestPassing test x → IfSome x ReadsBack → IsTrue found ↔ PassesSome test
reported_exact test (Some v) found e h back = (λ _. (v, back_readable v back, h.0), λ _. e)
reported_exact test None found e h back = (λ is. cc (e, is), λ some. let none : true ≡ false = sym some.2 ∙ h some.0 some.1 in cc none)
