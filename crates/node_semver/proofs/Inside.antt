-- What a set matches once each of its ranges is intersected with another one.
use Rattle.std.proofs.Common.{◌≡◌, ◌&&◌, ◌||◌, ◌↔◌, ◌∙◌, ◌∷◌, [], Bool, List, IsTrue, true, false, refl, sym, inl, inr, map}
use Rattle.std.specs.declared.cmp.Ordering.{Ordering}
use Rattle.std.specs.declared.cmp.Ordering.TheVariants.{Less, Equal, Greater}
use Rattle.std.proofs.lemmas.Bool.{cases_Bool, or_cases, or_left, or_right}
use Rattle.semver_base.specs.Clamp.{ClampedRangesMeanBoth, clamped, clamped_end, clamped_start, greater_of, lesser_of, of_tied, stopped_at, stopped_by}
use Rattle.semver_base.specs.Containment.{IsWithin, ReportsWithin}
use Rattle.semver_base.specs.Meaning.{admits_pre, bounds_hold, is_unrestricted, range_means_with, set_means_with}
use Rattle.semver_base.specs.NormalText.{AreWritableRanges, IsWritableBound, IsWritableRange}
use Rattle.semver_base.specs.Precedence.{precedence_cmp}
use Rattle.semver_base.specs.VersionText.{IsWritable}
use Rattle.semver_base.specs.declared.range.PreRelease.{PreRelease}
use Rattle.semver_base.specs.declared.range.RangeBound.{RangeBound}
use Rattle.semver_base.specs.declared.range.RangeBound.TheVariants as bound
use Rattle.semver_base.specs.declared.range.VersionBound.{VersionBound}
use Rattle.semver_base.specs.declared.range.VersionBoundKind.{VersionBoundKind}
use Rattle.semver_base.specs.declared.range.VersionBoundKind.TheVariants as kind
use Rattle.semver_base.specs.declared.range.VersionRange.{VersionRange}
use Rattle.semver_base.specs.declared.version.Version.{Version}

abbrev pub inside : VersionRange → List VersionRange → List VersionRange
inside b ranges = map (λ own. clamped own b) ranges

-- ---- what it matches

with_both : (x y u p q : Bool) → ((x && true) && (u || (p || false))) ≡ true → y ≡ true → ((x && (y && true)) && (u || (p || (q || false)))) ≡ true
with_both true true true p q h k = refl
with_both true true false true q h k = refl
with_both true true false false q h k = cc h
with_both true false u p q h k = cc k
with_both false y u p q h k = cc h

pub one_keeps : ClampedRangesMeanBoth → (flag : PreRelease) (a b : VersionRange) (v : Version) → range_means_with flag a v ≡ true → bounds_hold b v ≡ true → range_means_with flag (clamped a b) v ≡ true
one_keeps law flag a b v own holds = (law a b).means flag v ∙ with_both (bounds_hold a v) (bounds_hold b v) (is_unrestricted flag v) (admits_pre a v) (admits_pre b v) own holds

second : (x y w : Bool) → ((x && (y && true)) && w) ≡ true → y ≡ true
second true true w h = refl
second true false w h = cc h
second false y w h = cc h

pub one_holds : ClampedRangesMeanBoth → (flag : PreRelease) (a b : VersionRange) (v : Version) → range_means_with flag (clamped a b) v ≡ true → bounds_hold b v ≡ true
one_holds law flag a b v h = second (bounds_hold a v) (bounds_hold b v) (is_unrestricted flag v || (admits_pre a v || (admits_pre b v || false))) (sym ((law a b).means flag v) ∙ h)

-- what the set matches within the bounds, it still matches
pub keeps : ClampedRangesMeanBoth → (flag : PreRelease) (b : VersionRange) (ranges : List VersionRange) (v : Version) → set_means_with flag ranges v ≡ true → bounds_hold b v ≡ true → set_means_with flag (inside b ranges) v ≡ true
keeps law flag b [] v h holds = cc h
keeps law flag b (a ∷ ranges) v h holds = elim (or_cases (range_means_with flag a v) (set_means_with flag ranges v) h) [
  | inl own ↦ or_left (range_means_with flag (clamped a b) v) _ (one_keeps law flag a b v own holds)
  | inr others ↦ or_right (range_means_with flag (clamped a b) v) _ (keeps law flag b ranges v others holds)
]

-- and it matches only what is within the bounds
pub holds : ClampedRangesMeanBoth → (flag : PreRelease) (b : VersionRange) (ranges : List VersionRange) (v : Version) → set_means_with flag (inside b ranges) v ≡ true → bounds_hold b v ≡ true
holds law flag b [] v h = cc h
holds law flag b (a ∷ ranges) v h = elim (or_cases (range_means_with flag (clamped a b) v) (set_means_with flag (inside b ranges) v) h) [
  | inl own ↦ one_holds law flag a b v own
  | inr others ↦ holds law flag b ranges v others
]

-- ---- what is reported of it

pub bounds_reported : ClampedRangesMeanBoth → (flag : PreRelease) (b : VersionRange) (ranges : List VersionRange) (reported : Bool) → ReportsWithin (set_means_with flag ranges) (set_means_with flag (inside b ranges)) reported → ReportsWithin (set_means_with flag ranges) (bounds_hold b) reported
bounds_reported law flag b ranges true h = λ v readable own. holds law flag b ranges v (h v readable own)
bounds_reported law flag b ranges false (v, own, out) = (
  v,
  own,
  elim (cases_Bool (bounds_hold b v)) [
    | inl within ↦ let never : true ≡ false = sym (keeps law flag b ranges v own within) ∙ out in cc never
    | inr beyond ↦ beyond
  ],
)

pub bounds_exact : ClampedRangesMeanBoth → (flag : PreRelease) (b : VersionRange) (ranges : List VersionRange) (reported : Bool) → (IsTrue reported ↔ IsWithin (set_means_with flag ranges) (set_means_with flag (inside b ranges))) → (IsTrue reported ↔ IsWithin (set_means_with flag ranges) (bounds_hold b))
bounds_exact law flag b ranges reported h = (
  λ yes v readable own. holds law flag b ranges v (h.0 yes v readable own),
  λ within. h.1 (λ v readable own. keeps law flag b ranges v own (within v readable own)),
)

-- ---- its bounds have texts that parse back

tied_is : (k : VersionBoundKind) (s t : RangeBound) → IsWritableBound s → IsWritableBound t → IsWritableBound (of_tied k s t)
tied_is kind.Exclusive s t h j = h
tied_is kind.Inclusive s t h j = j

higher_is : (r : Ordering) (k : VersionBoundKind) (s t : RangeBound) → IsWritableBound s → IsWritableBound t → IsWritableBound (greater_of r k s t)
higher_is Less k s t h j = j
higher_is Equal k s t h j = tied_is k s t h j
higher_is Greater k s t h j = h

lower_is : (r : Ordering) (k : VersionBoundKind) (s t : RangeBound) → IsWritableBound s → IsWritableBound t → IsWritableBound (lesser_of r k s t)
lower_is Less k s t h j = h
lower_is Equal k s t h j = tied_is k s t h j
lower_is Greater k s t h j = j

start_is : (s t : RangeBound) → IsWritableBound s → IsWritableBound t → IsWritableBound (clamped_start s t)
start_is bound.Unbounded t h j = j
start_is (bound.Version x) bound.Unbounded h j = h
start_is (bound.Version x) (bound.Version y) h j = higher_is (precedence_cmp x.version y.version) x.kind (bound.Version x) (bound.Version y) h j

end_is : (s t : RangeBound) → IsWritableBound s → IsWritableBound t → IsWritableBound (clamped_end s t)
end_is bound.Unbounded t h j = j
end_is (bound.Version x) bound.Unbounded h j = h
end_is (bound.Version x) (bound.Version y) h j = lower_is (precedence_cmp x.version y.version) x.kind (bound.Version x) (bound.Version y) h j

stop_is : (r : Ordering) (x y : VersionBound) → IsWritable x.version → IsWritable y.version → IsWritableBound (stopped_by r x y)
stop_is Less x y h j = h
stop_is Equal x y h j = tied_is x.kind (bound.Version x) (bound.Version y) h j
stop_is Greater x y h j = j

stopped_is : (s e : RangeBound) → IsWritableBound s → IsWritableBound e → IsWritableBound (stopped_at s e)
stopped_is bound.Unbounded e h j = h
stopped_is (bound.Version x) bound.Unbounded h j = h
stopped_is (bound.Version x) (bound.Version y) h j = stop_is (precedence_cmp x.version y.version) x y h j

inside_writable : (a b : VersionRange) → IsWritableRange a → IsWritableRange b → IsWritableRange (clamped a b)
inside_writable a b h j =
    let end = end_is a.end b.end h.end j.end in
    record { start = stopped_is (clamped_start a.start b.start) (clamped_end a.end b.end) (start_is a.start b.start h.start j.start) end; end = end }

pub all_writable : (b : VersionRange) (ranges : List VersionRange) → AreWritableRanges ranges → IsWritableRange b → AreWritableRanges (inside b ranges)
all_writable b [] h j = h
all_writable b (a ∷ ranges) h j = (inside_writable a b h.0 j, all_writable b ranges h.1 j)
