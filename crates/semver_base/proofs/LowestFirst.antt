-- The lowest version of a group that an interval holds.
use Rattle.std.proofs.Common.{◌≡◌, ◌&&◌, ◌==◌, arith, Bor, Bool, true, false, not, Option, Some, None, refl, sym, subst, ap, ◌∙◌, inl, inr, is_le, is_lt, Ordering, Less, Equal, Greater}
use Rattle.std.proofs.lemmas.Bool.{and_from, and_parts, cases_Bool}
use Rattle.std.proofs.Math.Bool.{and-false}
use Rattle.std.specs.Ordering.{ordering_index}
use Rattle.semver_base.specs.Intervals.{filtered}
use Rattle.semver_base.specs.Intervals.{between, first, is_from, is_of, is_within, cut_cmp, IsFound, IsWhole}
use Rattle.semver_base.specs.LowestVersion.{HasNoBuild, IsLowestPassing, IsReadable}
use Rattle.semver_base.specs.Meaning.{release}
use Rattle.semver_base.specs.Precedence.{numbers_cmp, precedence_cmp}
use Rattle.semver_base.specs.VersionText.{IsWritable, ReadsBack}
use Rattle.semver_base.specs.declared.version.Version.{Version}
use Rattle.semver_base.specs.declared.range.intervals.Group.{Group}
use Rattle.semver_base.specs.declared.range.intervals.Interval.{Interval}
use Rattle.semver_base.specs.declared.range.intervals.Place.TheVariants.{Floor, End}
use Rattle.semver_base.proofs.Cuts.{not_below, past_end, past_floor, past_up}
use Rattle.semver_base.proofs.LowestAbove.{first_lowest}
use Rattle.semver_base.proofs.LowestTests.{retained_keeps}
use Rattle.semver_base.proofs.LowestWritten.{first_no_build, first_reads_back, zero_release_writable}
use Rattle.semver_base.proofs.NumbersOrder.{numbers_le}

still_none : (k l n : Bool) → (k && l) ≡ false → (k && (l && n)) ≡ false
still_none true l n h = rw h refl
still_none false l n h = refl

regrouped : (k l n : Bool) → (k && (l && n)) ≡ true → ((k && l) ≡ true) × (n ≡ true)
regrouped true true n h = (refl, h)
regrouped true false n h = cc h
regrouped false l n h = cc h

within_lowest : (K L H : Version → Bool) (x : Option Version) → ((w v : Version) → is_le (precedence_cmp w v) ≡ true → H w ≡ true → H v ≡ true)
    → IsLowestPassing (λ v. K v && L v) x → IsLowestPassing (λ v. K v && (L v && not (H v))) (filtered (λ w. not (H w)) x)
within_lowest K L H None up h = λ v readable. still_none (K v) (L v) (not (H v)) (h v readable)
within_lowest K L H (Some w) up h = elim (cases_Bool (H w)) [
  | inl past ↦ rw past (λ v readable. none past v readable)
  | inr under ↦ rw under (passes under, λ v readable held. h.1 v readable (regrouped (K v) (L v) (not (H v)) held).0)
]
  where
    passes : H w ≡ false → (K w && (L w && not (H w))) ≡ true
    passes under =
        let own = and_parts (K w) (L w) h.0 in
        and_from _ _ own.0 (and_from _ _ own.1 (ap not under))

    none : H w ≡ true → (v : Version) → IsReadable v → (K v && (L v && not (H v))) ≡ false
    none past v readable = elim (cases_Bool (K v && (L v && not (H v)))) [
      | inl held ↦
          let parts = regrouped (K v) (L v) (not (H v)) held in
          let wrong : not true ≡ true = ap not (sym (up w v (h.1 v readable parts.0) past)) ∙ parts.1 in
          cc wrong
      | inr other ↦ other
    ]

pub interval_found : (g : Group) (i : Interval) → IsFound (λ v. is_of g v && is_within i v) (IsWritable i.low.version.now) (filtered (λ w. not (is_from i.high w)) (first g i.low.place i.low.version.now))
interval_found g i =
    let low = first g i.low.place i.low.version.now in
    let fits = λ (w : Version). not (is_from i.high w) in
    record {
      lowest = within_lowest (is_of g) (is_from i.low) (is_from i.high) low (past_up i.high.place i.high.version.now) (first_lowest g i.low.place i.low.version.now);
      no_build = retained_keeps HasNoBuild fits low (first_no_build g i.low.place i.low.version.now);
      reads_back = λ written. retained_keeps ReadsBack fits low (first_reads_back g i.low.place i.low.version.now written);
    }

module _ (g : Group) (i : Interval) (x : Option Version) (is : x ≡ first g i.low.place i.low.version.now) where
  retained : IsFound (λ v. is_of g v && is_within i v) (IsWritable i.low.version.now) (filtered (λ w. not (is_from i.high w)) x)
  retained = subst (λ (y : Option Version). IsFound (λ v. is_of g v && is_within i v) (IsWritable i.low.version.now) (filtered (λ w. not (is_from i.high w)) y)) (sym is) (interval_found g i)

  pub interval_none : x ≡ None → IsFound (λ v. is_of g v && is_within i v) (IsWritable i.low.version.now) None
  interval_none e = subst (λ (y : Option Version). IsFound (λ v. is_of g v && is_within i v) (IsWritable i.low.version.now) (filtered (λ w. not (is_from i.high w)) y)) e retained

  pub interval_past : (w : Version) → x ≡ Some w → is_from i.high w ≡ true → IsFound (λ v. is_of g v && is_within i v) (IsWritable i.low.version.now) None
  interval_past w e past = rw past at (subst (λ (y : Option Version). IsFound (λ v. is_of g v && is_within i v) (IsWritable i.low.version.now) (filtered (λ w. not (is_from i.high w)) y)) e retained)

  pub interval_some : (w : Version) → x ≡ Some w → is_from i.high w ≡ false → IsFound (λ v. is_of g v && is_within i v) (IsWritable i.low.version.now) (Some w)
  interval_some w e under = rw under at (subst (λ (y : Option Version). IsFound (λ v. is_of g v && is_within i v) (IsWritable i.low.version.now) (filtered (λ w. not (is_from i.high w)) y)) e retained)

-- what no version passes
pub none_found : (test : Version → Bool) (Written : Type 0) → ((v : Version) → IsReadable v → test v ≡ false) → IsFound test Written None
none_found test Written none = record { lowest = none; no_build = tt; reads_back = λ _. tt }

pub not_less : (r : Ordering) → not (ordering_index r == 0) ≡ true → is_lt r ≡ false
not_less Less h = cc h
not_less Equal h = refl
not_less Greater h = refl

-- an interval whose low cut isn't below the high one holds nothing
pub crossed_none : (g : Group) (i : Interval) → is_lt (cut_cmp i.low i.high) ≡ false → IsFound (λ v. is_of g v && is_within i v) (IsWritable i.low.version.now) None
crossed_none g i crossed = none_found _ _ (λ v readable. ap (λ (b : Bool). is_of g v && b) (outside v) ∙ and-false (is_of g v))
  where
    outside : (v : Version) → is_within i v ≡ false
    outside v = elim (cases_Bool (is_from i.low v)) [
      | inl held ↦ rw (held, not_below i.low i.high crossed v held) refl
      | inr under ↦ rw under refl
    ]

-- from the floor of 0.0.0 to the end are all versions
pub whole_is : (zero : Bor Version) → zero.now ≡ release 0 0 0 → IsWhole (between (record { place = Floor; version = zero }) (record { place = End; version = zero }))
whole_is zero e =
    let written = subst IsWritable (sym e) zero_release_writable in
    record {
      low = λ v. past_floor zero.now v ∙ ap (λ (z : Version). is_le (numbers_cmp z v)) e ∙ numbers_le (release 0 0 0) v (omega arith) (λ _. omega arith) (λ _ _. omega arith);
      high = λ v. past_end zero.now v;
      writable = (written, written);
    }
