-- The lowest version of a group above a cut.
use Rattle.std.proofs.Common.{◌≡◌, ◌&&◌, ◌==◌, ◌≤◌, ◌+◌, ◌^◌, ◌++◌, ℕ, arith, Bool, true, false, not, List, [], ◌∷◌, length, Option, Some, None, refl, sym, ap, ap₂, ◌∙◌, inl, inr, IfSome, is_ge, is_le, is_lt, Ordering, Less, Equal, Greater}
use Rattle.std.proofs.lemmas.Bool.{and_from, and_parts, cases_Bool, ltb-false}
use Rattle.std.proofs.lemmas.Bool.Decides.{nat_tests}
use Rattle.std.proofs.lemmas.Cmp.{tied_itself}
use Rattle.std.proofs.lemmas.List.{nil_from_length}
use Rattle.std.proofs.Math.Bool.{and-false}
use Rattle.std.specs.Cmp.Lexicographic.{slice_cmp}
use Rattle.std.specs.Ordering.{ordering_then}
use Rattle.semver_base.specs.Intervals.{first, is_of, is_past, next_release, pre_at, release_at, version_at, with_pre, zero_identifier, zero_of}
use Rattle.semver_base.specs.LowestVersion.{IsLowestPassing, IsReadable}
use Rattle.semver_base.specs.Meaning.{is_release, release}
use Rattle.semver_base.specs.OrderLaws.{le_then, le_then_first, less_from, not_true, same_where}
use Rattle.semver_base.specs.OverlapLaws.{not_none}
use Rattle.semver_base.specs.PartialTable.{number_fits}
use Rattle.semver_base.specs.Precedence.{identifier_cmp, numbers_cmp, precedence_cmp, pre_cmp}
use Rattle.semver_base.specs.PrecedenceLaws.{precedence_total, pre_total, turned}
use Rattle.semver_base.specs.VersionGrammar.{AllNumbersFit}
use Rattle.semver_base.specs.VersionText.{AreIdentifiers}
use Rattle.semver_base.specs.declared.version.Version.{Version}
use Rattle.semver_base.specs.declared.range.intervals.Group.{Group}
use Rattle.semver_base.specs.declared.range.intervals.Group.TheVariants.{Every, Releases, PreReleases}
use Rattle.semver_base.specs.declared.range.intervals.Place.{Place}
use Rattle.semver_base.specs.declared.range.intervals.Place.TheVariants.{Floor, Before, After, Ceiling, End}
use Rattle.semver_base.proofs.Cuts.{past_after, past_before, past_ceiling, past_end, past_floor, then_greater}
use Rattle.semver_base.proofs.LowestIdentifiers.{appended_above, appended_next, zeros_lowest}
use Rattle.semver_base.proofs.LowestTests.{lowest_as}
use Rattle.semver_base.proofs.LowestWritten.{chosen}
use Rattle.semver_base.proofs.NumbersOrder.{by_numbers, numbers_above, numbers_le, numbers_tied, numbers_total, numbers_under, Under}

-- ---- releases and pre-releases

no_pre : (v : Version) → is_release v ≡ true → v.pre ≡ []
no_pre v h = nil_from_length v.pre (grind (arith, nat_tests))

-- by precedence a release isn't above any release whose numbers aren't below its own
release_le : (w v : Version) → w.pre ≡ [] → v.pre ≡ [] → is_le (numbers_cmp w v) ≡ true → is_le (precedence_cmp w v) ≡ true
release_le w v e f h = rw (by_numbers w v) (le_then (numbers_cmp w v) _ h (λ _. rw (e, f) refl))

-- no release is below a pre-release of its numbers
release_high : (ids : List (List ℕ)) → is_ge (pre_cmp [] ids) ≡ true
release_high [] = refl
release_high (x ∷ xs) = rw (not_none x xs) refl

release_top : (ids : List (List ℕ)) → is_le (pre_cmp ids []) ≡ true
release_top [] = refl
release_top (x ∷ xs) = rw (not_none x xs) refl

-- what the numbers say of a cut at a version
le_numbers : (n p : Ordering) → is_le p ≡ true → is_le n ≡ is_le (ordering_then n p)
le_numbers Less p h = refl
le_numbers Equal p h = sym h
le_numbers Greater p h = refl

lt_numbers : (n p : Ordering) → is_ge p ≡ true → is_lt n ≡ is_lt (ordering_then n p)
lt_numbers Less p h = refl
lt_numbers Equal Less h = cc h
lt_numbers Equal Equal h = refl
lt_numbers Equal Greater h = refl
lt_numbers Greater p h = refl

le_strictly : (n : Ordering) → is_le n ≡ is_lt (ordering_then n Less)
le_strictly Less = refl
le_strictly Equal = refl
le_strictly Greater = refl

-- among releases the cut before a version, and after a pre-release, is the floor of its numbers
floor_before : (t v : Version) → is_release v ≡ true → is_past Floor t v ≡ is_past Before t v
floor_before t v plain =
    past_floor t v ∙ le_numbers (numbers_cmp t v) (pre_cmp t.pre v.pre) (rw (no_pre v plain) (release_top t.pre)) ∙ ap is_le (sym (by_numbers t v)) ∙ sym (past_before t v)

floor_after : (t v : Version) → is_release t ≡ false → is_release v ≡ true → is_past Floor t v ≡ is_past After t v
floor_after t v pre plain =
    let low : pre_cmp t.pre v.pre ≡ Less = rw (no_pre v plain, pre) refl in
    past_floor t v ∙ le_strictly (numbers_cmp t v) ∙ ap (λ (p : Ordering). is_lt (ordering_then (numbers_cmp t v) p)) (sym low) ∙ ap is_lt (sym (by_numbers t v)) ∙ sym (past_after t v)

-- the cut after a release is the ceiling of its numbers, and among pre-releases the one before it is
ceiling_after : (t v : Version) → is_release t ≡ true → is_past Ceiling t v ≡ is_past After t v
ceiling_after t v plain =
    past_ceiling t v ∙ lt_numbers (numbers_cmp t v) (pre_cmp t.pre v.pre) (rw (no_pre t plain) (release_high v.pre)) ∙ ap is_lt (sym (by_numbers t v)) ∙ sym (past_after t v)

ceiling_before : (t v : Version) → is_release t ≡ true → not (is_release v) ≡ true → is_past Ceiling t v ≡ is_past Before t v
ceiling_before t v plain pre =
    let high : pre_cmp t.pre v.pre ≡ Greater = rw (no_pre t plain, not_true (is_release v) pre) refl in
    past_ceiling t v ∙ sym (then_greater (numbers_cmp t v)) ∙ ap (λ (p : Ordering). is_le (ordering_then (numbers_cmp t v) p)) (sym high) ∙ ap is_le (sym (by_numbers t v)) ∙ sym (past_before t v)

-- ---- the next release

under_from : (t v : Version) → is_past Ceiling t v ≡ true → Under t v
under_from t v h = numbers_under t v (turned numbers_total t v Less (less_from _ (sym (past_ceiling t v) ∙ h)))

ceiling_from : (t v : Version) → Under t v → is_past Ceiling t v ≡ true
ceiling_from t v h = past_ceiling t v ∙ ap is_lt (turned numbers_total v t Greater (numbers_above t v h))

too_large : (n : ℕ) → number_fits n ≡ false → 2 ^ 64 ≤ n
too_large n h = ltb-false n (2 ^ 64) h

-- a release whose numbers are the lowest above those of t; or no numbers that fit are above them
abbrev IsNext : Version → Option Version → Type 0
IsNext t (Some w) = (w.pre ≡ []) × Under t w × ((v : Version) → AllNumbersFit v → Under t v → is_le (numbers_cmp w v) ≡ true)
IsNext t None = (v : Version) → AllNumbersFit v → Under t v → ⊥

next_is : (t : Version) → IsNext t (next_release t)
next_is t = elim (cases_Bool (number_fits (t.patch + 1))) [
  | inl third ↦ rw third (
    refl,
    inr (refl, inr (refl, omega arith)),
    λ v numbers h. numbers_le (release t.major t.minor (t.patch + 1)) v (omega arith) (λ e. omega arith) (λ e f. omega arith),
  )
  | inr no_third ↦ rw no_third (elim (cases_Bool (number_fits (t.minor + 1))) [
    | inl second ↦ rw second (
      refl,
      inr (refl, inl (omega arith)),
      λ v numbers h. let high = too_large (t.patch + 1) no_third in let low = numbers.patch in
          numbers_le (release t.major (t.minor + 1) 0) v (omega arith) (λ e. omega arith) (λ e f. omega arith),
    )
    | inr no_second ↦ rw no_second (elim (cases_Bool (number_fits (t.major + 1))) [
      | inl one ↦ rw one (
        refl,
        inl (omega arith),
        λ v numbers h. let high = too_large (t.patch + 1) no_third in let higher = too_large (t.minor + 1) no_second in let low = numbers.patch in let lower = numbers.minor in
            numbers_le (release (t.major + 1) 0 0) v (omega arith) (λ e. omega arith) (λ e f. omega arith),
      )
      | inr no_first ↦ rw no_first (λ v numbers h.
          let third = too_large (t.patch + 1) no_third in let second = too_large (t.minor + 1) no_second in let one = too_large (t.major + 1) no_first in
          let patch = numbers.patch in let minor = numbers.minor in let major = numbers.major in
          omega arith)
    ])
  ])
]

-- a test that no readable version passes
none_passes : (test : Version → Bool) → ((v : Version) → IsReadable v → test v ≡ true → ⊥) → IsLowestPassing test None
none_passes test none v readable = elim (cases_Bool (test v)) [ inl passes ↦ absurd (none v readable passes) | inr fails ↦ fails ]

-- ---- of all versions

zero_lowest : (ids : List (List ℕ)) → AreIdentifiers ids → is_le (pre_cmp (zero_identifier ∷ []) ids) ≡ true
zero_lowest [] identifiers = refl
zero_lowest (x ∷ xs) identifiers = rw (not_none x xs) (zeros_lowest x xs identifiers)

zero_le : (w v : Version) → is_le (numbers_cmp w v) ≡ true → AreIdentifiers v.pre → is_le (precedence_cmp (with_pre w (zero_identifier ∷ [])) v) ≡ true
zero_le w v numbers identifiers = rw (by_numbers (with_pre w (zero_identifier ∷ [])) v) (le_then (numbers_cmp w v) _ numbers (λ _. zero_lowest v.pre identifiers))

-- pre-releases are compared by their identifiers
pre_slice : (xs ys : List (List ℕ)) → (length xs == 0) ≡ false → (length ys == 0) ≡ false → pre_cmp xs ys ≡ slice_cmp identifier_cmp xs ys
pre_slice xs ys h k = rw (h, k) refl

some_appended : (ids : List (List ℕ)) → (length (ids ++ zero_identifier ∷ []) == 0) ≡ false
some_appended [] = refl
some_appended (x ∷ xs) = not_none x _

appended_ids : (some others : List (List ℕ)) → (length some == 0) ≡ false → AreIdentifiers others → pre_cmp some others ≡ Less → is_le (pre_cmp (some ++ zero_identifier ∷ []) others) ≡ true
appended_ids some [] pre identifiers below = rw (some_appended some) refl
appended_ids some (x ∷ xs) pre identifiers below =
    rw (pre_slice (some ++ zero_identifier ∷ []) (x ∷ xs) (some_appended some) (not_none x xs))
    (appended_next some (x ∷ xs) identifiers (rw (pre_slice some (x ∷ xs) pre (not_none x xs)) at below))

appended_first : (t : Version) → is_release t ≡ false → IsLowestPassing (is_past After t) (Some (with_pre t (t.pre ++ zero_identifier ∷ [])))
appended_first t pre = (
  past_after t next ∙ ap is_lt (by_numbers t next ∙ ap₂ ordering_then (numbers_tied t) above),
  λ v readable held. rw (by_numbers next v) (le_then (numbers_cmp t v) _ (floor v held) (λ tied.
      let below : precedence_cmp t v ≡ Less = less_from _ (sym (past_after t v) ∙ held) in
      let ids : pre_cmp t.pre v.pre ≡ Less = rw (by_numbers t v, tied) at below in
      appended_ids t.pre v.pre pre readable.pre ids)),
)
  where
    next : Version
    next = with_pre t (t.pre ++ zero_identifier ∷ [])

    above : pre_cmp t.pre (t.pre ++ zero_identifier ∷ []) ≡ Less
    above = turned pre_total (t.pre ++ zero_identifier ∷ []) t.pre Greater (pre_slice (t.pre ++ zero_identifier ∷ []) t.pre (some_appended t.pre) pre ∙ appended_above t.pre)

    floor : (v : Version) → is_past After t v ≡ true → is_le (numbers_cmp t v) ≡ true
    floor v held = le_then_first (numbers_cmp t v) (pre_cmp t.pre v.pre) (rw (by_numbers t v) at (ap is_le (less_from _ (sym (past_after t v) ∙ held))))

zero_first : (t : Version) (next : Option Version) → IsNext t next → IsLowestPassing (is_past Ceiling t) (zero_of next)
zero_first t (Some w) h = (ceiling_from t (with_pre w (zero_identifier ∷ [])) h.1, λ v readable held. zero_le w v (h.2 v readable.numbers (under_from t v held)) readable.pre)
zero_first t None h = none_passes (is_past Ceiling t) (λ v readable held. h v readable.numbers (under_from t v held))

version_first : (p : Place) (t : Version) → IsLowestPassing (is_past p t) (version_at p t)
version_first Floor t = (
  past_floor t (with_pre t (zero_identifier ∷ [])) ∙ ap is_le (numbers_tied t),
  λ v readable held. zero_le t v (sym (past_floor t v) ∙ held) readable.pre,
)
version_first Before t = (past_before t (with_pre t t.pre) ∙ ap is_le (tied_itself precedence_total t), λ v readable held. sym (past_before t v) ∙ held)
version_first After t = elim (cases_Bool (is_release t)) [
  | inl plain ↦ rw plain (lowest_as (is_past Ceiling t) (is_past After t) (zero_of (next_release t)) (λ v. ceiling_after t v plain) (zero_first t (next_release t) (next_is t)))
  | inr pre ↦ rw pre (appended_first t pre)
]
version_first Ceiling t = zero_first t (next_release t) (next_is t)
version_first End t = λ v readable. past_end t v

-- ---- of releases

abbrev is_release_past : Place → Version → Version → Bool
is_release_past p t v = is_release v && is_past p t v

next_first : (t : Version) (next : Option Version) → IsNext t next → IsLowestPassing (is_release_past Ceiling t) next
next_first t (Some w) h = (
  and_from _ _ (ap (λ (ids : List (List ℕ)). length ids == 0) h.0) (ceiling_from t w h.1),
  λ v readable held. release_le w v h.0 (no_pre v (and_parts (is_release v) _ held).0) (h.2 v readable.numbers (under_from t v (and_parts (is_release v) _ held).1)),
)
next_first t None h = none_passes (is_release_past Ceiling t) (λ v readable held. h v readable.numbers (under_from t v (and_parts (is_release v) _ held).1))

own_first : (t : Version) → IsLowestPassing (is_release_past Floor t) (Some (release t.major t.minor t.patch))
own_first t = (
  past_floor t (release t.major t.minor t.patch) ∙ ap is_le (numbers_tied t),
  λ v readable held. release_le (release t.major t.minor t.patch) v refl (no_pre v (and_parts (is_release v) _ held).0) (sym (past_floor t v) ∙ (and_parts (is_release v) _ held).1),
)

release_first : (p : Place) (t : Version) → IsLowestPassing (is_release_past p t) (release_at p t)
release_first Floor t = own_first t
release_first Before t = lowest_as (is_release_past Floor t) (is_release_past Before t) (release_at Before t)
    (λ v. same_where (is_release v) _ (is_release v) _ refl (λ plain. floor_before t v plain)) (own_first t)
release_first After t = elim (cases_Bool (is_release t)) [
  | inl plain ↦ rw plain (lowest_as (is_release_past Ceiling t) (is_release_past After t) (next_release t) (λ v. ap (λ (b : Bool). is_release v && b) (ceiling_after t v plain)) (next_first t (next_release t) (next_is t)))
  | inr pre ↦ rw pre (lowest_as (is_release_past Floor t) (is_release_past After t) (Some (release t.major t.minor t.patch))
      (λ v. same_where (is_release v) _ (is_release v) _ refl (λ plain. floor_after t v pre plain)) (own_first t))
]
release_first Ceiling t = next_first t (next_release t) (next_is t)
release_first End t = λ v readable. ap (λ (b : Bool). is_release v && b) (past_end t v) ∙ and-false (is_release v)

-- ---- of pre-releases

-- the lowest that passes one test, if it passes another, is the lowest that passes both
both_lowest : (K P : Version → Bool) (x : Option Version) → IfSome x (λ w. K w ≡ true) → IsLowestPassing P x → IsLowestPassing (λ v. K v && P v) x
both_lowest K P (Some w) own h = (and_from (K w) (P w) own h.0, λ v readable held. h.1 v readable (and_parts (K v) _ held).1)
both_lowest K P None own h = λ v readable. ap (λ (b : Bool). K v && b) (h v readable) ∙ and-false (K v)

abbrev is_pre : Version → Bool
is_pre v = not (is_release v)

zero_of_pre : (next : Option Version) → IfSome (zero_of next) (λ w. is_pre w ≡ true)
zero_of_pre None = tt
zero_of_pre (Some w) = refl

all_pre : (p : Place) (t : Version) → IfSome (pre_at p t) (λ w. is_pre w ≡ true)
all_pre Floor t = refl
all_pre Before t = chosen (λ w. is_pre w ≡ true) (is_release t) (zero_of (next_release t)) _ (λ _. zero_of_pre (next_release t)) (λ pre. ap not pre)
all_pre After t = chosen (λ w. is_pre w ≡ true) (is_release t) (zero_of (next_release t)) _ (λ _. zero_of_pre (next_release t)) (λ _. ap not (some_appended t.pre))
all_pre Ceiling t = zero_of_pre (next_release t)
all_pre End t = tt

pre_first : (p : Place) (t : Version) → IsLowestPassing (λ v. is_pre v && is_past p t v) (pre_at p t)
pre_first Floor t = both_lowest is_pre (is_past Floor t) (pre_at Floor t) (all_pre Floor t) (version_first Floor t)
pre_first After t = both_lowest is_pre (is_past After t) (pre_at After t) (all_pre After t) (version_first After t)
pre_first Ceiling t = both_lowest is_pre (is_past Ceiling t) (pre_at Ceiling t) (all_pre Ceiling t) (version_first Ceiling t)
pre_first End t = both_lowest is_pre (is_past End t) None tt (version_first End t)
pre_first Before t = elim (cases_Bool (is_release t)) [
  | inl plain ↦ rw plain (lowest_as (λ v. is_pre v && is_past Ceiling t v) (λ v. is_pre v && is_past Before t v) (zero_of (next_release t))
      (λ v. same_where (is_pre v) _ (is_pre v) _ refl (λ pre. ceiling_before t v plain pre))
      (both_lowest is_pre (is_past Ceiling t) (zero_of (next_release t)) (zero_of_pre (next_release t)) (version_first Ceiling t)))
  | inr pre ↦ rw pre (both_lowest is_pre (is_past Before t) (Some (with_pre t t.pre)) (ap not pre) (version_first Before t))
]

-- ---- of a group

pub first_lowest : (g : Group) (p : Place) (t : Version) → IsLowestPassing (λ v. is_of g v && is_past p t v) (first g p t)
first_lowest Every p t = version_first p t
first_lowest Releases p t = release_first p t
first_lowest PreReleases p t = pre_first p t
