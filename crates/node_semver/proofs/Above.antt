-- The versions that come next are above the version.
use Rattle.std.proofs.Common.{◌≡◌, ◌∙◌, ◌+◌, ◌<◌, ◌==◌, ◌++◌, ◌∷◌, ◌^◌, ℕ, zero, suc, Bool, true, false, List, [], Option, Some, None, Result, Ok, decimal, drop, length, refl, sym, ap, subst, inl, inr, arith, Greater, append-nil, is_some}
use Rattle.std.proofs.Math.Seq.{drop-append-add, take-append_seam}
use Rattle.std.proofs.lemmas.Bool.{and_parts, cases_Bool}
use Rattle.std.proofs.lemmas.Bool.Decides.{nat_tests}
use Rattle.std.proofs.lemmas.Cmp.{tied_itself}
use Rattle.std.proofs.lemmas.Fmt.{decimal_is_IsNumeral}
use Rattle.std.specs.Cmp.Lexicographic.{slice_cmp}
use Rattle.std.specs.Char.{is_ascii_digit}
use Rattle.std.specs.List.{list_all}
use Rattle.std.specs.Str.Parse.{without_leading_plus}
use Rattle.semver_base.specs.Grammar.{Run}
use Rattle.semver_base.specs.Intervals.{with_pre}
use Rattle.semver_base.specs.Lexical.{IsLooseNumber}
use Rattle.semver_base.specs.Meaning.{is_release}
use Rattle.semver_base.specs.OrderLaws.{not_true}
use Rattle.semver_base.specs.OverlapLaws.{not_none}
use Rattle.semver_base.specs.Precedence.{identifier_cmp, number_of, precedence_cmp, pre_cmp}
use Rattle.semver_base.specs.PrecedenceLaws.{identifier_total}
use Rattle.semver_base.specs.WrittenLaws.{loose_written}
use Rattle.semver_base.specs.declared.version.Version.{Version}
use Rattle.node_semver.specs.Increment.{begins_with_number, counted, first_of, first_pre, is_of_major, is_counted, is_of_minor, last_number, last_of, next_by, next_major, next_minor, next_number, next_patch, next_pre, number_at, release_of, with_identifier, with_value}
use Rattle.node_semver.specs.NextVersions.{IncrementsAreAbove, keeps_pre}
use Rattle.node_semver.specs.declared.increment.Base.{Base}
use Rattle.node_semver.specs.declared.increment.Base.TheVariants as base
use Rattle.node_semver.specs.declared.increment.Refusal.{Refusal}
use Rattle.node_semver.specs.declared.release_type.ReleaseType.TheVariants as type
use Rattle.node_semver.proofs.Numbers.{parsed_number}
use Rattle.node_semver.proofs.Orders.{HasNumbersAbove, nat_above, nat_same, numbers_above, released_above}
use Rattle.node_semver.proofs.Written.{another_is, as_made, made_of, next_fits, same_pre, same_version}

no_truth : (b : Bool) → b ≡ true → b ≡ false → ⊥
no_truth b h k = cc (h, k)

-- ---- lists of identifiers

-- what stands in front of both lists doesn't order them
same_front : (front one other : List (List ℕ)) → slice_cmp identifier_cmp (front ++ one) (front ++ other) ≡ slice_cmp identifier_cmp one other
same_front [] one other = refl
same_front (x ∷ xs) one other = rw (tied_itself identifier_total x) (same_front xs one other)

some_behind : (front : List (List ℕ)) (x : List ℕ) (back : List (List ℕ)) → (length (front ++ x ∷ back) == 0) ≡ false
some_behind [] x back = not_none x back
some_behind (y ∷ ys) x back = not_none y (ys ++ x ∷ back)

-- where neither list is empty, they order pre-releases
by_lists : (one other : List (List ℕ)) → (length one == 0) ≡ false → (length other == 0) ≡ false → slice_cmp identifier_cmp one other ≡ Greater
    → pre_cmp one other ≡ Greater
by_lists one other h k above = rw (h, k) above

-- a list with more behind it is above the list
pub more_above : (pre : List (List ℕ)) (x : List ℕ) → (length pre == 0) ≡ false → pre_cmp (pre ++ x ∷ []) pre ≡ Greater
more_above pre x some =
    by_lists (pre ++ x ∷ []) pre (some_behind pre x []) some
    (subst (λ ids. slice_cmp identifier_cmp (pre ++ x ∷ []) ids ≡ Greater) (append-nil pre) (same_front pre (x ∷ []) []))

-- ---- the number that is raised

digit_no_plus : (b : ℕ) → is_ascii_digit b ≡ true → (b == 43) ≡ false
digit_no_plus b h = grind (arith, nat_tests)

no_plus : (bs : List ℕ) → list_all is_ascii_digit bs ≡ true → without_leading_plus bs ≡ bs
no_plus [] h = refl
no_plus (b ∷ bs) h = rw (digit_no_plus b (and_parts (is_ascii_digit b) _ h).0) refl

decimal_digits : (n : ℕ) → IsLooseNumber (decimal n) n → list_all is_ascii_digit (decimal n) ≡ true
decimal_digits n h = go h.value h.stands
  where
    go : (v : List ℕ) → Run is_ascii_digit (decimal n) v → list_all is_ascii_digit (decimal n) ≡ true
    go v run = run.pass

decimal_number : (n : ℕ) → n < 2 ^ 64 → number_of (decimal n) ≡ Some n
decimal_number n fits =
    let numeral = decimal_is_IsNumeral n fits in
    let bare = no_plus (decimal n) (decimal_digits n (loose_written n fits)) in
    sym (parsed_number {E = ⊥} (decimal n) (Ok n) (rw (bare, numeral.1) ((numeral.0, fits), refl)))

-- a number one above another is above it, as identifiers are
number_above : (x : List ℕ) (n : ℕ) → number_of x ≡ Some n → n + 1 < 2 ^ 64 → identifier_cmp (decimal (n + 1)) x ≡ Greater
number_above x n is fits = rw (decimal_number (n + 1) fits, is, nat_above n (n + 1) (omega arith)) refl

-- what the last number of a list is, and where it stands
record IsLastNumber (ids : List (List ℕ)) (start at n : ℕ) : Type 0 where
  pub front : List (List ℕ)
  pub identifier : List ℕ
  pub back : List (List ℕ)
  pub stands : ids ≡ front ++ identifier ∷ back
  pub at_place : at ≡ start + length front
  pub number : number_of identifier ≡ Some n

abbrev place_of : Option (ℕ × ℕ) → ℕ
place_of None = 0
place_of (Some found) = found.0

abbrev value_of : Option (ℕ × ℕ) → ℕ
value_of None = 0
value_of (Some found) = found.1

last_is : (start : ℕ) (ids : List (List ℕ)) (at n : ℕ) → last_number start ids ≡ Some (at, n) → IsLastNumber ids start at n
last_is start [] at n e = absurd (cc e)
last_is start (x ∷ xs) at n e = go (last_number (start + 1) xs) (last_is (start + 1) xs at n) e
  where
    first : (number : Option ℕ) → number_of x ≡ number → number_at start number ≡ Some (at, n) → IsLastNumber (x ∷ xs) start at n
    first None is found = absurd (cc found)
    first (Some m) is found =
        let here : start ≡ at = ap place_of found in
        let same : m ≡ n = ap value_of found in
        record { front = []; identifier = x; back = xs; stands = refl; at_place = omega (arith, here); number = is ∙ ap Some same }

    later : IsLastNumber xs (start + 1) at n → IsLastNumber (x ∷ xs) start at n
    later l = record { front = x ∷ l.front; identifier = l.identifier; back = l.back; stands = ap (λ ids. x ∷ ids) l.stands; at_place = let p = l.at_place in omega (arith, p); number = l.number }

    go : (found : Option (ℕ × ℕ)) → (found ≡ Some (at, n) → IsLastNumber xs (start + 1) at n) → last_of (number_at start (number_of x)) found ≡ Some (at, n)
        → IsLastNumber (x ∷ xs) start at n
    go None rest found = first (number_of x) refl found
    go (Some last) rest found = later (rest found)

replaced_is : (front : List (List ℕ)) (x : List ℕ) (back : List (List ℕ)) (y : List ℕ) → with_identifier (front ++ x ∷ back) (length front) y ≡ front ++ y ∷ back
replaced_is front x back y = rw (take-append_seam front (x ∷ back), drop-append-add front (x ∷ back) 1) refl

raised_above : (pre : List (List ℕ)) (at n : ℕ) → last_number 0 pre ≡ Some (at, n) → n + 1 < 2 ^ 64
    → pre_cmp (with_identifier pre at (decimal (n + 1))) pre ≡ Greater
raised_above pre at n e fits = go (last_is 0 pre at n e)
  where
    go : IsLastNumber pre 0 at n → pre_cmp (with_identifier pre at (decimal (n + 1))) pre ≡ Greater
    go l =
        let here : at ≡ length l.front = let p = l.at_place in omega (arith, p) in
        rw (here, l.stands, replaced_is l.front l.identifier l.back (decimal (n + 1)))
        (by_lists (l.front ++ decimal (n + 1) ∷ l.back) (l.front ++ l.identifier ∷ l.back) (some_behind l.front (decimal (n + 1)) l.back) (some_behind l.front l.identifier l.back)
        (same_front l.front (decimal (n + 1) ∷ l.back) (l.identifier ∷ l.back) ∙ rw (number_above l.identifier n l.number fits) refl))

-- ---- the next pre-release

-- a list without a last number has none
no_number : (start : ℕ) (ids : List (List ℕ)) (k : ℕ) → last_number start ids ≡ None → begins_with_number (drop k ids) ≡ false
no_number start [] zero e = refl
no_number start [] (suc k) e = refl
no_number start (x ∷ xs) k e = go (last_number (start + 1) xs) (no_number (start + 1) xs) e k
  where
    first : (number : Option ℕ) → number_at start number ≡ None → is_some number ≡ false
    first None is = refl
    first (Some n) is = absurd (cc is)

    go : (found : Option (ℕ × ℕ)) → ((j : ℕ) → found ≡ None → begins_with_number (drop j xs) ≡ false) → last_of (number_at start (number_of x)) found ≡ None → (k : ℕ)
        → begins_with_number (drop k (x ∷ xs)) ≡ false
    go None rest none zero = first (number_of x) none
    go None rest none (suc k) = rest k refl
    go (Some last) rest none k = absurd (cc none)

-- the number that is raised is the last
counted_last : (ids pre : List (List ℕ)) (last : ℕ × ℕ) → counted ids pre ≡ Some last → last_number 0 pre ≡ Some last
counted_last [] pre last e = e
counted_last (i ∷ is) pre last e = elim (cases_Bool (is_counted (i ∷ is) pre)) [
  | inl goes_on ↦ rw goes_on at e
  | inr ends ↦ let none = rw ends at e in absurd (cc none)
]

begun_above : (b : Base) (pre next : List (List ℕ)) → (length pre == 0) ≡ false → next_by [] b pre None ≡ Ok next → (first : List (List ℕ)) → first_pre [] b ≡ Ok first → pre_cmp next pre ≡ Greater
begun_above base.Zero pre next some e first is = subst (λ ids. pre_cmp ids pre ≡ Greater) (another_is pre _ next e) (more_above pre _ some)
begun_above base.One pre next some e first is = subst (λ ids. pre_cmp ids pre ≡ Greater) (another_is pre _ next e) (more_above pre _ some)
begun_above base.Nothing pre next some e first is = absurd (cc is)

next_pre_above : (ids : List (List ℕ)) (b : Base) (v : Version) (next : List (List ℕ)) → is_release v ≡ false → keeps_pre ids v ≡ true → next_pre ids b v.pre ≡ Ok next
    → pre_cmp next v.pre ≡ Greater
next_pre_above ids b v next some keep e = go (counted ids v.pre) refl made.2
  where
    made : (x : List (List ℕ)) × (first_pre ids b ≡ Ok x) × (next_by ids b v.pre (counted ids v.pre) ≡ Ok next)
    made = made_of (first_pre ids b) _ next e

    none : (identifiers : List (List ℕ)) → keeps_pre identifiers v ≡ true → counted identifiers v.pre ≡ None → next_by identifiers b v.pre None ≡ Ok next
        → (first : List (List ℕ)) → first_pre identifiers b ≡ Ok first → pre_cmp next v.pre ≡ Greater
    none [] k c is first f = begun_above b v.pre next some is first f
    none (i ∷ others) k c is first f =
        let goes_on : is_counted (i ∷ others) v.pre ≡ true = rw some at k in
        let number : begins_with_number (drop (length (i ∷ others)) v.pre) ≡ true = (and_parts _ _ goes_on).1 in
        let missing : last_number 0 v.pre ≡ None = rw goes_on at c in
        let never = no_number 0 v.pre (length (i ∷ others)) missing in
        absurd (no_truth (begins_with_number (drop (length (i ∷ others)) v.pre)) number never)

    go : (found : Option (ℕ × ℕ)) → counted ids v.pre ≡ found → next_by ids b v.pre found ≡ Ok next → pre_cmp next v.pre ≡ Greater
    go None is by = none ids keep is by made.0 made.1
    go (Some last) is by =
        let raised = made_of (next_number last.1) _ next by in
        let fits = next_fits last.1 raised.0 raised.1 in
        let large : last.1 + 1 < 2 ^ 64 = let same = fits.0 in let most = fits.1 in omega (arith, same, most) in
        subst (λ ids. pre_cmp ids v.pre ≡ Greater) (ap (λ n. with_identifier v.pre last.0 (decimal n)) (sym fits.0) ∙ same_pre raised.2)
        (raised_above v.pre last.0 last.1 (counted_last ids v.pre last is) large)

-- ---- versions

major_up : (v w : Version) → next_major v ≡ Ok w → HasNumbersAbove w v
major_up v w e =
    let made = made_of (next_number v.major) _ w e in
    let up = (next_fits v.major made.0 made.1).0 in
    subst (λ x. HasNumbersAbove x v) (same_version made.2) (inl (omega (arith, up)))

minor_up : (v w : Version) → next_minor v ≡ Ok w → HasNumbersAbove w v
minor_up v w e =
    let made = made_of (next_number v.minor) _ w e in
    let up = (next_fits v.minor made.0 made.1).0 in
    subst (λ x. HasNumbersAbove x v) (same_version made.2) (inr (refl, inl (omega (arith, up))))

patch_up : (v w : Version) → next_patch v ≡ Ok w → HasNumbersAbove w v
patch_up v w e =
    let made = made_of (next_number v.patch) _ w e in
    let up = (next_fits v.patch made.0 made.1).0 in
    subst (λ x. HasNumbersAbove x v) (same_version made.2) (inr (refl, inr (refl, omega (arith, up))))

-- so is a pre-release of the next version
begun : (ids : List (List ℕ)) (b : Base) (v : Version) (r : Result Version Refusal) (w : Version) → ((x : Version) → r ≡ Ok x → HasNumbersAbove x v)
    → with_value r (first_of ids b) ≡ Ok w → precedence_cmp w v ≡ Greater
begun ids b v r w up e =
    let next = made_of r (first_of ids b) w e in
    let made = made_of (first_pre ids b) _ w next.2 in
    subst (λ x. precedence_cmp x v ≡ Greater) (same_version made.2) (numbers_above (with_pre next.0 made.0) v (up next.0 next.1))

same_numbers : (v : Version) (pre : List (List ℕ)) → pre_cmp pre v.pre ≡ Greater → precedence_cmp (with_pre v pre) v ≡ Greater
same_numbers v pre h = rw (nat_same v.major, nat_same v.minor, nat_same v.patch) h

stays_above : (v w : Version) → is_release v ≡ false → as_made (release_of v) ≡ as_made w → precedence_cmp w v ≡ Greater
stays_above v w some e = subst (λ x. precedence_cmp x v ≡ Greater) (same_version e) (released_above v some)

pub all_above : IncrementsAreAbove
all_above type.Major ids b v w h e = elim (cases_Bool (is_of_major v)) [
  | inl stays ↦ stays_above v w (not_true _ (and_parts _ _ stays).0) (rw stays at e)
  | inr next ↦ numbers_above w v (major_up v w (rw next at e))
]
all_above type.Minor ids b v w h e = elim (cases_Bool (is_of_minor v)) [
  | inl stays ↦ stays_above v w (not_true _ (and_parts _ _ stays).0) (rw stays at e)
  | inr next ↦ numbers_above w v (minor_up v w (rw next at e))
]
all_above type.Patch ids b v w h e = elim (cases_Bool (is_release v)) [
  | inl next ↦ numbers_above w v (patch_up v w (rw next at e))
  | inr stays ↦ stays_above v w stays (rw stays at e)
]
all_above type.PreMajor ids b v w h e = begun ids b v (next_major v) w (major_up v) e
all_above type.PreMinor ids b v w h e = begun ids b v (next_minor v) w (minor_up v) e
all_above type.PrePatch ids b v w h e = begun ids b v (next_patch v) w (patch_up v) e
all_above type.PreRelease ids b v w h e = elim (cases_Bool (is_release v)) [
  | inl next ↦ begun ids b v (next_patch v) w (patch_up v) (rw next at e)
  | inr some ↦
      let made = made_of (next_pre ids b v.pre) _ w (rw some at e) in
      subst (λ x. precedence_cmp x v ≡ Greater) (same_version made.2) (same_numbers v made.0 (next_pre_above ids b v made.0 some h made.1))
]
all_above type.Release ids b v w h e = elim (cases_Bool (is_release v)) [
  | inl never ↦ let none = rw never at e in absurd (cc none)
  | inr stays ↦ stays_above v w stays (rw stays at e)
]
