-- Runs of bytes, and lists with separators.
use Rattle.std.proofs.Common.{◌≡◌, ◌≤◌, ◌<◌, ℕ, Bool, true, List, [], ◌∷◌, ◌++◌, length, take, drop, Option, Some, None, refl, sym, ap, ◌∙◌, inl, inr, append_assoc, append-nil, one-add}
use Rattle.std.specs.List.{list_all, prefix_len}
use Rattle.std.proofs.lemmas.Bool.{and_parts, both_ways, cases_Bool}
use native.Mathlib.Nat.{le_of_eq, not-suc-le-zero}
use Rattle.semver_base.specs.Grammar.{IsLongest, HasNone, Followed, Listed, last_item, closed_item, more_items, Mapped, Optional, Run, Stops}
use Rattle.semver_base.specs.LengthLaws.{front_le, goes_on}
use Rattle.semver_base.specs.GrammarLaws.{Apart, NonEmpty, fronts, same, shorter, longer, followed, joined_none_first, mapped_none, narrowed_none, renamed, optional_none, optional_some}
use Rattle.semver_base.specs.ByteLaws.{BeginsBy, GoesBy, Disjoint, apart_by, optional_begins, joined_begins, joined_some_text, list_all_there}

-- ---- runs

pub stops_here : {T : Type 0} (p : ℕ → Bool) (x : ℕ) (more rest b : List ℕ) → Stops p rest → rest ≡ (x ∷ more) ++ b → p x ≡ true → T
stops_here p x more [] b s e h = cc e
stops_here p x more (y ∷ r) b s e h = let same_byte : y ≡ x = cc in absurd (both_ways (p x) (rw same_byte at s) h)

pub run_longest : (p : ℕ → Bool) (f rest : List ℕ) → 0 < length f → list_all p f ≡ true → Stops p rest → IsLongest (Run p) (f ++ rest) f rest
run_longest p f rest some pass stops = record { front = f; text_is = refl; stands = record { some = some; pass = pass; is = refl }; longest = go }
  where
    go : (a b w : List ℕ) → f ++ rest ≡ a ++ b → Run p a w → (length a ≤ length f) × (length a ≡ length f → w ≡ f)
    go a b w e h = elim (fronts f a rest b e) [
      | same one two ↦ (le_of_eq (ap length (sym one)), λ _. h.is ∙ sym one)
      | shorter x m one two ↦ stops_here p x m rest b stops two (list_all_there p f m x (rw one at h.pass))
      | longer x m one two ↦ (rw one (front_le a (x ∷ m)), λ s. absurd (goes_on a x m one (le_of_eq (sym s))))
    ]

pub run_none : (p : ℕ → Bool) (text : List ℕ) → Stops p text → HasNone (Run p) text
run_none p text stops = record { none = λ a b w e h. go a b w e h }
  where
    go : (a b w : List ℕ) → text ≡ a ++ b → Run p a w → ⊥
    go [] b w e h = absurd (not-suc-le-zero h.some)
    go (x ∷ a) b w e h = stops_here p x a text b stops e (and_parts (p x) (list_all p a) h.pass).0

pub run_begins : (p : ℕ → Bool) → BeginsBy (Run p) p
run_begins p = record { begins = λ x b. (and_parts (p x) (list_all p b.more) b.stands.pass).0 }

pub run_goes : (p : ℕ → Bool) → GoesBy (Run p) p
run_goes p = record { goes = λ x b. list_all_there p b.front b.more x b.long.pass }

pub run_some : (p : ℕ → Bool) → NonEmpty (Run p)
run_some p = record { some = λ v h. not-suc-le-zero h.some }

-- the bytes that pass, and what follows them
pub taken_pass : (p : ℕ → Bool) (xs : List ℕ) → list_all p (take (prefix_len p xs) xs) ≡ true
taken_pass p [] = refl
taken_pass p (x ∷ xs) = elim (cases_Bool (p x)) [
  | inl passes ↦ rw passes (rw (one-add (prefix_len p xs), passes) (taken_pass p xs))
  | inr fails ↦ rw fails refl
]

pub rest_stops : (p : ℕ → Bool) (xs : List ℕ) → Stops p (drop (prefix_len p xs) xs)
rest_stops p [] = tt
rest_stops p (x ∷ xs) = elim (cases_Bool (p x)) [
  | inl passes ↦ rw (passes, one-add (prefix_len p xs)) (rest_stops p xs)
  | inr fails ↦ rw fails fails
]

-- ---- lists

-- how a list begins
abbrev pub Unrolled : {V : Type 0} → (List ℕ → V → Type 0) → (List ℕ → Unit {0} → Type 0) → List ℕ → V × Option (Unit {0} × Option (List V)) → Type 0
Unrolled A S = Followed A (Optional (Followed S (Optional (Listed A S))))

abbrev pub rolled : {V : Type 0} → V × Option (Unit {0} × Option (List V)) → List V
rolled (v, None) = v ∷ []
rolled (v, Some (u, None)) = v ∷ []
rolled (v, Some (u, Some vs)) = v ∷ vs

module _ {V : Type 0} {A : List ℕ → V → Type 0} {S : List ℕ → Unit {0} → Type 0} where
  unroll : {text : List ℕ} {vs : List V} → Listed A S text vs → Mapped rolled (Unrolled A S) text vs
  unroll (last_item {a} {v} h) = record {
    value = (v, None);
    stands = record { first = a; second = []; text_is = sym (append-nil a); in_first = h; in_second = refl; seam = tt };
    is = refl;
  }
  unroll (closed_item {a} {s} {v} h k) = record {
    value = (v, Some (tt, None));
    stands = record { first = a; second = s; text_is = refl; in_first = h; in_second = record { first = s; second = []; text_is = sym (append-nil s); in_first = k; in_second = refl; seam = tt }; seam = tt };
    is = refl;
  }
  unroll (more_items {a} {s} {b} {v} {vs} h k t) = record {
    value = (v, Some (tt, Some vs));
    stands = record { first = a; second = s ++ b; text_is = refl; in_first = h; in_second = record { first = s; second = b; text_is = refl; in_first = k; in_second = t; seam = tt }; seam = tt };
    is = refl;
  }

  roll_up : (a : List ℕ) (value : V × Option (Unit {0} × Option (List V))) → Unrolled A S a value → Listed A S a (rolled value)
  roll_up a (v, None) j =
      let whole : a ≡ j.first = j.text_is ∙ (ap (λ t. j.first ++ t) j.in_second ∙ append-nil j.first) in
      rw whole (last_item j.in_first)
  roll_up a (v, Some (u, None)) j =
      let k = j.in_second in
      let whole : a ≡ j.first ++ k.first = j.text_is ∙ ap (λ t. j.first ++ t) (k.text_is ∙ (ap (λ t. k.first ++ t) k.in_second ∙ append-nil k.first)) in
      rw whole (closed_item j.in_first k.in_first)
  roll_up a (v, Some (u, Some vs)) j =
      let k = j.in_second in
      let whole : a ≡ j.first ++ (k.first ++ k.second) = j.text_is ∙ ap (λ t. j.first ++ t) k.text_is in
      rw whole (more_items j.in_first k.in_first k.in_second)

  listed : {text rest : List ℕ} {value : V × Option (Unit {0} × Option (List V))} → IsLongest (Unrolled A S) text value rest → IsLongest (Listed A S) text (rolled value) rest
  listed p = renamed (Listed A S) rolled (λ a w h. unroll h) (λ a u h. roll_up a u h) p

  pub listed_none : {text : List ℕ} → HasNone A text → HasNone (Listed A S) text
  listed_none p = narrowed_none (Listed A S) (λ a w h. unroll h) (mapped_none (joined_none_first p))

  pub listed_begins : {p : ℕ → Bool} → NonEmpty A → BeginsBy A p → BeginsBy (Listed A S) p
  listed_begins never b = record { begins = λ x o. (joined_begins never b).begins x (record { more = o.more; value = (unroll o.stands).value; stands = (unroll o.stands).stands }) }

  pub listed_some : NonEmpty A → NonEmpty (Listed A S)
  listed_some never = record { some = λ v h. (joined_some_text never).some (unroll h).value (unroll h).stands }

-- a list whose items begin with p and go on with q, and whose separators begin with s and go on with t
pub record IsListing {V : Type 0} (A : List ℕ → V → Type 0) (S : List ℕ → Unit {0} → Type 0) (p q s t : ℕ → Bool) : Type 0 where
  pub item_some : NonEmpty A
  pub separator_some : NonEmpty S
  pub item_begins : BeginsBy A p
  pub item_goes : GoesBy A q
  pub separator_begins : BeginsBy S s
  pub separator_goes : GoesBy S t
  pub after_item : Disjoint q s
  pub after_separator : Disjoint t p

module _ {V : Type 0} {A : List ℕ → V → Type 0} {S : List ℕ → Unit {0} → Type 0} {p q s t : ℕ → Bool} (is : IsListing A S p q s t) where
  pub separator_apart : Apart S (Optional (Listed A S))
  separator_apart = apart_by t p is.after_separator is.separator_goes (optional_begins (listed_begins is.item_some is.item_begins))

  pub item_apart : Apart A (Optional (Followed S (Optional (Listed A S))))
  item_apart = apart_by q s is.after_item is.item_goes (optional_begins (joined_begins is.separator_some is.separator_begins))

  pub listed_last : {text middle : List ℕ} {v : V} → IsLongest A text v middle → HasNone S middle → IsLongest (Listed A S) text (v ∷ []) middle
  listed_last a b = listed (followed item_apart a (optional_none (joined_none_first b)))

  pub listed_closed : {text middle rest : List ℕ} {v : V} {u : Unit {0}} → IsLongest A text v middle → IsLongest S middle u rest → HasNone A rest → IsLongest (Listed A S) text (v ∷ []) rest
  listed_closed a b c = listed (followed item_apart a (optional_some (joined_some_text is.separator_some) (followed separator_apart b (optional_none (listed_none c)))))

  pub listed_more : {text middle after rest : List ℕ} {v : V} {u : Unit {0}} {vs : List V} → IsLongest A text v middle → IsLongest S middle u after → IsLongest (Listed A S) after vs rest → IsLongest (Listed A S) text (v ∷ vs) rest
  listed_more a b c = listed (followed item_apart a (optional_some (joined_some_text is.separator_some) (followed separator_apart b (optional_some (listed_some is.item_some) c))))

-- ---- a loop that parses a list: these items so far, and rest is what follows the last
pub record SoFar {V : Type 0} (A : List ℕ → V → Type 0) (S : List ℕ → Unit {0} → Type 0) (text : List ℕ) (items : List V) (rest : List ℕ) : Type 0 where
  pub at_end : HasNone S rest → IsLongest (Listed A S) text items rest
  pub at_separator : (after : List ℕ) (u : Unit {0}) → IsLongest S rest u after → HasNone A after → IsLongest (Listed A S) text items after
  pub at_more : (after end : List ℕ) (u : Unit {0}) (vs : List V) → IsLongest S rest u after → IsLongest (Listed A S) after vs end → IsLongest (Listed A S) text (items ++ vs) end

module _ {V : Type 0} {A : List ℕ → V → Type 0} {S : List ℕ → Unit {0} → Type 0} {p q s t : ℕ → Bool} (is : IsListing A S p q s t) where
  pub so_far_one : {text rest : List ℕ} {v : V} → IsLongest A text v rest → SoFar A S text (v ∷ []) rest
  so_far_one a = record {
    at_end = λ n. listed_last is a n;
    at_separator = λ after u b n. listed_closed is a b n;
    at_more = λ after end u vs b c. listed_more is a b c;
  }

  pub so_far_more : {text rest after last : List ℕ} {items : List V} {u : Unit {0}} {v : V} → SoFar A S text items rest → IsLongest S rest u after → IsLongest A after v last → SoFar A S text (items ++ v ∷ []) last
  so_far_more {items = items} {u = u} {v = v} so b a =
      let one = so_far_one a in
      record {
        at_end = λ n. so.at_more _ _ u (v ∷ []) b (one.at_end n);
        at_separator = λ end w c n. so.at_more _ _ u (v ∷ []) b (one.at_separator end w c n);
        at_more = λ next end w vs c d. rw append_assoc (so.at_more _ _ u (v ∷ vs) b (one.at_more next end w vs c d));
      }
