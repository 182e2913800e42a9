-- Grammars in which a text has one value.
use Rattle.std.proofs.Common.{◌≡◌, ◌≤◌, ℕ, Bool, true, List, [], ◌∷◌, ◌++◌, length, Option, Some, None, refl, sym, ap, ◌∙◌, append-nil}
use Rattle.std.specs.List.{list_all}
use Rattle.std.proofs.lemmas.Bool.{and_from, and_parts}
use native.Mathlib.Nat.{le_of_eq}
use Rattle.semver_base.specs.Grammar.{After, Before, Either, this, that, IsLongest, Followed, Joined, Listed, last_item, closed_item, more_items, Mapped, Prefixed, Optional, Run, Stops}
use Rattle.semver_base.specs.LengthLaws.{front_le, goes_on}
use Rattle.semver_base.specs.GrammarLaws.{Apart, NoClash, NonEmpty, fronts, same, shorter, longer, no_clash}
use Rattle.semver_base.specs.ByteLaws.{BeginsBy, Disjoint, GoesBy, MadeOf}
use Rattle.semver_base.specs.ListLaws.{IsListing, item_apart, listed_some, separator_apart, stops_here}

-- a text of A has one value
pub record Unambiguous {V : Type 0} (A : List ℕ → V → Type 0) : Type 0 where
  pub one : (text : List ℕ) (v w : V) → A text v → A text w → v ≡ w

-- a text of A is the longest prefix if nothing follows it, or a byte with which no text of A continues
pub in_place : {V : Type 0} {A : List ℕ → V → Type 0} {p : ℕ → Bool} {v : V} → Unambiguous A → GoesBy A p → (t rest : List ℕ) → A t v → Stops p rest → IsLongest A (t ++ rest) v rest
in_place {V} {A} {p} {v} u g t rest h stops = record { front = t; text_is = refl; stands = h; longest = go }
  where
    go : (a b : List ℕ) (w : V) → t ++ rest ≡ a ++ b → A a w → (length a ≤ length t) × (length a ≡ length t → w ≡ v)
    go a b w e k = elim (fronts t a rest b e) [
      | same one two ↦ (le_of_eq (ap length (sym one)), λ _. u.one a w v k (rw one at h))
      | shorter x m one two ↦ stops_here p x m rest b stops two (g.goes x (record { front = t; more = m; short_value = v; long_value = w; short = h; long = rw one at k }))
      | longer x m one two ↦ (rw one (front_le a (x ∷ m)), λ s. absurd (goes_on a x m one (le_of_eq (sym s))))
    ]

-- ---- texts of two grammars

-- no text is one of both
pub record Never {V W : Type 0} (A : List ℕ → V → Type 0) (B : List ℕ → W → Type 0) : Type 0 where
  pub both : (text : List ℕ) (v : V) (w : W) → A text v → B text w → ⊥

pub never_by : {V W : Type 0} {A : List ℕ → V → Type 0} {B : List ℕ → W → Type 0} (p q : ℕ → Bool) → Disjoint p q → NonEmpty A → BeginsBy A p → BeginsBy B q → Never A B
never_by {V} {W} {A} {B} p q d never a b = record { both = go }
  where
    go : (text : List ℕ) (v : V) (w : W) → A text v → B text w → ⊥
    go [] v w h k = never.some v h
    go (x ∷ text) v w h k = d x (a.begins x (record { more = text; value = v; stands = h })) (b.begins x (record { more = text; value = w; stands = k }))

-- a grammar with fewer texts
pub narrowed_one : {V : Type 0} {A : List ℕ → V → Type 0} (B : List ℕ → V → Type 0) → ((a : List ℕ) (w : V) → B a w → A a w) → Unambiguous A → Unambiguous B
narrowed_one B fewer u = record { one = λ text v w h k. u.one text v w (fewer text v h) (fewer text w k) }

-- ---- each way to make a grammar of others

pub run_one : (p : ℕ → Bool) → Unambiguous (Run p)
run_one p = record { one = λ text v w h k. h.is ∙ sym k.is }

module _ {V : Type 0} {A : List ℕ → V → Type 0} where
  pub prefixed_one : (m : ℕ) → Unambiguous A → Unambiguous (Prefixed m A)
  prefixed_one m u = record { one = go }
    where
      go : (text : List ℕ) (v w : V) → Prefixed m A text v → Prefixed m A text w → v ≡ w
      go [] v w h k = absurd h
      go (x ∷ rest) v w h k = u.one rest v w h.1 k.1

  pub optional_one : NonEmpty A → Unambiguous A → Unambiguous (Optional A)
  optional_one never u = record { one = go }
    where
      go : (text : List ℕ) (v w : Option V) → Optional A text v → Optional A text w → v ≡ w
      go text None None h k = refl
      go text None (Some w) h k = absurd (never.some w (rw h at k))
      go text (Some v) None h k = absurd (never.some v (rw k at h))
      go text (Some v) (Some w) h k = ap Some (u.one text v w h k)

  pub mapped_one : {W : Type 0} {f : V → W} → Unambiguous A → Unambiguous (Mapped f A)
  mapped_one {f = f} u = record { one = λ text v w h k. h.is ∙ (ap f (u.one text h.value k.value h.stands k.stands) ∙ sym k.is) }

module _ {V W : Type 0} {S : List ℕ → List ℕ → Type 0} {A : List ℕ → V → Type 0} {B : List ℕ → W → Type 0} where
  -- a text is split in one way
  pub one_split : {text : List ℕ} {u w : V × W} → NoClash S A B → (h : Joined S A B text u) (k : Joined S A B text w) → (h.first ≡ k.first) × (h.second ≡ k.second)
  one_split {u = u} {w = w} apart h k = elim (fronts h.first k.first h.second k.second (sym h.text_is ∙ k.text_is)) [
    | same one two ↦ (one, two)
    | shorter x m one two ↦ absurd (apart.apart h.first m (m ++ k.second) x u.0 w.0 u.1 h.in_first (rw one at k.in_first) (rw two at h.in_second) (rw two at h.seam))
    | longer x m one two ↦ absurd (apart.apart k.first m (m ++ h.second) x w.0 u.0 w.1 k.in_first (rw one at h.in_first) (rw two at k.in_second) (rw two at k.seam))
  ]

  pub joined_one : NoClash S A B → Unambiguous A → Unambiguous B → Unambiguous (Joined S A B)
  joined_one apart a b = record { one = go }
    where
      pair_is : (u w : V × W) → u.0 ≡ w.0 → u.1 ≡ w.1 → u ≡ w
      pair_is (x, y) (v, w) p q = cc

      go : (text : List ℕ) (u w : V × W) → Joined S A B text u → Joined S A B text w → u ≡ w
      go text u w h k =
          let split = one_split apart h k in
          pair_is u w (a.one k.first u.0 w.0 (rw split.0 at h.in_first) k.in_first) (b.one k.second u.1 w.1 (rw split.1 at h.in_second) k.in_second)

module _ {V W : Type 0} {A : List ℕ → V → Type 0} {B : List ℕ → W → Type 0} where
  pub followed_one : Apart A B → Unambiguous A → Unambiguous B → Unambiguous (Followed A B)
  followed_one apart a b = joined_one (no_clash apart) a b

  -- the value of A doesn't count
  pub after_one : Apart A B → Unambiguous B → Unambiguous (After A B)
  after_one apart b = record { one = λ text v w h k. h.is ∙ (b.one k.stands.second h.value.1 k.value.1 (rw (one_split (no_clash apart) h.stands k.stands).1 at h.stands.in_second) k.stands.in_second ∙ sym k.is) }

  -- the value of B doesn't count
  pub before_one : Apart A B → Unambiguous A → Unambiguous (Before A B)
  before_one apart a = record { one = λ text v w h k. h.is ∙ (a.one k.stands.first h.value.0 k.value.0 (rw (one_split (no_clash apart) h.stands k.stands).0 at h.stands.in_first) k.stands.in_first ∙ sym k.is) }

module _ {V : Type 0} {A B : List ℕ → V → Type 0} where
  pub either_one : Never A B → Unambiguous A → Unambiguous B → Unambiguous (Either A B)
  either_one never a b = record { one = go }
    where
      go : (text : List ℕ) (v w : V) → Either A B text v → Either A B text w → v ≡ w
      go text v w (this h) (this k) = a.one text v w h k
      go text v w (this h) (that k) = absurd (never.both text v w h k)
      go text v w (that h) (this k) = absurd (never.both text w v k h)
      go text v w (that h) (that k) = b.one text v w h k

-- ---- lists

module _ {V : Type 0} {A : List ℕ → V → Type 0} {S : List ℕ → Unit {0} → Type 0} {p q s t : ℕ → Bool} (is : IsListing A S p q s t) where
  -- what follows an item, and what follows a separator
  abbrev Tail : List ℕ → Option (Unit {0} × Option (List V)) → Type 0
  Tail = Optional (Followed S (Optional (Listed A S)))

  abbrev More : List ℕ → Option (List V) → Type 0
  More = Optional (Listed A S)

  -- two lists begin with one item, and two tails with one separator
  item_split : (a b r l : List ℕ) (v w : V) (o m : Option (Unit {0} × Option (List V))) → a ++ r ≡ b ++ l → A a v → A b w → Tail r o → Tail l m → (a ≡ b) × (r ≡ l)
  item_split a b r l v w o m e h k i j =
      one_split {S = λ _ _. Unit {0}} {A = A} {B = Tail} {text = a ++ r} {u = (v, o)} {w = (w, m)} (no_clash (item_apart is))
      (record { first = a; second = r; text_is = refl; in_first = h; in_second = i; seam = tt })
      (record { first = b; second = l; text_is = e; in_first = k; in_second = j; seam = tt })

  separator_split : (a b r l : List ℕ) (o m : Option (List V)) → a ++ r ≡ b ++ l → S a tt → S b tt → More r o → More l m → (a ≡ b) × (r ≡ l)
  separator_split a b r l o m e h k i j =
      one_split {S = λ _ _. Unit {0}} {A = S} {B = More} {text = a ++ r} {u = (tt, o)} {w = (tt, m)} (no_clash (separator_apart is))
      (record { first = a; second = r; text_is = refl; in_first = h; in_second = i; seam = tt })
      (record { first = b; second = l; text_is = e; in_first = k; in_second = j; seam = tt })

  closed_tail : (a : List ℕ) → S a tt → Tail a (Some (tt, None))
  closed_tail a h = record { first = a; second = []; text_is = sym (append-nil a); in_first = h; in_second = refl; seam = tt }

  more_tail : (a b : List ℕ) (vs : List V) → S a tt → Listed A S b vs → Tail (a ++ b) (Some (tt, Some vs))
  more_tail a b vs h k = record { first = a; second = b; text_is = refl; in_first = h; in_second = k; seam = tt }

  no_tail : {T : Type 0} (a : List ℕ) → [] ≡ a → S a tt → T
  no_tail [] e h = absurd (is.separator_some.some tt h)
  no_tail (x ∷ a) e h = cc e

  no_long_tail : {T : Type 0} (a b : List ℕ) → [] ≡ a ++ b → S a tt → T
  no_long_tail [] b e h = absurd (is.separator_some.some tt h)
  no_long_tail (x ∷ a) b e h = cc e

  no_more : {T : Type 0} (a b c : List ℕ) (vs : List V) → a ≡ b ++ c → S a tt → S b tt → Listed A S c vs → T
  no_more a b c vs e h k i =
      let nil : [] ≡ c = (separator_split a b [] c None (Some vs) (append-nil a ∙ e) h k refl i).1 in
      absurd ((listed_some is.item_some).some vs (rw (← nil) at i))

  module _ (u : Unambiguous A) where
    head_one : (a b r l : List ℕ) (v w : V) (o m : Option (Unit {0} × Option (List V))) → a ++ r ≡ b ++ l → A a v → A b w → Tail r o → Tail l m → v ≡ w
    head_one a b r l v w o m e h k i j = u.one b v w (rw (item_split a b r l v w o m e h k i j).0 at h) k

    go : (x y : List ℕ) (vs ws : List V) → x ≡ y → Listed A S x vs → Listed A S y ws → vs ≡ ws
    go x y vs ws e (last_item {a} {v} h) (last_item {a = b} {v = w} k) = ap (λ z. z ∷ []) (u.one b v w (rw e at h) k)
    go x y vs ws e (last_item {a} {v} h) (closed_item {a = b} {s = l} {v = w} k i) = no_tail l (item_split a b [] l v w None (Some (tt, None)) (append-nil a ∙ e) h k refl (closed_tail l i)).1 i
    go x y vs ws e (last_item {a} {v} h) (more_items {a = b} {s = l} {b = c} {v = w} {vs = us} k i j) = no_long_tail l c (item_split a b [] (l ++ c) v w None (Some (tt, Some us)) (append-nil a ∙ e) h k refl (more_tail l c us i j)).1 i
    go x y vs ws e (closed_item {a} {s = r} {v} h f) (last_item {a = b} {v = w} k) = no_tail r (item_split b a [] r w v None (Some (tt, None)) (append-nil b ∙ sym e) k h refl (closed_tail r f)).1 f
    go x y vs ws e (closed_item {a} {s = r} {v} h f) (closed_item {a = b} {s = l} {v = w} k i) = ap (λ z. z ∷ []) (head_one a b r l v w (Some (tt, None)) (Some (tt, None)) e h k (closed_tail r f) (closed_tail l i))
    go x y vs ws e (closed_item {a} {s = r} {v} h f) (more_items {a = b} {s = l} {b = c} {v = w} {vs = us} k i j) = no_more r l c us (item_split a b r (l ++ c) v w (Some (tt, None)) (Some (tt, Some us)) e h k (closed_tail r f) (more_tail l c us i j)).1 f i j
    go x y vs ws e (more_items {a} {s = r} {b = d} {v} {vs = ts} h f g) (last_item {a = b} {v = w} k) = no_long_tail r d (item_split b a [] (r ++ d) w v None (Some (tt, Some ts)) (append-nil b ∙ sym e) k h refl (more_tail r d ts f g)).1 f
    go x y vs ws e (more_items {a} {s = r} {b = d} {v} {vs = ts} h f g) (closed_item {a = b} {s = l} {v = w} k i) = no_more l r d ts (item_split b a l (r ++ d) w v (Some (tt, None)) (Some (tt, Some ts)) (sym e) k h (closed_tail l i) (more_tail r d ts f g)).1 i f g
    go x y vs ws e (more_items {a} {s = r} {b = d} {v} {vs = ts} h f g) (more_items {a = b} {s = l} {b = c} {v = w} {vs = us} k i j) =
        let tails = (item_split a b (r ++ d) (l ++ c) v w (Some (tt, Some ts)) (Some (tt, Some us)) e h k (more_tail r d ts f g) (more_tail l c us i j)).1 in
        let rest = (separator_split r l d c (Some ts) (Some us) tails f i g j).1 in
        let heads = head_one a b (r ++ d) (l ++ c) v w (Some (tt, Some ts)) (Some (tt, Some us)) e h k (more_tail r d ts f g) (more_tail l c us i j) in
        let others = go d c ts us rest g j in
        cc (heads, others)

    pub listed_one : Unambiguous (Listed A S)
    listed_one = record { one = λ text vs ws h k. go text text vs ws refl h k }

-- ---- tests of all bytes

pub all_first : (p : ℕ → Bool) (xs ys : List ℕ) → list_all p (xs ++ ys) ≡ true → list_all p xs ≡ true
all_first p [] ys h = refl
all_first p (x ∷ xs) ys h = let both = and_parts (p x) (list_all p (xs ++ ys)) h in and_from (p x) (list_all p xs) both.0 (all_first p xs ys both.1)

pub all_second : (p : ℕ → Bool) (xs ys : List ℕ) → list_all p (xs ++ ys) ≡ true → list_all p ys ≡ true
all_second p [] ys h = h
all_second p (x ∷ xs) ys h = all_second p xs ys (and_parts (p x) (list_all p (xs ++ ys)) h).1

-- ---- bytes that pass, any number of them

pub record EachByte (p : ℕ → Bool) (text : List ℕ) (v : Unit {0}) : Type 0 where
  pub pass : list_all p text ≡ true

pub each_made : (p : ℕ → Bool) → MadeOf (EachByte p) p
each_made p = record { made = λ text v h. h.pass }

-- ---- a text of A, whose value doesn't count, and a text of B after it

module _ {V W : Type 0} {A : List ℕ → V → Type 0} {B : List ℕ → W → Type 0} where
  pub after_of : (a b : List ℕ) (v : V) (w : W) → A a v → B b w → After A B (a ++ b) w
  after_of a b v w h k = record { value = (v, w); stands = record { first = a; second = b; text_is = refl; in_first = h; in_second = k; seam = tt }; is = refl }

  pub after_parts : {text : List ℕ} {w : W} → After A B text w → (a : List ℕ) × (b : List ℕ) × (v : V) × (text ≡ a ++ b) × A a v × B b w
  after_parts h = (h.stands.first, h.stands.second, h.value.0, h.stands.text_is, h.stands.in_first, rw (← h.is) at h.stands.in_second)

  pub after_maps : {C : List ℕ → W → Type 0} → ((t : List ℕ) (w : W) → B t w → C t w) → (text : List ℕ) (w : W) → After A B text w → After A C text w
  after_maps into text w h = record { value = h.value; stands = record { first = h.stands.first; second = h.stands.second; text_is = h.stands.text_is; in_first = h.stands.in_first; in_second = into h.stands.second h.value.1 h.stands.in_second; seam = tt }; is = h.is }
