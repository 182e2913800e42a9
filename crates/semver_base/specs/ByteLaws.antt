-- The bytes with which the texts of a grammar begin and continue.
use Rattle.std.proofs.Common.{◌≡◌, ℕ, Bool, true, List, [], ◌∷◌, ◌++◌, Option, Some, None, refl, sym, ap, ◌∙◌, append_assoc, ◌==◌, eq-eqb}
use Rattle.std.specs.List.{list_all}
use Rattle.std.proofs.lemmas.Bool.{and_from, and_parts}
use Rattle.semver_base.specs.Grammar.{HasNone, Joined, Listed, last_item, closed_item, more_items, Mapped, Prefixed, Optional, Run}
use Rattle.semver_base.specs.GrammarLaws.{Apart, Begins, GoesOn, NoClash, NonEmpty, fronts, same, shorter, longer}

-- p holds of each byte with which a text of A begins, q of each with which a text of A continues to a longer one
pub record BeginsBy {V : Type 0} (A : List ℕ → V → Type 0) (p : ℕ → Bool) : Type 0 where
  pub begins : (x : ℕ) → Begins A x → p x ≡ true

pub record GoesBy {V : Type 0} (A : List ℕ → V → Type 0) (p : ℕ → Bool) : Type 0 where
  pub goes : (x : ℕ) → GoesOn A x → p x ≡ true

-- no byte passes both tests
abbrev pub Disjoint : (ℕ → Bool) → (ℕ → Bool) → Type 0
Disjoint p q = (x : ℕ) → p x ≡ true → q x ≡ true → ⊥

pub apart_by : {V W : Type 0} {A : List ℕ → V → Type 0} {B : List ℕ → W → Type 0} (p q : ℕ → Bool) → Disjoint p q → GoesBy A p → BeginsBy B q → Apart A B
apart_by p q d g b = record { apart = λ x m n. d x (g.goes x m) (b.begins x n) }

pub begins_wider : {V : Type 0} {A : List ℕ → V → Type 0} (p q : ℕ → Bool) → ((x : ℕ) → p x ≡ true → q x ≡ true) → BeginsBy A p → BeginsBy A q
begins_wider p q w b = record { begins = λ x m. w x (b.begins x m) }

pub goes_wider : {V : Type 0} {A : List ℕ → V → Type 0} (p q : ℕ → Bool) → ((x : ℕ) → p x ≡ true → q x ≡ true) → GoesBy A p → GoesBy A q
goes_wider p q w b = record { goes = λ x m. w x (b.goes x m) }

-- ---- a prefix

module _ {V : Type 0} {A : List ℕ → V → Type 0} where
  pub prefixed_begins : (m : ℕ) → BeginsBy (Prefixed m A) (λ x. x == m)
  prefixed_begins m = record { begins = λ x b. eq-eqb x m b.stands.0 }

  pub prefixed_goes : (m : ℕ) {p : ℕ → Bool} → GoesBy A p → GoesBy (Prefixed m A) p
  prefixed_goes m {p} g = record { goes = λ x b. go x b.front b.more b.short_value b.long_value b.short b.long }
    where
      go : (x : ℕ) (a more : List ℕ) (v u : V) → Prefixed m A a v → Prefixed m A (a ++ (x ∷ more)) u → p x ≡ true
      go x [] more v u h k = absurd h
      go x (y ∷ a) more v u h k = g.goes x (record { front = a; more = more; short_value = v; long_value = u; short = h.1; long = k.1 })

  pub prefixed_some_text : (m : ℕ) → NonEmpty (Prefixed m A)
  prefixed_some_text m = record { some = λ v h. h }

  -- ---- an option

  pub optional_begins : {p : ℕ → Bool} → BeginsBy A p → BeginsBy (Optional A) p
  optional_begins {p} b = record { begins = λ x o. go x o.more o.value o.stands }
    where
      go : (x : ℕ) (more : List ℕ) (v : Option V) → Optional A (x ∷ more) v → p x ≡ true
      go x more None h = cc h
      go x more (Some v) h = b.begins x (record { more = more; value = v; stands = h })

  pub optional_goes : {p : ℕ → Bool} → BeginsBy A p → GoesBy A p → GoesBy (Optional A) p
  optional_goes {p} b g = record { goes = λ x o. go x o.front o.more o.short_value o.long_value o.short o.long }
    where
      go : (x : ℕ) (a more : List ℕ) (v u : Option V) → Optional A a v → Optional A (a ++ (x ∷ more)) u → p x ≡ true
      go x [] more v None h k = cc k
      go x [] more v (Some u) h k = b.begins x (record { more = more; value = u; stands = k })
      go x (y ∷ a) more None u h k = cc h
      go x (y ∷ a) more (Some v) None h k = cc k
      go x (y ∷ a) more (Some v) (Some u) h k = g.goes x (record { front = y ∷ a; more = more; short_value = v; long_value = u; short = h; long = k })

  -- ---- a map

  pub mapped_begins : {W : Type 0} {f : V → W} {p : ℕ → Bool} → BeginsBy A p → BeginsBy (Mapped f A) p
  mapped_begins b = record { begins = λ x m. b.begins x (record { more = m.more; value = m.stands.value; stands = m.stands.stands }) }

  pub mapped_goes : {W : Type 0} {f : V → W} {p : ℕ → Bool} → GoesBy A p → GoesBy (Mapped f A) p
  mapped_goes g = record { goes = λ x m. g.goes x (record { front = m.front; more = m.more; short_value = m.short.value; long_value = m.long.value; short = m.short.stands; long = m.long.stands }) }

  pub mapped_some_text : {W : Type 0} {f : V → W} → NonEmpty A → NonEmpty (Mapped f A)
  mapped_some_text n = record { some = λ w h. n.some h.value h.stands }

-- ---- one text after another

module _ {V W : Type 0} {S : List ℕ → List ℕ → Type 0} {A : List ℕ → V → Type 0} {B : List ℕ → W → Type 0} where
  -- A has no empty text
  pub joined_begins : {p : ℕ → Bool} → NonEmpty A → BeginsBy A p → BeginsBy (Joined S A B) p
  joined_begins {p} never b = record { begins = λ x o. go x o.more o.value.0 o.stands.first o.stands.second o.stands.text_is o.stands.in_first }
    where
      go : (x : ℕ) (more : List ℕ) (v : V) (f s : List ℕ) → x ∷ more ≡ f ++ s → A f v → p x ≡ true
      go x more v [] s e h = absurd (never.some v h)
      go x more v (y ∷ f) s e h = let same_byte : y ≡ x = cc in b.begins x (record { more = f; value = v; stands = rw same_byte at h })

  pub joined_begins_either : {p : ℕ → Bool} → BeginsBy A p → BeginsBy B p → BeginsBy (Joined S A B) p
  joined_begins_either {p} b c = record { begins = λ x o. go x o.more o.value.0 o.value.1 o.stands.first o.stands.second o.stands.text_is o.stands.in_first o.stands.in_second }
    where
      go : (x : ℕ) (more : List ℕ) (v : V) (w : W) (f s : List ℕ) → x ∷ more ≡ f ++ s → A f v → B s w → p x ≡ true
      go x more v w [] [] e h k = cc e
      go x more v w [] (y ∷ s) e h k = let same_byte : y ≡ x = cc in c.begins x (record { more = s; value = w; stands = rw same_byte at k })
      go x more v w (y ∷ f) s e h k = let same_byte : y ≡ x = cc in b.begins x (record { more = f; value = v; stands = rw same_byte at h })

  pub joined_some_text : NonEmpty A → NonEmpty (Joined S A B)
  joined_some_text never = record { some = λ v o. go o.first o.second v.0 o.text_is o.in_first }
    where
      go : (f s : List ℕ) (v : V) → [] ≡ f ++ s → A f v → ⊥
      go [] s v e h = never.some v h
      go (y ∷ f) s v e h = cc e

  -- B has no empty text
  pub joined_goes_second : {p : ℕ → Bool} → NoClash S A B → NonEmpty B → GoesBy B p → GoesBy (Joined S A B) p
  joined_goes_second {p} d never k = record { goes = λ x o. go x o.front o.more o.short_value o.long_value o.short o.long }
    where
      at_first : {T : Type 0} (x y : ℕ) (more m a s t : List ℕ) (v u : V) (w : W) → s ++ (x ∷ more) ≡ (y ∷ m) ++ t → A a v → A (a ++ (y ∷ m)) u → B s w → S a s → T
      at_first x y more m a [] t v u w e h i j seam = absurd (never.some w j)
      at_first x y more m a (z ∷ s) t v u w e h i j seam =
          let same_byte : z ≡ y = cc in
          absurd (d.apart a m s y v u w h i (rw same_byte at j) (rw same_byte at seam))

      nonempty : (x y : ℕ) (more m a s t : List ℕ) (v u : V) (w : W) → t ≡ (y ∷ m) ++ (s ++ (x ∷ more)) → A a v → A (a ++ (y ∷ m)) u → B t w → S a t → ⊥
      nonempty x y more m a s [] v u w e h i j seam = cc e
      nonempty x y more m a s (z ∷ t) v u w e h i j seam =
          let same_byte : z ≡ y = cc in
          d.apart a m t y v u w h i (rw same_byte at j) (rw same_byte at seam)

      go : (x : ℕ) (a more : List ℕ) (v u : V × W) → Joined S A B a v → Joined S A B (a ++ (x ∷ more)) u → p x ≡ true
      go x a more v u h i =
          let e : h.first ++ (h.second ++ (x ∷ more)) ≡ i.first ++ i.second = sym (append_assoc h.first h.second (x ∷ more)) ∙ (ap (λ t. t ++ (x ∷ more)) (sym h.text_is) ∙ i.text_is) in
          elim (fronts h.first i.first (h.second ++ (x ∷ more)) i.second e) [
            | same one two ↦ k.goes x (record { front = h.second; more = more; short_value = v.1; long_value = u.1; short = h.in_second; long = rw (← two) at i.in_second })
            | shorter y m one two ↦ at_first x y more m h.first h.second i.second v.0 u.0 v.1 two h.in_first (rw one at i.in_first) h.in_second h.seam
            | longer y m one two ↦ absurd (nonempty x y more m i.first h.second i.second u.0 v.0 u.1 two i.in_first (rw one at h.in_first) i.in_second i.seam)
          ]

-- ---- all the bytes of a grammar's texts

-- p holds of each byte of each text of A
pub record MadeOf {V : Type 0} (A : List ℕ → V → Type 0) (p : ℕ → Bool) : Type 0 where
  pub made : (text : List ℕ) (v : V) → A text v → list_all p text ≡ true

pub list_all-append : (p : ℕ → Bool) (xs ys : List ℕ) → list_all p xs ≡ true → list_all p ys ≡ true → list_all p (xs ++ ys) ≡ true
list_all-append p [] ys h k = k
list_all-append p (x ∷ xs) ys h k =
    let both = and_parts (p x) (list_all p xs) h in
    and_from (p x) (list_all p (xs ++ ys)) both.0 (list_all-append p xs ys both.1 k)

pub list_all_there : (p : ℕ → Bool) (a more : List ℕ) (x : ℕ) → list_all p (a ++ (x ∷ more)) ≡ true → p x ≡ true
list_all_there p [] more x h = (and_parts (p x) (list_all p more) h).0
list_all_there p (y ∷ a) more x h = list_all_there p a more x (and_parts (p y) (list_all p (a ++ (x ∷ more))) h).1

pub list_all-wider : (p q : ℕ → Bool) → ((x : ℕ) → p x ≡ true → q x ≡ true) → (xs : List ℕ) → list_all p xs ≡ true → list_all q xs ≡ true
list_all-wider p q w [] h = refl
list_all-wider p q w (x ∷ xs) h = let both = and_parts (p x) (list_all p xs) h in and_from (q x) (list_all q xs) (w x both.0) (list_all-wider p q w xs both.1)

pub made_wider : {V : Type 0} {A : List ℕ → V → Type 0} (p q : ℕ → Bool) → ((x : ℕ) → p x ≡ true → q x ≡ true) → MadeOf A p → MadeOf A q
made_wider p q w m = record { made = λ text v h. list_all-wider p q w text (m.made text v h) }

module _ {V : Type 0} {A : List ℕ → V → Type 0} {p : ℕ → Bool} (m : MadeOf A p) where
  pub goes_from_made : GoesBy A p
  goes_from_made = record { goes = λ x o. list_all_there p o.front o.more x (m.made (o.front ++ (x ∷ o.more)) o.long_value o.long) }

  pub begins_from_made : BeginsBy A p
  begins_from_made = record { begins = λ x o. (and_parts (p x) (list_all p o.more) (m.made (x ∷ o.more) o.value o.stands)).0 }

  pub prefixed_made : (b : ℕ) → p b ≡ true → MadeOf (Prefixed b A) p
  prefixed_made b h = record { made = go }
    where
      go : (text : List ℕ) (v : V) → Prefixed b A text v → list_all p text ≡ true
      go [] v k = refl
      go (x ∷ rest) v k = and_from (p x) (list_all p rest) (rw k.0 h) (m.made rest v k.1)

  pub optional_made : MadeOf (Optional A) p
  optional_made = record { made = go }
    where
      go : (text : List ℕ) (v : Option V) → Optional A text v → list_all p text ≡ true
      go text None k = rw k refl
      go text (Some v) k = m.made text v k

  pub mapped_made : {W : Type 0} {f : V → W} → MadeOf (Mapped f A) p
  mapped_made = record { made = λ text w k. m.made text k.value k.stands }

  pub listed_made : {S : List ℕ → Unit {0} → Type 0} → MadeOf S p → MadeOf (Listed A S) p
  listed_made {S} by = record { made = go }
    where
      go : (text : List ℕ) (vs : List V) → Listed A S text vs → list_all p text ≡ true
      go text vs (last_item {a} {v} h) = m.made a v h
      go text vs (closed_item {a} {s} {v} h k) = list_all-append p a s (m.made a v h) (by.made s tt k)
      go text vs (more_items {a} {s} {b} {v} {vs = us} h k t) = list_all-append p a (s ++ b) (m.made a v h) (list_all-append p s b (by.made s tt k) (go b us t))

pub joined_made : {V W : Type 0} {S : List ℕ → List ℕ → Type 0} {A : List ℕ → V → Type 0} {B : List ℕ → W → Type 0} {p : ℕ → Bool} → MadeOf A p → MadeOf B p → MadeOf (Joined S A B) p
joined_made {p = p} a b = record { made = λ text v h. rw h.text_is (list_all-append p h.first h.second (a.made h.first v.0 h.in_first) (b.made h.second v.1 h.in_second)) }

pub run_made : (p : ℕ → Bool) → MadeOf (Run p) p
run_made p = record { made = λ text v h. h.pass }

-- a text that begins with another byte has no prefix in A
pub none_by_byte : {V : Type 0} {A : List ℕ → V → Type 0} {p : ℕ → Bool} → NonEmpty A → BeginsBy A p → (text : List ℕ) → ((x : ℕ) (rest : List ℕ) → text ≡ x ∷ rest → p x ≡ true → ⊥) → HasNone A text
none_by_byte {V} {A} never b text other = record { none = go }
  where
    go : (a c : List ℕ) (w : V) → text ≡ a ++ c → A a w → ⊥
    go [] c w e h = never.some w h
    go (x ∷ a) c w e h = other x (a ++ c) e (b.begins x (record { more = a; value = w; stands = h }))
