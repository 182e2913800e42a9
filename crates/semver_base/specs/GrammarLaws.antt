-- How the longest prefix of a grammar comes from those of its parts.
use Rattle.std.proofs.Common.{◌≡◌, ◌≤◌, ◌<◌, ℕ, List, [], ◌∷◌, ◌++◌, length, Option, Some, None, refl, sym, ap, ◌∙◌, append_assoc, append-nil}
use Rattle.std.proofs.lemmas.List.{nil_from_length}
use Prim.Native.Nat.{zero-le, suc-le-suc}
use native.Mathlib.Nat.{le_antisymm, le_of_eq, le_trans, lt_irrefl, suc_inj, not-suc-le_self}
use Rattle.semver_base.specs.Grammar.{Either, this, that, IsLongest, HasNone, Followed, Joined, Mapped, Prefixed, Optional}
use Rattle.semver_base.specs.LengthLaws.{front_le, rest_le, join_le, join_cancel, goes_on}

-- two prefixes of one text: they are the same, or one is longer
pub data Fronts (a b c d : List ℕ) : Type 0 where
  same : a ≡ b → c ≡ d → Fronts a b c d
  shorter : (x : ℕ) (more : List ℕ) → b ≡ a ++ (x ∷ more) → c ≡ (x ∷ more) ++ d → Fronts a b c d
  longer : (x : ℕ) (more : List ℕ) → a ≡ b ++ (x ∷ more) → d ≡ (x ∷ more) ++ c → Fronts a b c d

pub fronts : (a b c d : List ℕ) → a ++ c ≡ b ++ d → Fronts a b c d
fronts [] [] c d e = same refl e
fronts [] (x ∷ b) c d e = shorter x b refl e
fronts (x ∷ a) [] c d e = longer x a refl (sym e)
fronts (x ∷ a) (y ∷ b) c d e =
    let h : x ≡ y = cc e in
    let t : a ++ c ≡ b ++ d = cc e in
    go (fronts a b c d t)
  where
    go : Fronts a b c d → Fronts (x ∷ a) (y ∷ b) c d
    go (same p q) = same (cc) q
    go (shorter z more p q) = shorter z more (cc) q
    go (longer z more p q) = longer z more (cc) q

-- x is a byte with which a text of A continues to a longer text of A
pub record GoesOn {V : Type 0} (A : List ℕ → V → Type 0) (x : ℕ) : Type 0 where
  pub front : List ℕ
  pub more : List ℕ
  pub short_value : V
  pub long_value : V
  pub short : A front short_value
  pub long : A (front ++ (x ∷ more)) long_value

-- x is a byte with which a text of A begins
pub record Begins {V : Type 0} (A : List ℕ → V → Type 0) (x : ℕ) : Type 0 where
  pub more : List ℕ
  pub value : V
  pub stands : A (x ∷ more) value

-- if a text of A continues with a byte, no text of B that begins with that byte follows it
pub record NoClash {V W : Type 0} (S : List ℕ → List ℕ → Type 0) (A : List ℕ → V → Type 0) (B : List ℕ → W → Type 0) : Type 0 where
  pub apart : (a more b : List ℕ) (x : ℕ) (v u : V) (w : W) → A a v → A (a ++ (x ∷ more)) u → B (x ∷ b) w → S a (x ∷ b) → ⊥

-- no text of A continues with a byte with which a text of B begins
pub record Apart {V W : Type 0} (A : List ℕ → V → Type 0) (B : List ℕ → W → Type 0) : Type 0 where
  pub apart : (x : ℕ) → GoesOn A x → Begins B x → ⊥

pub no_clash : {V W : Type 0} {S : List ℕ → List ℕ → Type 0} {A : List ℕ → V → Type 0} {B : List ℕ → W → Type 0} → Apart A B → NoClash S A B
no_clash d = record {
  apart = λ a more b x v u w short long h s. d.apart x (record { front = a; more = more; short_value = v; long_value = u; short = short; long = long }) (record { more = b; value = w; stands = h });
}

-- A has no empty text
pub record NonEmpty {V : Type 0} (A : List ℕ → V → Type 0) : Type 0 where
  pub some : (v : V) → A [] v → ⊥

-- two prefixes of one length
pub same_fronts : (a b c d : List ℕ) → a ++ c ≡ b ++ d → length a ≡ length b → (a ≡ b) × (c ≡ d)
same_fronts a b c d e h = elim (fronts a b c d e) [
  | same p q ↦ (p, q)
  | shorter x more p q ↦ absurd (goes_on a x more p (le_of_eq (sym h)))
  | longer x more p q ↦ absurd (goes_on b x more p (le_of_eq h))
]

pub pair_is : {V W : Type 0} (u : V × W) (v : V) (w : W) → u.0 ≡ v → u.1 ≡ w → u ≡ (v, w)
pair_is (x, y) v w p q = cc

module _ {V W : Type 0} {S : List ℕ → List ℕ → Type 0} {A : List ℕ → V → Type 0} {B : List ℕ → W → Type 0} where
  -- what follows a text of A that could continue isn't a text of B, unless it is empty
  nothing_more : (a more s b m : List ℕ) (x : ℕ) {v u : V} {w : W} → NoClash S A B → A a v → A (a ++ (x ∷ more)) u → s ++ b ≡ (x ∷ more) ++ m → B s w → S a s → s ≡ []
  nothing_more a more [] b m x apart short long e h seam = refl
  nothing_more a more (y ∷ s) b m x {v} {u} {w} apart short long e h seam =
      let same : y ≡ x = cc in
      absurd (apart.apart a more s x v u w short long (rw same at h) (rw same at seam))

  -- the longest text of A and then the longest of B
  pub joined : {text middle rest : List ℕ} {v : V} {w : W} → NoClash S A B → (p : IsLongest A text v middle) (q : IsLongest B middle w rest) → S p.front q.front → IsLongest (Joined S A B) text (v, w) rest
  joined {text} {middle} {rest} {v} {w} apart p q seam = record {
    front = p.front ++ q.front;
    text_is = p.text_is ∙ (ap (λ t. p.front ++ t) q.text_is ∙ sym (append_assoc p.front q.front rest));
    stands = record { first = p.front; second = q.front; text_is = refl; in_first = p.stands; in_second = q.stands; seam = seam };
    longest = go;
  }
    where
      go : (a b : List ℕ) (u : V × W) → text ≡ a ++ b → Joined S A B a u → (length a ≤ length (p.front ++ q.front)) × (length a ≡ length (p.front ++ q.front) → u ≡ (v, w))
      go a b u e f =
          let split : text ≡ f.first ++ (f.second ++ b) = e ∙ (ap (λ t. t ++ b) f.text_is ∙ append_assoc f.first f.second b) in
          let best = p.longest f.first (f.second ++ b) u.0 split f.in_first in
          elim (fronts f.first p.front (f.second ++ b) middle (sym split ∙ p.text_is)) [
            | same one two ↦
                let next = q.longest f.second b u.1 (sym two) f.in_second in
                let is : a ≡ p.front ++ f.second = f.text_is ∙ ap (λ t. t ++ f.second) one in (
                  rw is (join_le p.front f.second q.front next.0),
                  λ h. pair_is u v w (best.1 (ap length one)) (next.1 (join_cancel p.front f.second q.front (rw is at h))),
                )
            | shorter x more one two ↦
                let empty : f.second ≡ [] = nothing_more f.first more f.second b middle x apart f.in_first (rw one at p.stands) two f.in_second f.seam in
                let is : a ≡ f.first = f.text_is ∙ (ap (λ t. f.first ++ t) empty ∙ append-nil f.first) in
                let whole : p.front ++ q.front ≡ a ++ (x ∷ (more ++ q.front)) = rw is (ap (λ t. t ++ q.front) one ∙ append_assoc f.first (x ∷ more) q.front) in
                (rw whole (front_le a (x ∷ (more ++ q.front))), λ h. absurd (goes_on a x (more ++ q.front) whole (le_of_eq (sym h))))
            | longer x more one two ↦ absurd (goes_on p.front x more one best.0)
          ]

  pub joined_none_first : {text : List ℕ} → HasNone A text → HasNone (Joined S A B) text
  joined_none_first p = record { none = λ a b u e f. p.none f.first (f.second ++ b) u.0 (e ∙ (ap (λ t. t ++ b) f.text_is ∙ append_assoc f.first f.second b)) f.in_first }

  pub joined_none_second : {text middle : List ℕ} {v : V} → NoClash S A B → IsLongest A text v middle → HasNone B middle → HasNone (Joined S A B) text
  joined_none_second {text} {middle} {v} apart p q = record { none = go }
    where
      go : (a b : List ℕ) (u : V × W) → text ≡ a ++ b → Joined S A B a u → ⊥
      go a b u e f =
          let split : text ≡ f.first ++ (f.second ++ b) = e ∙ (ap (λ t. t ++ b) f.text_is ∙ append_assoc f.first f.second b) in
          let best = p.longest f.first (f.second ++ b) u.0 split f.in_first in
          elim (fronts f.first p.front (f.second ++ b) middle (sym split ∙ p.text_is)) [
            | same one two ↦ q.none f.second b u.1 (sym two) f.in_second
            | shorter x more one two ↦
                let empty : f.second ≡ [] = nothing_more f.first more f.second b middle x apart f.in_first (rw one at p.stands) two f.in_second f.seam in
                q.none [] middle u.1 refl (rw empty at f.in_second)
            | longer x more one two ↦ goes_on p.front x more one best.0
          ]

module _ {V : Type 0} {A : List ℕ → V → Type 0} where
  pub optional_some : {text rest : List ℕ} {v : V} → NonEmpty A → IsLongest A text v rest → IsLongest (Optional A) text (Some v) rest
  optional_some {text} {rest} {v} never p = record { front = p.front; text_is = p.text_is; stands = p.stands; longest = go }
    where
      go : (a b : List ℕ) (u : Option V) → text ≡ a ++ b → Optional A a u → (length a ≤ length p.front) × (length a ≡ length p.front → u ≡ Some v)
      go a b None e h =
          (rw h zero-le, λ same. absurd (never.some v (let nil : p.front ≡ [] = nil_from_length p.front (sym same ∙ ap length h) in rw nil at p.stands)))
      go a b (Some w) e h = let best = p.longest a b w e h in (best.0, λ same. ap Some (best.1 same))

  pub optional_none : {text : List ℕ} → HasNone A text → IsLongest (Optional A) text None text
  optional_none {text} p = record { front = []; text_is = refl; stands = refl; longest = go }
    where
      go : (a b : List ℕ) (u : Option V) → text ≡ a ++ b → Optional A a u → (length a ≤ 0) × (length a ≡ 0 → u ≡ None)
      go a b None e h = (le_of_eq (ap length h), λ same. refl)
      go a b (Some w) e h = absurd (p.none a b w e h)

  pub prefixed_some : {m : ℕ} {text after rest : List ℕ} {v : V} → text ≡ m ∷ after → IsLongest A after v rest → IsLongest (Prefixed m A) text v rest
  prefixed_some {m} {text} {after} {rest} {v} is p = record { front = m ∷ p.front; text_is = is ∙ ap (λ t. m ∷ t) p.text_is; stands = (refl, p.stands); longest = go }
    where
      go : (a b : List ℕ) (w : V) → text ≡ a ++ b → Prefixed m A a w → (length a ≤ length (m ∷ p.front)) × (length a ≡ length (m ∷ p.front) → w ≡ v)
      go [] b w e h = absurd h
      go (x ∷ a) b w e h =
          let tail : after ≡ a ++ b = cc in
          let best = p.longest a b w tail h.1 in
          (suc-le-suc best.0, λ same. best.1 (suc_inj same))

  pub prefixed_none : {m : ℕ} {text after : List ℕ} → text ≡ m ∷ after → HasNone A after → HasNone (Prefixed m A) text
  prefixed_none {m} {text} {after} is p = record { none = go }
    where
      go : (a b : List ℕ) (w : V) → text ≡ a ++ b → Prefixed m A a w → ⊥
      go [] b w e h = h
      go (x ∷ a) b w e h = let tail : after ≡ a ++ b = cc in p.none a b w tail h.1

  pub prefixed_other : {m : ℕ} {text : List ℕ} → ((rest : List ℕ) → text ≡ m ∷ rest → ⊥) → HasNone (Prefixed m A) text
  prefixed_other {m} {text} other = record { none = go }
    where
      go : (a b : List ℕ) (w : V) → text ≡ a ++ b → Prefixed m A a w → ⊥
      go [] b w e h = h
      go (x ∷ a) b w e h = other (a ++ b) (e ∙ ap (λ y. y ∷ (a ++ b)) h.0)

  pub mapped : {W : Type 0} {f : V → W} {text rest : List ℕ} {v : V} → IsLongest A text v rest → IsLongest (Mapped f A) text (f v) rest
  mapped {f = f} p = record {
    front = p.front;
    text_is = p.text_is;
    stands = record { value = _; stands = p.stands; is = refl };
    longest = λ a b w e h. let best = p.longest a b h.value e h.stands in (best.0, λ same. h.is ∙ ap f (best.1 same));
  }

  pub mapped_none : {W : Type 0} {f : V → W} {text : List ℕ} → HasNone A text → HasNone (Mapped f A) text
  mapped_none p = record { none = λ a b w e h. p.none a b h.value e h.stands }

-- the same without a condition on the two texts
module _ {V W : Type 0} {A : List ℕ → V → Type 0} {B : List ℕ → W → Type 0} where
  pub followed : {text middle rest : List ℕ} {v : V} {w : W} → Apart A B → IsLongest A text v middle → IsLongest B middle w rest → IsLongest (Followed A B) text (v, w) rest
  followed apart p q = joined (no_clash apart) p q tt

  pub followed_none_second : {text middle : List ℕ} {v : V} → Apart A B → IsLongest A text v middle → HasNone B middle → HasNone (Followed A B) text
  followed_none_second apart p q = joined_none_second (no_clash apart) p q

-- a grammar with fewer texts, which has this prefix
pub narrowed : {V : Type 0} {A : List ℕ → V → Type 0} (B : List ℕ → V → Type 0) {text rest : List ℕ} {v : V} → ((a : List ℕ) (w : V) → B a w → A a w) → (p : IsLongest A text v rest) → B p.front v → IsLongest B text v rest
narrowed B fewer p stands = record { front = p.front; text_is = p.text_is; stands = stands; longest = λ a b w e h. p.longest a b w e (fewer a w h) }

pub narrowed_none : {V : Type 0} {A : List ℕ → V → Type 0} (B : List ℕ → V → Type 0) {text : List ℕ} → ((a : List ℕ) (w : V) → B a w → A a w) → HasNone A text → HasNone B text
narrowed_none B fewer p = record { none = λ a b w e h. p.none a b w e (fewer a w h) }

-- the same texts, with f applied to their values
pub renamed : {V W : Type 0} {A : List ℕ → V → Type 0} (B : List ℕ → W → Type 0) (f : V → W) {text rest : List ℕ} {v : V} → ((a : List ℕ) (w : W) → B a w → Mapped f A a w) → ((a : List ℕ) (u : V) → A a u → B a (f u)) → IsLongest A text v rest → IsLongest B text (f v) rest
renamed B f {v = v} to from p = record {
  front = p.front;
  text_is = p.text_is;
  stands = from p.front v p.stands;
  longest = λ a b w e h. let m = to a w h in let best = p.longest a b m.value e m.stands in (best.0, λ s. m.is ∙ ap f (best.1 s));
}

-- one of two grammars, where the other matches no prefix
module _ {V : Type 0} {A B : List ℕ → V → Type 0} where
  pub either_this : {text rest : List ℕ} {v : V} → IsLongest A text v rest → HasNone B text → IsLongest (Either A B) text v rest
  either_this {text} {rest} {v} p n = record { front = p.front; text_is = p.text_is; stands = this p.stands; longest = go }
    where
      go : (a b : List ℕ) (w : V) → text ≡ a ++ b → Either A B a w → (length a ≤ length p.front) × (length a ≡ length p.front → w ≡ v)
      go a b w e (this h) = p.longest a b w e h
      go a b w e (that h) = absurd (n.none a b w e h)

  pub either_that : {text rest : List ℕ} {v : V} → HasNone A text → IsLongest B text v rest → IsLongest (Either A B) text v rest
  either_that {text} {rest} {v} n p = record { front = p.front; text_is = p.text_is; stands = that p.stands; longest = go }
    where
      go : (a b : List ℕ) (w : V) → text ≡ a ++ b → Either A B a w → (length a ≤ length p.front) × (length a ≡ length p.front → w ≡ v)
      go a b w e (this h) = absurd (n.none a b w e h)
      go a b w e (that h) = p.longest a b w e h

  pub either_none : {text : List ℕ} → HasNone A text → HasNone B text → HasNone (Either A B) text
  either_none {text} m n = record { none = go }
    where
      go : (a b : List ℕ) (w : V) → text ≡ a ++ b → Either A B a w → ⊥
      go a b w e (this h) = m.none a b w e h
      go a b w e (that h) = n.none a b w e h

-- the longest prefix is unique, with its value and what follows it
pub one_front : {V : Type 0} {R : List ℕ → V → Type 0} {text rest end : List ℕ} {v w : V} → IsLongest R text v rest → IsLongest R text w end → (v ≡ w) × (rest ≡ end)
one_front {V} {R} {text} {rest} {end} {v} {w} p q =
    let shorter_first = (q.longest p.front rest v p.text_is p.stands).0 in
    let first = p.longest q.front end w q.text_is q.stands in
    let even : length p.front ≡ length q.front = le_antisymm shorter_first first.0 in
    (sym (first.1 (sym even)), (same_fronts p.front q.front rest end (sym p.text_is ∙ q.text_is) even).1)

-- a prefix that a text of B follows is the longest, if no text of A continues with a byte with which B begins
pub rest_is : {V W : Type 0} {A : List ℕ → V → Type 0} {B : List ℕ → W → Type 0} {text middle : List ℕ} {v : V} → Apart A B → NonEmpty B → IsLongest A text v middle → (a b : List ℕ) (u : V) (w : W) → text ≡ a ++ b → A a u → B b w → b ≡ middle
rest_is {V} {W} {A} {B} {text} {middle} {v} apart some p a b u w e h k = elim (fronts a p.front b middle (sym e ∙ p.text_is)) [
  | same one two ↦ two
  | shorter x more one two ↦ absurd (begins b more x two k (rw one at p.stands))
  | longer x more one two ↦ absurd (goes_on p.front x more one (p.longest a b u e h).0)
]
  where
    begins : (b more : List ℕ) (x : ℕ) → b ≡ (x ∷ more) ++ middle → B b w → A (a ++ (x ∷ more)) v → ⊥
    begins [] more x two k long = cc two
    begins (y ∷ b) more x two k long =
        let same_byte : y ≡ x = cc in
        apart.apart x (record { front = a; more = more; short_value = u; long_value = v; short = h; long = long }) (record { more = b; value = w; stands = rw same_byte at k })

-- both match a prefix, and the first matches the longer one
pub either_longer : {V : Type 0} {A B : List ℕ → V → Type 0} {text rest more : List ℕ} {v w : V} → IsLongest A text v rest → IsLongest B text w more → length rest < length more → IsLongest (Either A B) text v rest
either_longer {V} {A} {B} {text} {rest} {more} {v} p q less = record { front = p.front; text_is = p.text_is; stands = this p.stands; longest = go }
  where
    go : (a b : List ℕ) (w : V) → text ≡ a ++ b → Either A B a w → (length a ≤ length p.front) × (length a ≡ length p.front → w ≡ v)
    go a b w e (this h) = p.longest a b w e h
    go a b w e (that h) =
        let best = (q.longest a b w e h).0 in
        elim (fronts p.front q.front rest more (sym p.text_is ∙ q.text_is)) [
          | same one two ↦ absurd (lt_irrefl (length more) (rw two at less))
          | shorter x m one two ↦ absurd (not-suc-le_self (length more) (le_trans (suc-le-suc (rest_le (x ∷ m) more)) (rw two at less)))
          | longer x m one two ↦ (le_trans best (rw one (front_le q.front (x ∷ m))), λ s. absurd (goes_on q.front x m one (rw s at best)))
        ]
