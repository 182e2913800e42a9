-- Rules and grammars: a rule describes a grammar if its texts are those that have a value. One lemma per combinator.
use Rattle.std.proofs.Common.{◌≡◌, ◌≤◌, ◌<◌, ℕ, Bool, true, false, ◌&&◌, List, [], ◌∷◌, ◌++◌, ◌⊎◌, inl, inr, leb, ltb, suc, length, Option, Some, None, refl, sym, ap, subst, ◌∙◌, append_assoc, append-nil, arith}
use Rattle.std.specs.List.{list_all}
use Rattle.std.proofs.lemmas.Bool.{and_from, and_parts, both_ways, or_cases, or_left, leb-true, le-leb, ltb-true, lt-ltb}
use Rattle.semver_base.specs.Grammar.{After, Before, Either, this, that, Followed, IsText, Listed, last_item, closed_item, more_items, Mapped, OneByte, Optional, Prefixed, Run}
use Rattle.semver_base.specs.Lexical.{IsByte}
use Rattle.semver_req.proofs.Rules.{Bytes, has, Rule, empty, byte, seq, alt, many, Many, no_more, one_more, Holds, is_made, letter, word, optional, some, listed}
use Rattle.semver_req.proofs.RuleLaws.{made}
use Rattle.semver_req.proofs.Symbols.{sign, Spells, done, a_byte, a_number, Says, SaidBy, spells_append}

-- ---- properties of values

abbrev pub Any : {V : Type 0} → V → Type 0
Any v = Unit {0}

abbrev pub Each : {V : Type 0} → (V → Type 0) → List V → Type 0
Each F [] = Unit {0}
Each F (v ∷ vs) = F v × Each F vs

abbrev pub IfAny : {V : Type 0} → (V → Type 0) → Option V → Type 0
IfAny F None = Unit {0}
IfAny F (Some v) = F v

abbrev pub Both : {V W : Type 0} → (V → Type 0) → (W → Type 0) → V × W → Type 0
Both F G v = F v.0 × G v.1

-- the rule's texts are those of A with a value that has F; T are the numbers
pub record Describes {V : Type 0} (T : List ℕ → Type 0) (A : List ℕ → V → Type 0) (F : V → Type 0) (r : Rule) : Type 0 where
  pub into : (t : List ℕ) (v : V) → A t v → F v → Says T r t
  pub from : (t : List ℕ) → Says T r t → (v : V) × A t v × F v

-- one of the endings makes a text of A of the prefix, with a value that has F
abbrev pub EndsBy : {V : Type 0} → (List ℕ → V → Type 0) → (V → Type 0) → List ℕ → List (List ℕ) → Type 0
EndsBy A F p [] = ⊥
EndsBy {V} A F p (e ∷ es) = ((v : V) × A (p ++ e) v × F v) ⊎ EndsBy A F p es

-- ---- single bytes

pub one_is : (m x : ℕ) → has ((m, suc m) ∷ []) x ≡ true → x ≡ m
one_is m x h = elim (or_cases (leb m x && ltb x (suc m)) false h) [
  | inl k ↦ let both = and_parts (leb m x) (ltb x (suc m)) k in let low : m ≤ x = leb-true m x both.0 in let high : x < suc m = ltb-true x (suc m) both.1 in omega arith
  | inr k ↦ absurd (both_ways false refl k)
]

pub one_has : (m : ℕ) → has ((m, suc m) ∷ []) m ≡ true
one_has m = or_left (leb m m && ltb m (suc m)) false (and_from (leb m m) (ltb m (suc m)) (le-leb m m (omega arith)) (lt-ltb m (suc m) (omega arith)))

abbrev pub bytes : Bytes
bytes = (0, 256) ∷ []

pub letter_then : (m : ℕ) (r : Rule) (t : List ℕ) → Holds (seq (letter m) r) t → (s : List ℕ) × (t ≡ m ∷ s) × Holds r s
letter_then m r t (f, s, e, h, k) = (s, e ∙ (ap (λ l. l ++ s) h.1 ∙ ap (λ x. x ∷ s) (one_is m h.0 h.2)), k)

word_into : (w : List ℕ) → Holds (word w) w
word_into [] = refl
word_into (m ∷ []) = (m, refl, one_has m)
word_into (m ∷ n ∷ w) = (m ∷ [], n ∷ w, refl, (m, refl, one_has m), word_into (n ∷ w))

word_from : (w t : List ℕ) → Holds (word w) t → t ≡ w
word_from [] t h = h
word_from (m ∷ []) t h = h.1 ∙ ap (λ x. x ∷ []) (one_is m h.0 h.2)
word_from (m ∷ n ∷ w) t h = let k = letter_then m (word (n ∷ w)) t h in k.1 ∙ ap (λ l. m ∷ l) (word_from (n ∷ w) k.0 k.2)

-- the set has the bytes that pass the test
pub record Passing (p : ℕ → Bool) (s : Bytes) : Type 0 where
  pub into : (x : ℕ) → p x ≡ true → has s x ≡ true
  pub from : (x : ℕ) → has s x ≡ true → p x ≡ true

pub run_into : {p : ℕ → Bool} {s : Bytes} → Passing p s → (t v : List ℕ) → Run p t v → Holds (some (byte s)) t
run_into {p} {s} a t v h = go t h.some h.pass
  where
    each : (t : List ℕ) → list_all p t ≡ true → Many (Holds (byte s)) t
    each [] h = no_more refl
    each (x ∷ t) h = let both = and_parts (p x) (list_all p t) h in one_more (x ∷ []) t refl (x, refl, a.into x both.0) (each t both.1)

    go : (t : List ℕ) → 0 < length t → list_all p t ≡ true → Holds (some (byte s)) t
    go [] n h = absurd (omega arith)
    go (x ∷ t) n h = let both = and_parts (p x) (list_all p t) h in (x ∷ [], t, refl, (x, refl, a.into x both.0), each t both.1)

run_from : {p : ℕ → Bool} {s : Bytes} → Passing p s → (t : List ℕ) → Holds (some (byte s)) t → (v : List ℕ) × Run p t v
run_from {p} {s} a t h = back t h.0 h.1 h.2 h.3 h.4
  where
    all : {t : List ℕ} → Many (Holds (byte s)) t → list_all p t ≡ true
    all (no_more e) = rw e refl
    all (one_more f u e h k) =
        let whole = e ∙ ap (λ l. l ++ u) h.1 in
        rw whole (and_from (p h.0) (list_all p u) (a.from h.0 h.2) (all k))

    back : (t f u : List ℕ) → t ≡ f ++ u → Holds (byte s) f → Many (Holds (byte s)) u → (v : List ℕ) × Run p t v
    back t f u e h k =
        let whole : t ≡ h.0 ∷ u = e ∙ ap (λ l. l ++ u) h.1 in
        (t, record { some = rw whole (omega arith); pass = rw whole (and_from (p h.0) (list_all p u) (a.from h.0 h.2) (all k)); is = refl })

-- a text of two parts, which the words spell
record Split (T : List ℕ → Type 0) (w v t : List ℕ) : Type 0 where
  front : List ℕ
  rest : List ℕ
  text_is : t ≡ front ++ rest
  in_front : Spells T w front
  in_rest : Spells T v rest

module _ {T : List ℕ → Type 0} where
  -- a word of two parts spells a text of two parts
  split : (w v : List ℕ) {u t : List ℕ} → Spells T u t → u ≡ w ++ v → Split T w v t
  split [] v {u} {t} h e = record { front = []; rest = t; text_is = refl; in_front = done refl refl; in_rest = rw e at h }
  split (x ∷ w) v (done e f) g = cc (e, g)
  split (x ∷ w) v (a_byte y z s e l f h) g =
      let whole : y ∷ z ≡ x ∷ (w ++ v) = sym e ∙ g in
      let first : y ≡ x = cc whole in
      let others : z ≡ w ++ v = cc whole in
      let k = split w v h others in
      record { front = y ∷ k.front; rest = k.rest; text_is = f ∙ ap (λ l. y ∷ l) k.text_is; in_front = a_byte y w k.front (ap (λ b. b ∷ w) (sym first)) l refl k.in_front; in_rest = k.in_rest }
  split (x ∷ w) v (a_number z n s e f h i) g =
      let whole : sign ∷ z ≡ x ∷ (w ++ v) = sym e ∙ g in
      let first : sign ≡ x = cc whole in
      let others : z ≡ w ++ v = cc whole in
      let k = split w v i others in
      record { front = n ++ k.front; rest = k.rest; text_is = f ∙ (ap (λ l. n ++ l) k.text_is ∙ sym (append_assoc n k.front k.rest)); in_front = a_number w n k.front (ap (λ b. b ∷ w) (sym first)) refl h k.in_front; in_rest = k.in_rest }

  pub says_seq : (a b : Rule) (x y t : List ℕ) → t ≡ x ++ y → Says T a x → Says T b y → Says T (seq a b) t
  says_seq a b x y t e h k = record { written = h.written ++ k.written; holds = (h.written, k.written, refl, h.holds, k.holds); spells = rw e (spells_append k.written y h.spells k.spells) }

  pub seq_says : (a b : Rule) (t : List ℕ) → Says T (seq a b) t → (x : List ℕ) × (y : List ℕ) × (t ≡ x ++ y) × Says T a x × Says T b y
  seq_says a b t h =
      let w = h.holds in
      let k = split w.0 w.1 h.spells w.2 in
      (k.front, k.rest, k.text_is, record { written = w.0; holds = w.3; spells = k.in_front }, record { written = w.1; holds = w.4; spells = k.in_rest })

  pub says_alt : (a b : Rule) (t : List ℕ) → Says T a t ⊎ Says T b t → Says T (alt a b) t
  says_alt a b t (inl h) = record { written = h.written; holds = inl h.holds; spells = h.spells }
  says_alt a b t (inr h) = record { written = h.written; holds = inr h.holds; spells = h.spells }

  alt_cases : (a b : Rule) (t w : List ℕ) → Spells T w t → Holds a w ⊎ Holds b w → Says T a t ⊎ Says T b t
  alt_cases a b t w s (inl h) = inl (record { written = w; holds = h; spells = s })
  alt_cases a b t w s (inr h) = inr (record { written = w; holds = h; spells = s })

  pub alt_says : (a b : Rule) (t : List ℕ) → Says T (alt a b) t → Says T a t ⊎ Says T b t
  alt_says a b t h = alt_cases a b t h.written h.spells h.holds

  pub says_many : (a : Rule) {t : List ℕ} → Many (Says T a) t → Says T (many a) t
  says_many a (no_more e) = record { written = []; holds = no_more refl; spells = done refl e }
  says_many a (one_more x y e h k) = let m = says_many a k in record { written = h.written ++ m.written; holds = one_more h.written m.written refl h.holds m.holds; spells = rw e (spells_append m.written y h.spells m.spells) }

  pub none_spelled : {w t : List ℕ} → Spells T w t → w ≡ [] → t ≡ []
  none_spelled (done e f) g = f
  none_spelled (a_byte x v s e l f h) g = cc (e, g)
  none_spelled (a_number v n s e f h k) g = cc (e, g)

  many_said : (a : Rule) {w : List ℕ} → Many (Holds a) w → {t : List ℕ} → Spells T w t → Many (Says T a) t
  many_said a (no_more e) s = no_more (none_spelled s e)
  many_said a (one_more x y e h k) s = let m = split x y s e in one_more m.front m.rest m.text_is (record { written = x; holds = h; spells = m.in_front }) (many_said a k m.in_rest)

  pub many_says : (a : Rule) {t : List ℕ} → Says T (many a) t → Many (Says T a) t
  many_says a h = many_said a h.holds h.spells

  pub number_said : (t : List ℕ) → T t → Says T (letter sign) t
  number_said t h = record { written = sign ∷ []; holds = (sign, refl, one_has sign); spells = a_number [] t [] refl (sym (append-nil t)) h (done refl refl) }

  sign_alone : {w t : List ℕ} → Spells T w t → w ≡ sign ∷ [] → T t
  sign_alone (done e f) g = cc (e, g)
  sign_alone (a_byte x v s e l f h) g = let same : x ≡ sign = cc (sym e ∙ g) in absurd (omega arith)
  sign_alone (a_number v n s e f h k) g = let nil : v ≡ [] = cc (sym e ∙ g) in let is = f ∙ (ap (λ l. n ++ l) (none_spelled k nil) ∙ append-nil n) in rw is h

  pub said_number : (t : List ℕ) → Says T (letter sign) t → T t
  said_number t h = let w = h.holds in sign_alone h.spells (w.1 ∙ ap (λ x. x ∷ []) (one_is sign w.0 w.2))

  -- ---- rules without numbers

  itself : (t : List ℕ) → list_all (has bytes) t ≡ true → Spells T t t
  itself [] h = done refl refl
  itself (x ∷ t) h =
      let both = and_parts (has bytes x) (list_all (has bytes) t) h in
      a_byte x t t refl (small x both.0) refl (itself t both.1)
    where
      small : (x : ℕ) → has bytes x ≡ true → x < sign
      small x h = elim (or_cases (leb 0 x && ltb x 256) false h) [ inl k ↦ ltb-true x 256 (and_parts (leb 0 x) (ltb x 256) k).1 | inr k ↦ absurd (both_ways false refl k) ]

  is_itself : {w t : List ℕ} → Spells T w t → list_all (has bytes) w ≡ true → t ≡ w
  is_itself (done e f) h = f ∙ sym e
  is_itself (a_byte x v s e l f k) h =
      let here : list_all (has bytes) (x ∷ v) ≡ true = rw e at h in
      f ∙ (ap (λ z. x ∷ z) (is_itself k (and_parts (has bytes x) (list_all (has bytes) v) here).1) ∙ sym e)
  is_itself (a_number v n s e f h k) g =
      let here : list_all (has bytes) (sign ∷ v) ≡ true = rw e at g in
      absurd (both_ways (has bytes sign) refl (and_parts (has bytes sign) (list_all (has bytes) v) here).0)

  pub ground_said : (r : Rule) → is_made r bytes ≡ true → (t : List ℕ) → Holds r t → Says T r t
  ground_said r e t h = record { written = t; holds = h; spells = itself t (made r bytes e t h) }

  pub said_ground : (r : Rule) → is_made r bytes ≡ true → (t : List ℕ) → Says T r t → Holds r t
  said_ground r e t h = let is = is_itself h.spells (made r bytes e h.written h.holds) in rw is h.holds

  pub ground_described : {V : Type 0} {A : List ℕ → V → Type 0} (r : Rule) → is_made r bytes ≡ true → ((t : List ℕ) (v : V) → A t v → Holds r t) → ((t : List ℕ) → Holds r t → (v : V) × A t v) → Describes T A Any r
  ground_described r e into from = record { into = λ t v h i. ground_said r e t (into t v h); from = λ t h. let w = from t (said_ground r e t h) in (w.0, w.1, tt) }

  pub byte_described : {p : ℕ → Bool} (s : Bytes) → Passing p s → is_made (byte s) bytes ≡ true → Describes T (OneByte p) Any (byte s)
  byte_described s a e = ground_described (byte s) e (λ t v h. (v, h.text_is, a.into v h.passes)) (λ t h. (h.0, record { text_is = h.1; passes = a.from h.0 h.2 }))

  pub run_described : {p : ℕ → Bool} (s : Bytes) → Passing p s → is_made (some (byte s)) bytes ≡ true → Describes T (Run p) Any (some (byte s))
  run_described s a e = ground_described (some (byte s)) e (run_into a) (run_from a)

  pub letter_described : (m : ℕ) → is_made (letter m) bytes ≡ true → Describes T (IsByte m) Any (letter m)
  letter_described m e = ground_described (letter m) e (λ t v h. (m, h, one_has m)) (λ t h. (tt, h.1 ∙ ap (λ x. x ∷ []) (one_is m h.0 h.2)))

  pub word_described : (w : List ℕ) → is_made (word w) bytes ≡ true → Describes T (IsText w) Any (word w)
  word_described w e = ground_described (word w) e (λ t v h. rw h (word_into w)) (λ t h. (tt, word_from w t h))

  -- ---- combinators

  pub described_as : {V : Type 0} {A : List ℕ → V → Type 0} {F G : V → Type 0} {r : Rule} → ((v : V) → G v → F v) → ((v : V) → F v → G v) → Describes T A F r → Describes T A G r
  described_as of to c = record { into = λ t v h i. c.into t v h (of v i); from = λ t h. let w = c.from t h in (w.0, w.1, to w.0 w.2) }

  pub mapped_described : {V W : Type 0} {f : V → W} {A : List ℕ → V → Type 0} {F : W → Type 0} {r : Rule} → Describes T A (λ v. F (f v)) r → Describes T (Mapped f A) F r
  mapped_described {f = f} {F = F} c = record { into = λ t w h i. c.into t h.value h.stands (subst F h.is i); from = λ t h. let w = c.from t h in (f w.0, record { value = w.0; stands = w.1; is = refl }, w.2) }

  pub followed_described : {V W : Type 0} {A : List ℕ → V → Type 0} {B : List ℕ → W → Type 0} {F : V → Type 0} {G : W → Type 0} {r q : Rule} → Describes T A F r → Describes T B G q → Describes T (Followed A B) (Both F G) (seq r q)
  followed_described {r = r} {q} a b = record {
    into = λ t v h i. says_seq r q h.first h.second t h.text_is (a.into h.first v.0 h.in_first i.0) (b.into h.second v.1 h.in_second i.1);
    from = λ t h. let s = seq_says r q t h in let v = a.from s.0 s.3 in let w = b.from s.1 s.4 in ((v.0, w.0), record { first = s.0; second = s.1; text_is = s.2; in_first = v.1; in_second = w.1; seam = tt }, (v.2, w.2));
  }

  pub after_described : {V W : Type 0} {A : List ℕ → V → Type 0} {B : List ℕ → W → Type 0} {G : W → Type 0} {r q : Rule} → Describes T A Any r → Describes T B G q → Describes T (After A B) G (seq r q)
  after_described a b = mapped_described (described_as (λ v h. (tt, h)) (λ v h. h.1) (followed_described a b))

  pub before_described : {V W : Type 0} {A : List ℕ → V → Type 0} {B : List ℕ → W → Type 0} {F : V → Type 0} {r q : Rule} → Describes T A F r → Describes T B Any q → Describes T (Before A B) F (seq r q)
  before_described a b = mapped_described (described_as (λ v h. (h, tt)) (λ v h. h.0) (followed_described a b))

  pub either_described : {V : Type 0} {A B : List ℕ → V → Type 0} {F : V → Type 0} {r q : Rule} → Describes T A F r → Describes T B F q → Describes T (Either A B) F (alt r q)
  either_described {V} {A} {B} {F} {r} {q} a b = record { into = go; from = λ t h. back t (alt_says r q t h) }
    where
      go : (t : List ℕ) (v : V) → Either A B t v → F v → Says T (alt r q) t
      go t v (this h) i = says_alt r q t (inl (a.into t v h i))
      go t v (that h) i = says_alt r q t (inr (b.into t v h i))

      back : (t : List ℕ) → Says T r t ⊎ Says T q t → (v : V) × Either A B t v × F v
      back t (inl h) = let w = a.from t h in (w.0, this w.1, w.2)
      back t (inr h) = let w = b.from t h in (w.0, that w.1, w.2)

  pub optional_described : {V : Type 0} {A : List ℕ → V → Type 0} {F : V → Type 0} {r : Rule} → Describes T A F r → Describes T (Optional A) (IfAny F) (optional r)
  optional_described {V} {A} {F} {r} a = record { into = go; from = λ t h. back t (alt_says r empty t h) }
    where
      go : (t : List ℕ) (v : Option V) → Optional A t v → IfAny F v → Says T (optional r) t
      go t None h i = says_alt r empty t (inr (record { written = []; holds = refl; spells = done refl h }))
      go t (Some v) h i = says_alt r empty t (inl (a.into t v h i))

      back : (t : List ℕ) → Says T r t ⊎ Says T empty t → (v : Option V) × Optional A t v × IfAny F v
      back t (inl h) = let w = a.from t h in (Some w.0, w.1, w.2)
      back t (inr h) = (None, none_spelled h.spells h.holds, tt)

  pub prefixed_described : {V : Type 0} {A : List ℕ → V → Type 0} {F : V → Type 0} {r : Rule} (m : ℕ) → m < sign → Describes T A F r → Describes T (Prefixed m A) F (seq (letter m) r)
  prefixed_described {V} {A} {F} {r} m l a = record { into = go; from = λ t h. let s = seq_says (letter m) r t h in back t s.0 s.1 s.2 (first_is s.3.spells (s.3.holds.1 ∙ ap (λ x. x ∷ []) (one_is m s.3.holds.0 s.3.holds.2))) s.4 }
    where
      first_is : {w t : List ℕ} → Spells T w t → w ≡ m ∷ [] → t ≡ m ∷ []
      first_is (done e f) g = cc (e, g)
      first_is (a_byte x v s e k f h) g = let same : x ≡ m = cc (sym e ∙ g) in let nil : v ≡ [] = cc (sym e ∙ g) in f ∙ (ap (λ z. z ∷ s) same ∙ ap (λ z. m ∷ z) (none_spelled h nil))
      first_is (a_number v n s e f h k) g = let same : sign ≡ m = cc (sym e ∙ g) in absurd (omega arith)

      go : (t : List ℕ) (v : V) → Prefixed m A t v → F v → Says T (seq (letter m) r) t
      go [] v h i = absurd h
      go (x ∷ t) v h i = says_seq (letter m) r (x ∷ []) t (x ∷ t) refl (record { written = x ∷ []; holds = (x, refl, rw h.0 (one_has m)); spells = a_byte x [] [] refl (rw h.0 l) refl (done refl refl) }) (a.into t v h.1 i)

      back : (t f s : List ℕ) → t ≡ f ++ s → f ≡ m ∷ [] → Says T r s → (v : V) × Prefixed m A t v × F v
      back t f s e g h =
          let w = a.from s h in
          let whole : t ≡ m ∷ s = e ∙ ap (λ l. l ++ s) g in
          (w.0, rw whole (refl, w.1), w.2)

  module _ {V : Type 0} {A : List ℕ → V → Type 0} {S : List ℕ → Unit {0} → Type 0} {F : V → Type 0} {r q : Rule} (a : Describes T A F r) (s : Describes T S Any q) where
    listed_into : {t : List ℕ} {vs : List V} → Listed A S t vs → Each F vs → (x : List ℕ) × (y : List ℕ) × (z : List ℕ) × (t ≡ x ++ (y ++ z)) × Says T r x × Many (Says T (seq q r)) y × Says T (optional q) z
    listed_into (last_item {a = x} {v} h) i = (x, [], [], sym (append-nil x), a.into x v h i.0, no_more refl, says_alt q empty [] (inr (record { written = []; holds = refl; spells = done refl refl })))
    listed_into (closed_item {a = x} {s = y} {v} h k) i = (x, [], y, refl, a.into x v h i.0, no_more refl, says_alt q empty y (inl (s.into y tt k tt)))
    listed_into (more_items {a = x} {s = y} {b = z} {v} h k l) i =
        let m = listed_into l i.1 in
        (x, (y ++ m.0) ++ m.1, m.2, ap (λ l. x ++ l) (ap (λ l. y ++ l) m.3 ∙ (sym (append_assoc y m.0 (m.1 ++ m.2)) ∙ sym (append_assoc (y ++ m.0) m.1 m.2))), a.into x v h i.0, one_more (y ++ m.0) m.1 refl (says_seq q r y m.0 (y ++ m.0) refl (s.into y tt k tt) m.4) m.5, m.6)

    listed_from : (t f u : List ℕ) (v : V) → A f v → F v → Many (Says T (seq q r)) t → Says T q u ⊎ Says T empty u → (vs : List V) × Listed A S (f ++ (t ++ u)) vs × Each F vs
    listed_from t f u v h i (no_more e) (inl k) = let w = s.from u k in (v ∷ [], rw e (closed_item h w.1), (i, tt))
    listed_from t f u v h i (no_more e) (inr k) = (v ∷ [], rw (e, none_spelled k.spells k.holds, append-nil f) (last_item h), (i, tt))
    listed_from t f u v h i (one_more x y e k l) m =
        let p = seq_says q r x k in
        let b = s.from p.0 p.3 in
        let c = a.from p.1 p.4 in
        let more = listed_from y p.1 u c.0 c.1 c.2 l m in
        let whole : f ++ (t ++ u) ≡ f ++ (p.0 ++ (p.1 ++ (y ++ u))) = ap (λ l. f ++ l) (ap (λ l. l ++ u) (e ∙ ap (λ l. l ++ y) p.2) ∙ (append_assoc (p.0 ++ p.1) y u ∙ append_assoc p.0 p.1 (y ++ u))) in
        (v ∷ more.0, rw whole (more_items h b.1 more.1), (i, more.2))

    joined : (t f x u : List ℕ) → t ≡ f ++ (x ++ u) → (vs : List V) × Listed A S (f ++ (x ++ u)) vs × Each F vs → (vs : List V) × Listed A S t vs × Each F vs
    joined t f x u e l = (l.0, rw e l.1, l.2)

    back : (t f y : List ℕ) → t ≡ f ++ y → Says T r f → Says T (seq (many (seq q r)) (optional q)) y → (vs : List V) × Listed A S t vs × Each F vs
    back t f y e h k =
        let n = seq_says (many (seq q r)) (optional q) y k in
        let c = a.from f h in
        joined t f n.0 n.1 (e ∙ ap (λ l. f ++ l) n.2) (listed_from n.0 f n.1 c.0 c.1 c.2 (many_says (seq q r) n.3) (alt_says q empty n.1 n.4))

    pub listed_described : Describes T (Listed A S) (Each F) (listed r q)
    listed_described = record {
      into = λ t v h i. let m = listed_into h i in says_seq r (seq (many (seq q r)) (optional q)) m.0 (m.1 ++ m.2) t m.3 m.4 (says_seq (many (seq q r)) (optional q) m.1 m.2 (m.1 ++ m.2) refl (says_many (seq q r) m.5) m.6);
      from = λ t h. let m = seq_says r (seq (many (seq q r)) (optional q)) t h in back t m.0 m.1 m.2 m.3 m.4;
    }

  -- ---- endings

  -- what the rule says of a prefix, said of the grammar
  pub ends_by : {V : Type 0} {A : List ℕ → V → Type 0} {F : V → Type 0} {r : Rule} → Describes T A F r → (p : List ℕ) (es : List (List ℕ)) → SaidBy T r p es → EndsBy A F p es
  ends_by d p [] h = h
  ends_by d p (e ∷ es) (inl h) = inl (d.from (p ++ e) h)
  ends_by d p (e ∷ es) (inr h) = inr (ends_by d p es h)
