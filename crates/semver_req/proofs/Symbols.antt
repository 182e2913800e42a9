-- Numbers as one symbol: a rule whose texts are words, in which 256 stands for a number. Which numbers there are is left open, so what is computed of a
-- rule holds of loose and of strict ones, of any size or such as fit.
use Rattle.std.proofs.Common.{◌≡◌, ◌<◌, ℕ, Bool, true, false, ◌&&◌, ◌||◌, List, [], ◌∷◌, ◌++◌, ◌⊎◌, inl, inr, ltb, eqb, refl, sym, ap, subst, ◌∙◌, append_assoc, append-nil, arith, codes}
use Rattle.std.proofs.lemmas.Bool.{and_parts, both_ways, or_cases, eqb-true, ltb-true}
use Rattle.semver_base.specs.GrammarLaws.{Fronts, fronts, same, shorter, longer}
use Rattle.semver_req.proofs.Rules.{Rule, Holds}
use Rattle.semver_req.proofs.States.{Starts, State, HoldsAny, some_nullable, some_from, one_of, next, after, after_append, after_from, after_into, is_inside, not_inside}

abbrev pub sign : ℕ
sign = 256

-- with a number there is what it begins with, and there is `1`
pub record AreNumbers (T : List ℕ → Type 0) : Type 0 where
  pub shorter : (x : ℕ) (p u : List ℕ) → T ((x ∷ p) ++ u) → T (x ∷ p)
  pub one : T (codes "1")

-- the text that a word spells
pub data Spells (T : List ℕ → Type 0) : List ℕ → List ℕ → Type 0 where
  done : {w t : List ℕ} → w ≡ [] → t ≡ [] → Spells T w t
  a_byte : {w t : List ℕ} (x : ℕ) (v s : List ℕ) → w ≡ x ∷ v → x < sign → t ≡ x ∷ s → Spells T v s → Spells T w t
  a_number : {w t : List ℕ} (v n s : List ℕ) → w ≡ sign ∷ v → t ≡ n ++ s → T n → Spells T v s → Spells T w t

-- a text of the rule
pub record Says (T : List ℕ → Type 0) (r : Rule) (t : List ℕ) : Type 0 where
  pub written : List ℕ
  pub holds : Holds r written
  pub spells : Spells T written t

pub spells_append : {T : List ℕ → Type 0} {v t : List ℕ} (w u : List ℕ) → Spells T v t → Spells T w u → Spells T (v ++ w) (t ++ u)
spells_append w u (done e f) k = rw (e, f) k
spells_append w u (a_byte x v s e l f h) k = a_byte x (v ++ w) (s ++ u) (ap (λ z. z ++ w) e) l (ap (λ z. z ++ u) f) (spells_append w u h k)
spells_append w u (a_number v n s e f h i) k = a_number (v ++ w) n (s ++ u) (ap (λ z. z ++ w) e) (ap (λ z. z ++ u) f ∙ append_assoc n s u) h (spells_append w u i k)

-- ---- endings

-- the ending may follow; a `1` in it is a number, or else that byte
abbrev pub ends_with : State → List ℕ → Bool
ends_with s [] = some_nullable s
ends_with s (x ∷ e) = (ltb x sign && ends_with (next s x) e) || (eqb x 49 && ends_with (next s sign) e)

abbrev pub ends_one : List (List ℕ) → State → Bool
ends_one [] s = false
ends_one (e ∷ es) s = ends_with s e || ends_one es s

abbrev pub none_or_one : List (List ℕ) → State → Bool
none_or_one es [] = true
none_or_one es (r ∷ rs) = ends_one es (r ∷ rs)

-- nothing may follow, or one of the endings, or only the rest of a character; and so it is behind one more number
abbrev pub is_ended : List (List ℕ) → State → Bool
is_ended es s = (none_or_one es s || is_inside s) && none_or_one es (next s sign)

-- with one of the endings behind it the prefix is a text
abbrev pub SaidBy : (List ℕ → Type 0) → Rule → List ℕ → List (List ℕ) → Type 0
SaidBy T r p [] = ⊥
SaidBy T r p (e ∷ es) = Says T r (p ++ e) ⊎ SaidBy T r p es

some_end : (es : List (List ℕ)) (s : State) (u : List ℕ) → HoldsAny s u → none_or_one es s ≡ true → ends_one es s ≡ true
some_end es [] u h k = absurd h
some_end es (q ∷ qs) u h k = k

module _ {T : List ℕ → Type 0} (are : AreNumbers T) where
  ended_word : (s : State) (e : List ℕ) → ends_with s e ≡ true → (w : List ℕ) × Spells T w e × HoldsAny s w
  ended_word s [] h = ([], done refl refl, some_from s h)
  ended_word s (x ∷ e) h = elim (or_cases (ltb x sign && ends_with (next s x) e) (eqb x 49 && ends_with (next s sign) e) h) [
    | inl k ↦
        let both = and_parts (ltb x sign) (ends_with (next s x) e) k in
        let w = ended_word (next s x) e both.1 in
        (x ∷ w.0, a_byte x w.0 e refl (ltb-true x sign both.0) refl w.1, after_from s (x ∷ []) w.0 w.2)
    | inr k ↦
        let both = and_parts (eqb x 49) (ends_with (next s sign) e) k in
        let w = ended_word (next s sign) e both.1 in
        (sign ∷ w.0, a_number w.0 (49 ∷ []) e refl (ap (λ z. z ∷ e) (eqb-true x 49 both.0)) are.one w.1, after_from s (sign ∷ []) w.0 w.2)
  ]

  ends_so : (r : Rule) (b p : List ℕ) → Spells T b p → (es : List (List ℕ)) → ends_one es (after (r ∷ []) b) ≡ true → SaidBy T r p es
  ends_so r b p s [] h = absurd (both_ways false refl h)
  ends_so r b p s (e ∷ es) h = elim (or_cases (ends_with (after (r ∷ []) b) e) (ends_one es (after (r ∷ []) b)) h) [
    | inl k ↦
        let w = ended_word (after (r ∷ []) b) e k in
        inl (record { written = b ++ w.0; holds = one_of r (b ++ w.0) (after_from (r ∷ []) b w.0 w.2); spells = spells_append w.0 e s w.1 })
    | inr k ↦ inr (ends_so r b p s es k)
  ]

  -- the empty prefix
  pub begun : (es : List (List ℕ)) (r : Rule) → ends_one es (r ∷ []) ≡ true → SaidBy T r [] es
  begun es r h = ends_so r [] [] (done refl refl) es h

  -- the prefix is spelled by a prefix of the word; if a number is cut, by one with a whole number there
  record Cut (w p u : List ℕ) : Type 0 where
    before : List ℕ
    behind : List ℕ
    word_is : w ≡ before ++ behind
    spelled : Spells T before p
    starts : (Starts u → Starts behind) ⊎ ((b : List ℕ) × (before ≡ b ++ (sign ∷ [])))

  plain_start : (v : List ℕ) → Starts (sign ∷ v)
  plain_start v l = omega arith

  spells_start : {w u : List ℕ} → Spells T w u → Starts u → Starts w
  spells_start {w} (done e f) s = rw e tt
  spells_start {w} {u} (a_byte x v t e l f h) s = rw e (rw f at s)
  spells_start {w} (a_number v n t e f h k) s = rw e (plain_start v)

  behind_one : (v u : List ℕ) {b : List ℕ} (x : ℕ) → (Starts u → Starts v) ⊎ ((c : List ℕ) × (b ≡ c ++ (sign ∷ []))) → (Starts u → Starts v) ⊎ ((c : List ℕ) × (x ∷ b ≡ c ++ (sign ∷ [])))
  behind_one v u x (inl h) = inl h
  behind_one v u x (inr h) = inr (x ∷ h.0, ap (λ l. x ∷ l) h.1)

  cut : {w : List ℕ} (p u t : List ℕ) → Spells T w t → t ≡ p ++ u → Cut w p u
  cut {w} [] u t h e = record { before = []; behind = w; word_is = refl; spelled = done refl refl; starts = inl (spells_start (rw e at h)) }
  cut {w} (y ∷ p) u t (done f g) e = absurd (cc (e, g))
  cut {w} (y ∷ p) u t (a_byte x v s f l g h) e =
      let whole : x ∷ s ≡ y ∷ (p ++ u) = sym g ∙ e in
      let first : x ≡ y = cc whole in
      let rest : s ≡ p ++ u = cc whole in
      let c = cut p u s h rest in
      record { before = x ∷ c.before; behind = c.behind; word_is = f ∙ ap (λ l. x ∷ l) c.word_is; spelled = a_byte x c.before p refl l (ap (λ z. z ∷ p) (sym first)) c.spelled; starts = behind_one c.behind u x c.starts }
  cut {w} (y ∷ p) u t (a_number v n s f g h k) e = go (fronts n (y ∷ p) s u (sym g ∙ e)) (λ q r. cut q u s k r)
    where
      go : Fronts n (y ∷ p) s u → ((q : List ℕ) → s ≡ q ++ u → Cut v q u) → Cut w (y ∷ p) u
      go (same one two) more = record { before = sign ∷ []; behind = v; word_is = f; spelled = a_number [] n [] refl (sym one ∙ sym (append-nil n)) h (done refl refl); starts = inl (spells_start (rw two at k)) }
      go (shorter z m one two) more =
          let c = more (z ∷ m) two in
          record { before = sign ∷ c.before; behind = c.behind; word_is = f ∙ ap (λ l. sign ∷ l) c.word_is; spelled = a_number c.before n (z ∷ m) refl one h c.spelled; starts = behind_one c.behind u sign c.starts }
      go (longer z m one two) more =
          let part : T (y ∷ p) = are.shorter y p (z ∷ m) (rw one at h) in
          record { before = sign ∷ []; behind = v; word_is = f; spelled = a_number [] (y ∷ p) [] refl (sym (append-nil (y ∷ p))) part (done refl refl); starts = inr ([], refl) }

  module _ (es : List (List ℕ)) (r : Rule) (each_ended : (b : List ℕ) → is_ended es (after (r ∷ []) b) ≡ true) where
    ended_at : (b : List ℕ) → ((none_or_one es (after (r ∷ []) b) || is_inside (after (r ∷ []) b)) ≡ true) × (none_or_one es (next (after (r ∷ []) b) sign) ≡ true)
    ended_at b = and_parts (none_or_one es (after (r ∷ []) b) || is_inside (after (r ∷ []) b)) (none_or_one es (next (after (r ∷ []) b) sign)) (each_ended b)

    -- what ends with a number
    number_ended : (b v q : List ℕ) → Holds r ((b ++ (sign ∷ [])) ++ v) → Spells T (b ++ (sign ∷ [])) q → SaidBy T r q es
    number_ended b v q k s =
        let c = b ++ (sign ∷ []) in
        let behind_number : none_or_one es (after (r ∷ []) c) ≡ true = subst (λ d. none_or_one es d ≡ true) (sym (after_append (r ∷ []) b (sign ∷ []))) (ended_at b).1 in
        ends_so r c q s es (some_end es (after (r ∷ []) c) v (after_into (r ∷ []) c v (inl k)) behind_number)

    at_cut : (b v p : List ℕ) → Starts v → Holds r (b ++ v) → Spells T b p → SaidBy T r p es
    at_cut b v p i k s = elim (or_cases (none_or_one es (after (r ∷ []) b)) (is_inside (after (r ∷ []) b)) (ended_at b).0) [
      | inl none ↦ ends_so r b p s es (some_end es (after (r ∷ []) b) v (after_into (r ∷ []) b v (inl k)) none)
      | inr inside ↦ absurd (not_inside (after (r ∷ []) b) v i (after_into (r ∷ []) b v (inl k)) inside)
    ]

    -- what begins a text, cut where a character begins, is a text with one of the endings
    pub ended : (p u : List ℕ) → Starts u → Says T r (p ++ u) → SaidBy T r p es
    ended p u s k = let c = cut p u (p ++ u) k.spells refl in go c (rw c.word_is at k.holds) c.starts
      where
        go : (c : Cut k.written p u) → Holds r (c.before ++ c.behind) → (Starts u → Starts c.behind) ⊎ ((b : List ℕ) × (c.before ≡ b ++ (sign ∷ []))) → SaidBy T r p es
        go c h (inl w) = at_cut c.before c.behind p (w s) h c.spelled
        go c h (inr w) = number_ended w.0 c.behind p (rw w.1 at h) (rw w.1 at c.spelled)

    -- ---- bytes that may stand for one another

    module _ (d e : ℕ) (plain : d < sign) (also : e < sign) (exchanged : (p u : List ℕ) → T (p ++ (d ∷ u)) → T (p ++ (e ∷ []))) where
      -- where the word spells d: as a byte, or in a number, which may end with e there
      data Place (w p u : List ℕ) : Type 0 where
        as_byte : (b v : List ℕ) → w ≡ b ++ (d ∷ v) → Spells T b p → Spells T v u → Place w p u
        in_number : (b v : List ℕ) → w ≡ (b ++ (sign ∷ [])) ++ v → Spells T (b ++ (sign ∷ [])) (p ++ (e ∷ [])) → Place w p u

      later_byte : {w v p u : List ℕ} (x : ℕ) → w ≡ x ∷ v → x < sign → Place v p u → Place w (x ∷ p) u
      later_byte {p = p} x f l (as_byte b v g h k) = as_byte (x ∷ b) v (f ∙ ap (λ z. x ∷ z) g) (a_byte x b p refl l refl h) k
      later_byte {p = p} x f l (in_number b v g h) = in_number (x ∷ b) v (f ∙ ap (λ z. x ∷ z) g) (a_byte x (b ++ (sign ∷ [])) (p ++ (e ∷ [])) refl l refl h)

      later_number : {w v p q u : List ℕ} (n : List ℕ) → w ≡ sign ∷ v → T n → q ≡ n ++ p → Place v p u → Place w q u
      later_number {p = p} n f i j (as_byte b v g h k) = as_byte (sign ∷ b) v (f ∙ ap (λ z. sign ∷ z) g) (a_number b n p refl j i h) k
      later_number {p = p} n f i j (in_number b v g h) = in_number (sign ∷ b) v (f ∙ ap (λ z. sign ∷ z) g) (a_number (b ++ (sign ∷ [])) n (p ++ (e ∷ [])) refl (ap (λ z. z ++ (e ∷ [])) j ∙ append_assoc n p (e ∷ [])) i h)

      place : {w : List ℕ} (p u t : List ℕ) → Spells T w t → t ≡ p ++ (d ∷ u) → Place w p u
      place [] u t (done f g) k = cc (k, g)
      place (y ∷ p) u t (done f g) k = cc (k, g)
      place {w} [] u t (a_byte x v s f l g h) k =
          let whole : x ∷ s ≡ d ∷ u = sym g ∙ k in
          let first : x ≡ d = cc whole in
          let rest : s ≡ u = cc whole in
          as_byte [] v (f ∙ ap (λ z. z ∷ v) first) (done refl refl) (rw rest at h)
      place {w} (y ∷ p) u t (a_byte x v s f l g h) k =
          let whole : x ∷ s ≡ y ∷ (p ++ (d ∷ u)) = sym g ∙ k in
          let first : x ≡ y = cc whole in
          let rest : s ≡ p ++ (d ∷ u) = cc whole in
          rw first at (later_byte x f l (place p u s h rest))
      place {w} p u t (a_number v n s f g h i) k = go (fronts n p s (d ∷ u) (sym g ∙ k)) (λ q j. place q u s i j)
        where
          go : Fronts n p s (d ∷ u) → ((q : List ℕ) → s ≡ q ++ (d ∷ u) → Place v q u) → Place w p u
          go (same one two) more = later_number n f h (sym one ∙ sym (append-nil n)) (more [] two)
          go (shorter z m one two) more = later_number n f h one (more (z ∷ m) two)
          go (longer z m one two) more =
              let first : z ≡ d = cc two in
              let cut_number : T (p ++ (e ∷ [])) = exchanged p m (rw first at (rw one at h)) in
              in_number [] v f (a_number [] (p ++ (e ∷ [])) [] refl (sym (append-nil (p ++ (e ∷ [])))) cut_number (done refl refl))

      -- where d stands behind a prefix, so may e: what follows stays, or is one of the endings
      pub exchange : ((b v : List ℕ) → Holds r (b ++ (d ∷ v)) → Holds r (b ++ (e ∷ v))) → (p u : List ℕ) → Says T r (p ++ (d ∷ u)) → Says T r (p ++ (e ∷ u)) ⊎ SaidBy T r (p ++ (e ∷ [])) es
      exchange swap p u k = go (place p u (p ++ (d ∷ u)) k.spells refl)
        where
          go : Place k.written p u → Says T r (p ++ (e ∷ u)) ⊎ SaidBy T r (p ++ (e ∷ [])) es
          go (as_byte b v g h i) = inl (record { written = b ++ (e ∷ v); holds = swap b v (rw g at k.holds); spells = spells_append (e ∷ v) (e ∷ u) h (a_byte e v u refl also refl i) })
          go (in_number b v g h) = inr (number_ended b v (p ++ (e ∷ [])) (rw g at k.holds) h)
