-- Facts of grammars that are computed of rules: with which bytes texts begin and go on, of which they are made, what can't follow them, and which
-- grammars have no text in common. Each text of the grammar has to be one of the rule; a rule with more texts does.
use Rattle.std.proofs.Common.{◌≡◌, ◌<◌, ℕ, Bool, true, false, not, ◌&&◌, ◌||◌, List, [], ◌∷◌, ◌++◌, inl, inr, refl, sym, ap, subst, ◌∙◌, append-nil, arith}
use Rattle.std.proofs.lemmas.Bool.{and_from, both_ways, false_from_ne_true, not_from_true, or_cases}
use Rattle.std.proofs.lemmas.Bool.Decides.{nat_tests}
use Rattle.semver_base.specs.GrammarLaws.{Apart, NonEmpty}
use Rattle.semver_base.specs.ByteLaws.{BeginsBy, GoesBy, MadeOf, list_all-wider}
use Rattle.semver_base.specs.ValueLaws.{Never}
use Rattle.semver_req.proofs.Rules.{Bytes, has, minus, is_void, overlap, all_bytes, Rule, empty, byte, seq, alt, many, unless, Many, no_more, one_more, Holds, nullable, steps, firsts, is_made, letter, some}
use Rattle.semver_req.proofs.RuleLaws.{firsts_there, made, made_all, overlap_there, minus_into, nullable_into, steps_into, within}
use Rattle.semver_req.proofs.RuleTexts.{Describes, alt_says, bytes, many_says, none_spelled, one_has, said_ground, seq_says}
use Rattle.semver_req.proofs.States.{State, after, after_into, all_into, all_steps, each, failing, some_into, some_nullable}
use Rattle.semver_req.proofs.Symbols.{sign, Spells, done, a_byte, a_number, Says}

-- ---- digits for each number

abbrev signs : Bytes
signs = (256, 257) ∷ []

abbrev plain_byte : Bool → Bytes → Rule
plain_byte true s = alt (byte (minus s signs)) (some (byte ((48, 58) ∷ [])))
plain_byte false s = byte s

-- a condition on the first byte stays where no number is
abbrev plain_unless : Bool → Bytes → Rule → Rule → Rule
plain_unless true s a p = unless s a
plain_unless false s a p = p

abbrev pub plain : Rule → Rule
plain empty = empty
plain (byte s) = plain_byte (has s sign) s
plain (seq a b) = seq (plain a) (plain b)
plain (alt a b) = alt (plain a) (plain b)
plain (many a) = many (plain a)
plain (unless s a) = plain_unless (is_made a bytes) s a (plain a)

module _ {T : List ℕ → Type 0} (number : (t : List ℕ) → T t → Holds (some (byte ((48, 58) ∷ []))) t) where
  plain_holds_byte : (b : Bool) (s : Bytes) → has s sign ≡ b → (x : ℕ) {w t : List ℕ} → Spells T w t → w ≡ x ∷ [] → has s x ≡ true → Holds (plain_byte b s) t
  plain_holds_byte b s e x (done f g) k h = cc (k, f)
  plain_holds_byte b s e x (a_byte y v u f l g i) k h = go b (g ∙ cc (y_is, none_spelled i v_is)) (subst (λ z. z < sign) y_is l)
    where
      y_is : y ≡ x
      y_is = cc (sym f ∙ k)

      v_is : v ≡ []
      v_is = cc (sym f ∙ k)

      no_sign : (x : ℕ) → x < sign → has signs x ≡ true → ⊥
      no_sign x l h = grind (arith, nat_tests)

      go : (b : Bool) {t : List ℕ} → t ≡ x ∷ [] → x < sign → Holds (plain_byte b s) t
      go true is l = inl (x, is, minus_into s signs x h (false_from_ne_true (has signs x) (no_sign x l)))
      go false is l = (x, is, h)
  plain_holds_byte b s e x {t = t} (a_number v n u f g i j) k h = go b e
    where
      x_is : sign ≡ x
      x_is = cc (sym f ∙ k)

      whole : t ≡ n
      whole = g ∙ (ap (λ z. n ++ z) (none_spelled j (cc (sym f ∙ k))) ∙ append-nil n)

      go : (b : Bool) → has s sign ≡ b → Holds (plain_byte b s) t
      go true e = inr (rw whole (number n i))
      go false e = absurd (both_ways (has s sign) e (rw x_is h))

  many_plain : (a : Rule) → ((t : List ℕ) → Says T a t → Holds (plain a) t) → {t : List ℕ} → Many (Says T a) t → Many (Holds (plain a)) t
  many_plain a w (no_more e) = no_more e
  many_plain a w (one_more x y e h k) = one_more x y e (w x h) (many_plain a w k)

  -- each text of a rule is one with digits for its numbers
  plain_holds : (r : Rule) (t : List ℕ) → Says T r t → Holds (plain r) t
  plain_holds empty t h = none_spelled h.spells h.holds
  plain_holds (byte s) t h = plain_holds_byte (has s sign) s refl h.holds.0 h.spells h.holds.1 h.holds.2
  plain_holds (seq a b) t h = let s = seq_says a b t h in (s.0, s.1, s.2, plain_holds a s.0 s.3, plain_holds b s.1 s.4)
  plain_holds (alt a b) t h = elim (alt_says a b t h) [ inl k ↦ inl (plain_holds a t k) | inr k ↦ inr (plain_holds b t k) ]
  plain_holds (many a) t h = many_plain a (λ u k. plain_holds a u k) (many_says a h)
  plain_holds (unless s a) t h = go (is_made a bytes) refl (plain_holds a t (record { written = h.written; holds = h.holds.1; spells = h.spells }))
    where
      go : (b : Bool) → is_made a bytes ≡ b → Holds (plain a) t → Holds (plain_unless b s a (plain a)) t
      go true e k = said_ground (unless s a) e t h
      go false e k = k

-- ---- grammars whose texts are all texts of a rule

pub record IsUnder {V : Type 0} (A : List ℕ → V → Type 0) (r : Rule) : Type 0 where
  pub into : (t : List ℕ) (v : V) → A t v → Holds r t

pub under : {V : Type 0} {A : List ℕ → V → Type 0} {F : V → Type 0} {T : List ℕ → Type 0} {r : Rule} → ((t : List ℕ) → T t → Holds (some (byte ((48, 58) ∷ []))) t) → Describes T A F r → ((v : V) → F v) → IsUnder A (plain r)
under {r = r} number d all = record { into = λ t v h. plain_holds number r t (d.into t v h (all v)) }

-- a text of the rule goes on to a longer one with the byte
record Continues (r : Rule) (x : ℕ) (t : List ℕ) : Type 0 where
  ends : some_nullable (after (r ∷ []) t) ≡ true
  goes : has (firsts (all_steps (after (r ∷ []) t))) x ≡ true

continues : (r : Rule) (t : List ℕ) (x : ℕ) (more : List ℕ) → Holds r t → Holds r (t ++ (x ∷ more)) → Continues r x t
continues r t x more h k =
    let st = after (r ∷ []) t in
    record {
      ends = some_into st (after_into (r ∷ []) t [] (inl (subst (Holds r) (sym (append-nil t)) h)));
      goes = firsts_there (all_steps st) x more (all_into st x more (after_into (r ∷ []) t (x ∷ more) (inl k)));
    }

-- where a text may end, it goes on with bytes of the set only
abbrev pub is_going : Bytes → State → Bool
is_going s st = not (some_nullable st) || is_void (minus (firsts (all_steps st)) s)

goes_on : (r : Rule) (s : Bytes) → failing (is_going s) r ≡ [] → (t : List ℕ) (x : ℕ) → Continues r x t → has s x ≡ true
goes_on r s e t x c =
    let st = after (r ∷ []) t in
    elim (or_cases (not (some_nullable st)) (is_void (minus (firsts (all_steps st)) s)) (each (is_going s) r e t)) [
      | inl ends ↦ absurd (both_ways (not (some_nullable st)) (not_from_true (some_nullable st) c.ends) ends)
      | inr void ↦ within (firsts (all_steps st)) s void x c.goes
    ]

-- where a text may end, it doesn't go on with bytes of the set
abbrev pub is_apart : Bytes → State → Bool
is_apart s st = not (some_nullable st && overlap (firsts (all_steps st)) s)

never_on : (r : Rule) (s : Bytes) → failing (is_apart s) r ≡ [] → (t : List ℕ) (x : ℕ) → Continues r x t → has s x ≡ true → ⊥
never_on r s e t x c h =
    let st = after (r ∷ []) t in
    let first = firsts (all_steps st) in
    both_ways (not (some_nullable st && overlap first s)) (not_from_true (some_nullable st && overlap first s) (and_from (some_nullable st) (overlap first s) c.ends (overlap_there first s x c.goes h))) (each (is_apart s) r e t)

-- the texts of each of two rules, with a mark behind them
abbrev pub marked : Rule → Rule → Rule
marked a b = alt (seq a (letter 257)) (seq b (letter 258))

abbrev pub one_mark : State → Bool
one_mark st = not (has (firsts (all_steps st)) 257 && has (firsts (all_steps st)) 258)

pub no_common : (a b : Rule) → failing one_mark (marked a b) ≡ [] → (t : List ℕ) → Holds a t → Holds b t → ⊥
no_common a b e t h k =
    let st = after (marked a b ∷ []) t in
    let first = firsts_there (all_steps st) 257 [] (all_into st 257 [] (after_into (marked a b ∷ []) t (257 ∷ []) (inl (inl (t, 257 ∷ [], refl, h, (257, refl, one_has 257)))))) in
    let second = firsts_there (all_steps st) 258 [] (all_into st 258 [] (after_into (marked a b ∷ []) t (258 ∷ []) (inl (inr (t, 258 ∷ [], refl, k, (258, refl, one_has 258)))))) in
    let two = and_from (has (firsts (all_steps st)) 257) (has (firsts (all_steps st)) 258) first second in
    both_ways (not (has (firsts (all_steps st)) 257 && has (firsts (all_steps st)) 258)) (not_from_true (has (firsts (all_steps st)) 257 && has (firsts (all_steps st)) 258) two) (each one_mark (marked a b) e t)

outside : (s : Bytes) (x : ℕ) → (has s x ≡ true → ⊥) → not (has s x) ≡ true
outside s x never = ap not (false_from_ne_true (has s x) never)

module _ {V : Type 0} {A : List ℕ → V → Type 0} {r : Rule} (a : IsUnder A r) where
  pub some_by : nullable r ≡ false → NonEmpty A
  some_by e = record { some = λ v h. both_ways (nullable r) e (nullable_into r (a.into [] v h)) }

  pub begins_first : BeginsBy A (has (firsts (steps r)))
  begins_first = record { begins = λ x b. firsts_there (steps r) x b.more (steps_into r x b.more (a.into (x ∷ b.more) b.value b.stands)) }

  pub made_of_all : MadeOf A (has (all_bytes r))
  made_of_all = record { made = λ t v h. made_all r t (a.into t v h) }

  pub begins_in : (p : ℕ → Bool) (s : Bytes) → ((x : ℕ) → has s x ≡ true → p x ≡ true) → is_void (minus (firsts (steps r)) s) ≡ true → BeginsBy A p
  begins_in p s w e = record { begins = λ x b. w x (within (firsts (steps r)) s e x (begins_first.begins x b)) }

  pub made_in : (p : ℕ → Bool) (s : Bytes) → ((x : ℕ) → has s x ≡ true → p x ≡ true) → is_made r s ≡ true → MadeOf A p
  made_in p s w e = record { made = λ t v h. list_all-wider (has s) p w t (made r s e t (a.into t v h)) }

  pub goes_in : (p : ℕ → Bool) (s : Bytes) → ((x : ℕ) → has s x ≡ true → p x ≡ true) → failing (is_going s) r ≡ [] → GoesBy A p
  goes_in p s w e = record { goes = λ x o. w x (goes_on r s e o.front x (continues r o.front x o.more (a.into o.front o.short_value o.short) (a.into (o.front ++ (x ∷ o.more)) o.long_value o.long))) }

  -- where a text may end, it doesn't go on with bytes of the set
  pub goes_without : (s : Bytes) → failing (is_apart s) r ≡ [] → GoesBy A (λ x. not (has s x))
  goes_without s e = record { goes = λ x o. outside s x (never_on r s e o.front x (continues r o.front x o.more (a.into o.front o.short_value o.short) (a.into (o.front ++ (x ∷ o.more)) o.long_value o.long))) }

  -- no text has a byte of the set
  pub made_without : (s : Bytes) → overlap (all_bytes r) s ≡ false → MadeOf A (λ x. not (has s x))
  made_without s e = record { made = λ t v h. list_all-wider (has (all_bytes r)) (λ x. not (has s x)) (λ x k. outside s x (λ l. both_ways (overlap (all_bytes r) s) e (overlap_there (all_bytes r) s x k l))) t (made_all r t (a.into t v h)) }

  module _ {W : Type 0} {B : List ℕ → W → Type 0} {q : Rule} (b : IsUnder B q) where
    -- where a text of A goes on, no text of B begins
    pub apart_from : failing (is_apart (firsts (steps q))) r ≡ [] → Apart A B
    apart_from e = record { apart = λ x o n. never_on r (firsts (steps q)) e o.front x (continues r o.front x o.more (a.into o.front o.short_value o.short) (a.into (o.front ++ (x ∷ o.more)) o.long_value o.long)) (firsts_there (steps q) x n.more (steps_into q x n.more (b.into (x ∷ n.more) n.value n.stands))) }

    pub never_both : failing one_mark (marked r q) ≡ [] → Never A B
    never_both e = record { both = λ t v w h k. no_common r q e t (a.into t v h) (b.into t w k) }
