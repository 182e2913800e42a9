-- What the computations of rules say of their texts.
use Rattle.std.proofs.Common.{◌≡◌, ◌≤◌, ◌<◌, ℕ, Bool, true, false, ◌&&◌, List, [], ◌∷◌, ◌++◌, ◌⊎◌, inl, inr, leb, ltb, eqb, min, max, refl, sym, ap, ◌∙◌, arith}
use Rattle.std.specs.List.{list_all}
use Rattle.std.proofs.lemmas.Bool.{and_from, and_parts, both_ways, cases_Bool, or_cases, or_left, or_right, false_from_ne_true, eqb-true, leb-true, le-leb, ltb-true, lt-ltb, ltb-false, or_parts, or_from}
use Rattle.semver_req.proofs.Rules.{Bytes, has, meets, overlap, take_out, minus, is_void, Rule, empty, byte, seq, alt, many, unless, Many, no_more, one_more, Holds, nullable, Steps, join, behind, without, only, steps, Goes, firsts, same_bytes, same_rule, all_bytes, is_made}

-- ---- sets

meets_there : (s : Bytes) (q : ℕ × ℕ) (x : ℕ) → has s x ≡ true → leb q.0 x ≡ true → ltb x q.1 ≡ true → meets s q ≡ true
meets_there [] q x h k l = h
meets_there (r ∷ rs) q x h k l = elim (or_cases (leb r.0 x && ltb x r.1) (has rs x) h) [
  | inl here ↦
      let both = and_parts (leb r.0 x) (ltb x r.1) here in
      let low : r.0 ≤ x = leb-true r.0 x both.0 in
      let high : x < r.1 = ltb-true x r.1 both.1 in
      let from : q.0 ≤ x = leb-true q.0 x k in
      let to : x < q.1 = ltb-true x q.1 l in
      or_left _ (meets rs q) (and_from (ltb q.0 r.1) _ (lt-ltb q.0 r.1 (omega arith)) (lt-ltb r.0 q.1 (omega arith)))
  | inr there ↦ or_right _ (meets rs q) (meets_there rs q x there k l)
]

pub overlap_there : (s t : Bytes) (x : ℕ) → has s x ≡ true → has t x ≡ true → overlap s t ≡ true
overlap_there s [] x h k = k
overlap_there s (q ∷ qs) x h k = elim (or_cases (leb q.0 x && ltb x q.1) (has qs x) k) [
  | inl here ↦ let both = and_parts (leb q.0 x) (ltb x q.1) here in or_left (meets s q) (overlap s qs) (meets_there s q x h both.0 both.1)
  | inr there ↦ or_right (meets s q) (overlap s qs) (overlap_there s qs x h there)
]

take_out_into : (r : ℕ × ℕ) (s : Bytes) (x : ℕ) → has s x ≡ true → (leb r.0 x && ltb x r.1) ≡ false → has (take_out r s) x ≡ true
take_out_into r [] x h k = h
take_out_into r (q ∷ qs) x h k = elim (or_cases (leb q.0 x && ltb x q.1) (has qs x) h) [
  | inl here ↦
      let both = and_parts (leb q.0 x) (ltb x q.1) here in
      let low : q.0 ≤ x = leb-true q.0 x both.0 in
      let high : x < q.1 = ltb-true x q.1 both.1 in
      elim (cases_Bool (ltb x r.0)) [
        | inl less ↦ let l : x < r.0 = ltb-true x r.0 less in or_left _ _ (and_from (leb q.0 x) _ both.0 (lt-ltb x (min q.1 r.0) (omega arith)))
        | inr not_less ↦ elim (cases_Bool (ltb x r.1)) [
          | inl in_it ↦ absurd (both_ways (leb r.0 x && ltb x r.1) k (and_from (leb r.0 x) (ltb x r.1) (le-leb r.0 x (ltb-false x r.0 not_less)) in_it))
          | inr above ↦ let up : r.1 ≤ x = ltb-false x r.1 above in or_right _ _ (or_left _ _ (and_from (leb (max q.0 r.1) x) _ (le-leb (max q.0 r.1) x (omega arith)) both.1))
        ]
      ]
  | inr there ↦ or_right _ _ (or_right _ _ (take_out_into r qs x there k))
]

take_out_from : (r : ℕ × ℕ) (s : Bytes) (x : ℕ) → has (take_out r s) x ≡ true → (has s x ≡ true) × ((leb r.0 x && ltb x r.1) ≡ false)
take_out_from r [] x h = absurd (both_ways false refl h)
take_out_from r (q ∷ qs) x h = elim (or_cases _ _ h) [
  | inl low ↦
      let both = and_parts (leb q.0 x) (ltb x (min q.1 r.0)) low in
      let l : x < min q.1 r.0 = ltb-true x (min q.1 r.0) both.1 in
      (or_left _ _ (and_from (leb q.0 x) _ both.0 (lt-ltb x q.1 (omega arith))), false_from_ne_true (leb r.0 x && ltb x r.1) (λ k. let n : r.0 ≤ x = leb-true r.0 x (and_parts (leb r.0 x) (ltb x r.1) k).0 in omega arith))
  | inr more ↦ elim (or_cases _ _ more) [
    | inl high ↦
        let both = and_parts (leb (max q.0 r.1) x) (ltb x q.1) high in
        let l : max q.0 r.1 ≤ x = leb-true (max q.0 r.1) x both.0 in
        (or_left _ _ (and_from (leb q.0 x) _ (le-leb q.0 x (omega arith)) both.1), false_from_ne_true (leb r.0 x && ltb x r.1) (λ k. let n : x < r.1 = ltb-true x r.1 (and_parts (leb r.0 x) (ltb x r.1) k).1 in omega arith))
    | inr there ↦ let rest = take_out_from r qs x there in (or_right _ _ rest.0, rest.1)
  ]
]

pub minus_into : (p s : Bytes) (x : ℕ) → has p x ≡ true → has s x ≡ false → has (minus p s) x ≡ true
minus_into p [] x h k = h
minus_into p (r ∷ rs) x h k = let both = or_parts (leb r.0 x && ltb x r.1) (has rs x) k in minus_into (take_out r p) rs x (take_out_into r p x h both.0) both.1

pub minus_from : (p s : Bytes) (x : ℕ) → has (minus p s) x ≡ true → (has p x ≡ true) × (has s x ≡ false)
minus_from p [] x h = (h, refl)
minus_from p (r ∷ rs) x h =
    let rest = minus_from (take_out r p) rs x h in
    let here = take_out_from r p x rest.0 in
    (here.0, or_from (leb r.0 x && ltb x r.1) (has rs x) here.1 rest.1)

void_none : (s : Bytes) (x : ℕ) → is_void s ≡ true → has s x ≡ true → ⊥
void_none [] x h k = both_ways false refl k
void_none (r ∷ rs) x h k =
    let void = and_parts (leb r.1 r.0) (is_void rs) h in
    elim (or_cases (leb r.0 x && ltb x r.1) (has rs x) k) [
      | inl here ↦
          let both = and_parts (leb r.0 x) (ltb x r.1) here in
          let low : r.0 ≤ x = leb-true r.0 x both.0 in
          let high : x < r.1 = ltb-true x r.1 both.1 in
          let none : r.1 ≤ r.0 = leb-true r.1 r.0 void.0 in
          omega arith
      | inr there ↦ void_none rs x void.1 there
    ]

-- each byte of s is one of t
pub within : (s t : Bytes) → is_void (minus s t) ≡ true → (x : ℕ) → has s x ≡ true → has t x ≡ true
within s t v x h = elim (cases_Bool (has t x)) [
  | inl there ↦ there
  | inr not_there ↦ absurd (void_none (minus s t) x v (minus_into s t x h not_there))
]

-- ---- steps

pub goes_left : (k l : Steps) (x : ℕ) (t : List ℕ) → Goes k x t → Goes (k ++ l) x t
goes_left [] l x t h = absurd h
goes_left (p ∷ k) l x t (inl h) = inl h
goes_left (p ∷ k) l x t (inr h) = inr (goes_left k l x t h)

pub goes_right : (k l : Steps) (x : ℕ) (t : List ℕ) → Goes l x t → Goes (k ++ l) x t
goes_right [] l x t h = h
goes_right (p ∷ k) l x t h = inr (goes_right k l x t h)

pub goes_cases : (k l : Steps) (x : ℕ) (t : List ℕ) → Goes (k ++ l) x t → Goes k x t ⊎ Goes l x t
goes_cases [] l x t h = inr h
goes_cases (p ∷ k) l x t (inl h) = inl (inl h)
goes_cases (p ∷ k) l x t (inr h) = elim (goes_cases k l x t h) [ inl g ↦ inl (inr g) | inr g ↦ inr g ]

join_into : (a b : Rule) (s u : List ℕ) → Holds a s → Holds b u → Holds (join a b) (s ++ u)
join_into empty b s u h k = rw h k
join_into (byte c) b s u h k = (s, u, refl, h, k)
join_into a b s u h k = (s, u, refl, h, k)

join_from : (a b : Rule) (t : List ℕ) → Holds (join a b) t → Holds (seq a b) t
join_from empty b t h = ([], t, refl, refl, h)
join_from (byte c) b t h = h
join_from a b t h = h

behind_into : (b : Rule) (l : Steps) (x : ℕ) (s u : List ℕ) → Goes l x s → Holds b u → Goes (behind b l) x (s ++ u)
behind_into b [] x s u h k = absurd h
behind_into b (p ∷ l) x s u (inl h) k = inl (h.0, join_into p.1 b s u h.1 k)
behind_into b (p ∷ l) x s u (inr h) k = inr (behind_into b l x s u h k)

behind_from : (b : Rule) (l : Steps) (x : ℕ) (t : List ℕ) → Goes (behind b l) x t → (s : List ℕ) × (u : List ℕ) × (t ≡ s ++ u) × Goes l x s × Holds b u
behind_from b [] x t h = absurd h
behind_from b (p ∷ l) x t (inl h) = let j = join_from p.1 b t h.1 in (j.0, j.1, j.2, inl (h.0, j.3), j.4)
behind_from b (p ∷ l) x t (inr h) = let j = behind_from b l x t h in (j.0, j.1, j.2, inr j.3, j.4)

without_into : (s : Bytes) (l : Steps) (x : ℕ) (t : List ℕ) → has s x ≡ false → Goes l x t → Goes (without s l) x t
without_into s [] x t h k = k
without_into s (p ∷ l) x t h (inl k) = inl (minus_into p.0 s x k.0 h, k.1)
without_into s (p ∷ l) x t h (inr k) = inr (without_into s l x t h k)

without_from : (s : Bytes) (l : Steps) (x : ℕ) (t : List ℕ) → Goes (without s l) x t → (has s x ≡ false) × Goes l x t
without_from s [] x t h = absurd h
without_from s (p ∷ l) x t (inl h) = let m = minus_from p.0 s x h.0 in (m.1, inl (m.0, h.1))
without_from s (p ∷ l) x t (inr h) = let m = without_from s l x t h in (m.0, inr m.1)

nil_parts : (a b : List ℕ) → [] ≡ a ++ b → (a ≡ []) × (b ≡ [])
nil_parts [] b e = (refl, sym e)
nil_parts (x ∷ a) b e = cc e

pub nullable_into : (r : Rule) → Holds r [] → nullable r ≡ true
nullable_into empty h = refl
nullable_into (byte s) h = let e = h.1 in cc e
nullable_into (seq a b) h = let nil = nil_parts h.0 h.1 h.2 in and_from (nullable a) (nullable b) (nullable_into a (rw nil.0 at h.3)) (nullable_into b (rw nil.1 at h.4))
nullable_into (alt a b) (inl h) = or_left (nullable a) (nullable b) (nullable_into a h)
nullable_into (alt a b) (inr h) = or_right (nullable a) (nullable b) (nullable_into b h)
nullable_into (many a) h = refl
nullable_into (unless s a) h = nullable_into a h.1

pub nullable_from : (r : Rule) → nullable r ≡ true → Holds r []
nullable_from empty h = refl
nullable_from (byte s) h = absurd (both_ways false refl h)
nullable_from (seq a b) h = let both = and_parts (nullable a) (nullable b) h in ([], [], refl, nullable_from a both.0, nullable_from b both.1)
nullable_from (alt a b) h = elim (or_cases (nullable a) (nullable b) h) [ inl k ↦ inl (nullable_from a k) | inr k ↦ inr (nullable_from b k) ]
nullable_from (many a) h = no_more refl
nullable_from (unless s a) h = (tt, nullable_from a h)

-- a text of many that isn't empty begins with one that isn't
many_first : {R : List ℕ → Type 0} {t : List ℕ} → Many R t → (x : ℕ) (rest : List ℕ) → t ≡ x ∷ rest → (a : List ℕ) × (b : List ℕ) × (rest ≡ a ++ b) × R (x ∷ a) × Many R b
many_first (no_more e) x rest f = cc (e, f)
many_first (one_more [] b e h k) x rest f = many_first k x rest (sym e ∙ f)
many_first {R} (one_more (y ∷ a) b e h k) x rest f =
    let joined : x ∷ rest ≡ (y ∷ a) ++ b = sym f ∙ e in
    let first : y ≡ x = cc joined in
    let others : rest ≡ a ++ b = cc joined in
    (a, b, others, rw first at h, k)

only_into : (c : Bool) (l : Steps) (x : ℕ) (t : List ℕ) → c ≡ true → Goes l x t → Goes (only c l) x t
only_into true l x t e h = h
only_into false l x t e h = absurd (both_ways false refl e)

only_from : (c : Bool) (l : Steps) (x : ℕ) (t : List ℕ) → Goes (only c l) x t → (c ≡ true) × Goes l x t
only_from true l x t h = (refl, h)
only_from false l x t h = absurd h

-- the steps of a rule are its texts that aren't empty
pub steps_into : (r : Rule) (x : ℕ) (t : List ℕ) → Holds r (x ∷ t) → Goes (steps r) x t
steps_into empty x t h = cc h
steps_into (byte s) x t h = let e = h.1 in let same : h.0 ≡ x = cc e in let nil : t ≡ [] = cc e in inl (rw same at h.2, nil)
steps_into (seq a b) x t (f, s, e, h, k) = go f e h (λ f g. steps_into a x f g) (λ g. steps_into b x t g)
  where
    go : (f : List ℕ) → x ∷ t ≡ f ++ s → Holds a f → ((f : List ℕ) → Holds a (x ∷ f) → Goes (steps a) x f) → (Holds b (x ∷ t) → Goes (steps b) x t) → Goes (behind b (steps a) ++ only (nullable a) (steps b)) x t
    go [] e h m n = goes_right (behind b (steps a)) (only (nullable a) (steps b)) x t (only_into (nullable a) (steps b) x t (nullable_into a h) (n (rw (← e) at k)))
    go (y ∷ f) e h m n =
        let same : y ≡ x = cc e in
        let rest : t ≡ f ++ s = cc e in
        rw rest (goes_left (behind b (steps a)) (only (nullable a) (steps b)) x (f ++ s) (behind_into b (steps a) x f s (m f (rw same at h)) k))
steps_into (alt a b) x t (inl h) = goes_left (steps a) (steps b) x t (steps_into a x t h)
steps_into (alt a b) x t (inr h) = goes_right (steps a) (steps b) x t (steps_into b x t h)
steps_into (many a) x t h =
    let m = many_first h x t refl in
    rw m.2 (behind_into (many a) (steps a) x m.0 m.1 (steps_into a x m.0 m.3) m.4)
steps_into (unless s a) x t h = without_into s (steps a) x t h.0 (steps_into a x t h.1)

pub steps_from : (r : Rule) (x : ℕ) (t : List ℕ) → Goes (steps r) x t → Holds r (x ∷ t)
steps_from empty x t h = absurd h
steps_from (byte s) x t (inl h) = (x, ap (λ l. x ∷ l) h.1, h.0)
steps_from (byte s) x t (inr h) = absurd h
steps_from (seq a b) x t h = elim (goes_cases (behind b (steps a)) (only (nullable a) (steps b)) x t h) [
  | inl g ↦ let m = behind_from b (steps a) x t g in (x ∷ m.0, m.1, ap (λ l. x ∷ l) m.2, steps_from a x m.0 m.3, m.4)
  | inr g ↦ let o = only_from (nullable a) (steps b) x t g in ([], x ∷ t, refl, nullable_from a o.0, steps_from b x t o.1)
]
steps_from (alt a b) x t h = elim (goes_cases (steps a) (steps b) x t h) [ inl g ↦ inl (steps_from a x t g) | inr g ↦ inr (steps_from b x t g) ]
steps_from (many a) x t h = let m = behind_from (many a) (steps a) x t h in one_more (x ∷ m.0) m.1 (ap (λ l. x ∷ l) m.2) (steps_from a x m.0 m.3) m.4
steps_from (unless s a) x t h = let w = without_from s (steps a) x t h in (w.0, steps_from a x t w.1)

-- ---- first bytes

has_append : (s t : Bytes) (x : ℕ) → (has s x ≡ true) ⊎ (has t x ≡ true) → has (s ++ t) x ≡ true
has_append [] t x (inl h) = absurd (both_ways false refl h)
has_append [] t x (inr h) = h
has_append (r ∷ s) t x (inl h) = elim (or_cases (leb r.0 x && ltb x r.1) (has s x) h) [
  | inl here ↦ or_left _ _ here
  | inr there ↦ or_right _ _ (has_append s t x (inl there))
]
has_append (r ∷ s) t x (inr h) = or_right _ _ (has_append s t x (inr h))

pub firsts_there : (l : Steps) (x : ℕ) (t : List ℕ) → Goes l x t → has (firsts l) x ≡ true
firsts_there [] x t h = absurd h
firsts_there (p ∷ l) x t (inl h) = has_append p.0 (firsts l) x (inl h.0)
firsts_there (p ∷ l) x t (inr h) = has_append p.0 (firsts l) x (inr (firsts_there l x t h))

-- ---- equal rules

same_bytes_is : (s t : Bytes) → same_bytes s t ≡ true → s ≡ t
same_bytes_is [] [] h = refl
same_bytes_is ((a, b) ∷ rs) ((c, d) ∷ qs) h =
    let both = and_parts (eqb a c) (eqb b d && same_bytes rs qs) h in
    let more = and_parts (eqb b d) (same_bytes rs qs) both.1 in
    let first : a ≡ c = eqb-true a c both.0 in
    let second : b ≡ d = eqb-true b d more.0 in
    let rest : rs ≡ qs = same_bytes_is rs qs more.1 in
    cc (first, second, rest)
same_bytes_is _ _ h = absurd (both_ways false refl h)

pub same_rule_is : (r q : Rule) → same_rule r q ≡ true → r ≡ q
same_rule_is empty empty h = refl
same_rule_is (byte s) (byte t) h = ap byte (same_bytes_is s t h)
same_rule_is (seq a b) (seq c d) h = let both = and_parts (same_rule a c) (same_rule b d) h in let p = same_rule_is a c both.0 in let q = same_rule_is b d both.1 in cc (p, q)
same_rule_is (alt a b) (alt c d) h = let both = and_parts (same_rule a c) (same_rule b d) h in let p = same_rule_is a c both.0 in let q = same_rule_is b d both.1 in cc (p, q)
same_rule_is (many a) (many b) h = ap many (same_rule_is a b h)
same_rule_is (unless s a) (unless t b) h = let both = and_parts (same_bytes s t) (same_rule a b) h in let p = same_bytes_is s t both.0 in let q = same_rule_is a b both.1 in cc (p, q)
same_rule_is _ _ h = absurd (both_ways false refl h)

-- ---- all bytes

made_append : (s : Bytes) (a b : List ℕ) → list_all (has s) a ≡ true → list_all (has s) b ≡ true → list_all (has s) (a ++ b) ≡ true
made_append s [] b h k = k
made_append s (x ∷ a) b h k = let both = and_parts (has s x) (list_all (has s) a) h in and_from (has s x) (list_all (has s) (a ++ b)) both.0 (made_append s a b both.1 k)

made_wider : (s u : Bytes) → ((x : ℕ) → has s x ≡ true → has u x ≡ true) → (a : List ℕ) → list_all (has s) a ≡ true → list_all (has u) a ≡ true
made_wider s u w [] h = refl
made_wider s u w (x ∷ a) h = let both = and_parts (has s x) (list_all (has s) a) h in and_from (has u x) (list_all (has u) a) (w x both.0) (made_wider s u w a both.1)

made_many : (s : Bytes) (R : List ℕ → Type 0) → ((t : List ℕ) → R t → list_all (has s) t ≡ true) → {t : List ℕ} → Many R t → list_all (has s) t ≡ true
made_many s R w (no_more e) = rw e refl
made_many s R w (one_more a b e h k) = rw e (made_append s a b (w a h) (made_many s R w k))

pub made_all : (r : Rule) (t : List ℕ) → Holds r t → list_all (has (all_bytes r)) t ≡ true
made_all empty t h = rw h refl
made_all (byte s) t h = rw h.1 (and_from (has s h.0) true h.2 refl)
made_all (seq a b) t h = rw h.2 (made_append (all_bytes (seq a b)) h.0 h.1
    (made_wider (all_bytes a) (all_bytes (seq a b)) (λ x k. has_append (all_bytes a) (all_bytes b) x (inl k)) h.0 (made_all a h.0 h.3))
    (made_wider (all_bytes b) (all_bytes (seq a b)) (λ x k. has_append (all_bytes a) (all_bytes b) x (inr k)) h.1 (made_all b h.1 h.4)))
made_all (alt a b) t (inl h) = made_wider (all_bytes a) (all_bytes (alt a b)) (λ x k. has_append (all_bytes a) (all_bytes b) x (inl k)) t (made_all a t h)
made_all (alt a b) t (inr h) = made_wider (all_bytes b) (all_bytes (alt a b)) (λ x k. has_append (all_bytes a) (all_bytes b) x (inr k)) t (made_all b t h)
made_all (many a) t h = made_many (all_bytes a) (Holds a) (λ u k. made_all a u k) h
made_all (unless s a) t h = made_all a t h.1

-- each byte of a text is in the set
pub made : (r : Rule) (s : Bytes) → is_made r s ≡ true → (t : List ℕ) → Holds r t → list_all (has s) t ≡ true
made r s h t k = made_wider (all_bytes r) s (within (all_bytes r) s h) t (made_all r t k)
