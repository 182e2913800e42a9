-- States of a rule's automaton: the rules of what may stand behind a prefix, its partial derivatives. There are finitely many states, so a check of
-- all of them is a check of all prefixes.
use Rattle.std.proofs.Common.{◌≡◌, ◌≤◌, ◌<◌, ℕ, zero, suc, Bool, true, false, not, ◌&&◌, ◌||◌, List, [], ◌∷◌, ◌++◌, ◌⊎◌, inl, inr, leb, ltb, eqb, max, cond, refl, sym, ap, ◌∙◌, append-nil, arith, reverse}
use Rattle.std.specs.List.{list_all}
use Rattle.std.proofs.lemmas.Bool.{and_parts, both_ways, or_cases, or_left, or_right, not_from_true, leb-true, leb-false, ltb-true, ltb-false, le-leb, lt-leb, lt-ltb, le-ltb, eqb-true, eq-eqb}
use Rattle.semver_req.proofs.Rules.{Bytes, has, minus, is_void, Rule, Holds, nullable, Steps, steps, Goes, firsts, same_rule}
use Rattle.semver_req.proofs.RuleLaws.{goes_cases, goes_left, goes_right, nullable_from, nullable_into, steps_into, steps_from, within, same_rule_is, firsts_there}

abbrev pub State : Type 0
State = List Rule

-- a text of one of the rules
abbrev pub HoldsAny : State → List ℕ → Type 0
HoldsAny [] t = ⊥
HoldsAny (r ∷ rs) t = Holds r t ⊎ HoldsAny rs t

abbrev pub some_nullable : State → Bool
some_nullable [] = false
some_nullable (r ∷ rs) = nullable r || some_nullable rs

pub some_into : (rs : State) → HoldsAny rs [] → some_nullable rs ≡ true
some_into [] h = absurd h
some_into (r ∷ rs) (inl h) = or_left (nullable r) (some_nullable rs) (nullable_into r h)
some_into (r ∷ rs) (inr h) = or_right (nullable r) (some_nullable rs) (some_into rs h)

pub some_from : (rs : State) → some_nullable rs ≡ true → HoldsAny rs []
some_from [] h = absurd (both_ways false refl h)
some_from (r ∷ rs) h = elim (or_cases (nullable r) (some_nullable rs) h) [ inl k ↦ inl (nullable_from r k) | inr k ↦ inr (some_from rs k) ]

pub one_of : (r : Rule) (t : List ℕ) → HoldsAny (r ∷ []) t → Holds r t
one_of r t (inl h) = h
one_of r t (inr h) = absurd h

-- ---- what may stand behind one more byte

abbrev pub is_in : Rule → State → Bool
is_in r [] = false
is_in r (q ∷ qs) = same_rule r q || is_in r qs

abbrev pub add_new : Bool → Bool → Rule → State → State
add_new true false r rs = r ∷ rs
add_new _ _ r rs = rs

abbrev pub derived : Steps → ℕ → State
derived [] x = []
derived (p ∷ l) x = let rest = derived l x in add_new (has p.0 x) (is_in p.1 rest) p.1 rest

abbrev pub all_steps : State → Steps
all_steps [] = []
all_steps (r ∷ rs) = steps r ++ all_steps rs

abbrev pub next : State → ℕ → State
next rs x = derived (all_steps rs) x

-- what may stand behind a prefix
abbrev pub after : State → List ℕ → State
after rs [] = rs
after rs (x ∷ p) = after (next rs x) p

pub all_into : (rs : State) (x : ℕ) (t : List ℕ) → HoldsAny rs (x ∷ t) → Goes (all_steps rs) x t
all_into [] x t h = h
all_into (r ∷ rs) x t (inl h) = goes_left (steps r) (all_steps rs) x t (steps_into r x t h)
all_into (r ∷ rs) x t (inr h) = goes_right (steps r) (all_steps rs) x t (all_into rs x t h)

all_from : (rs : State) (x : ℕ) (t : List ℕ) → Goes (all_steps rs) x t → HoldsAny rs (x ∷ t)
all_from [] x t h = h
all_from (r ∷ rs) x t h = elim (goes_cases (steps r) (all_steps rs) x t h) [
  | inl g ↦ inl (steps_from r x t g)
  | inr g ↦ inr (all_from rs x t g)
]

is_in_holds : (r : Rule) (rs : State) (t : List ℕ) → is_in r rs ≡ true → Holds r t → HoldsAny rs t
is_in_holds r [] t e h = absurd (both_ways false refl e)
is_in_holds r (q ∷ qs) t e h = elim (or_cases (same_rule r q) (is_in r qs) e) [
  | inl same ↦ inl (rw (same_rule_is r q same) at h)
  | inr there ↦ inr (is_in_holds r qs t there h)
]

add_first : (b c : Bool) (r : Rule) (rs : State) (t : List ℕ) → c ≡ is_in r rs → b ≡ true → Holds r t → HoldsAny (add_new b c r rs) t
add_first true false r rs t e f h = inl h
add_first true true r rs t e f h = is_in_holds r rs t (sym e) h
add_first false c r rs t e f h = absurd (both_ways false refl f)

add_rest : (b c : Bool) (r : Rule) (rs : State) (t : List ℕ) → HoldsAny rs t → HoldsAny (add_new b c r rs) t
add_rest true false r rs t h = inr h
add_rest true true r rs t h = h
add_rest false c r rs t h = h

add_cases : (b c : Bool) (r : Rule) (rs : State) (t : List ℕ) → HoldsAny (add_new b c r rs) t → ((b ≡ true) × Holds r t) ⊎ HoldsAny rs t
add_cases true false r rs t (inl h) = inl (refl, h)
add_cases true false r rs t (inr h) = inr h
add_cases true true r rs t h = inr h
add_cases false c r rs t h = inr h

next_into : (l : Steps) (x : ℕ) (t : List ℕ) → Goes l x t → HoldsAny (derived l x) t
next_into [] x t h = h
next_into (p ∷ l) x t (inl h) = add_first (has p.0 x) (is_in p.1 (derived l x)) p.1 (derived l x) t refl h.0 h.1
next_into (p ∷ l) x t (inr h) = add_rest (has p.0 x) (is_in p.1 (derived l x)) p.1 (derived l x) t (next_into l x t h)

next_from : (l : Steps) (x : ℕ) (t : List ℕ) → HoldsAny (derived l x) t → Goes l x t
next_from [] x t h = h
next_from (p ∷ l) x t h = elim (add_cases (has p.0 x) (is_in p.1 (derived l x)) p.1 (derived l x) t h) [ inl k ↦ inl k | inr k ↦ inr (next_from l x t k) ]

pub after_into : (rs : State) (p t : List ℕ) → HoldsAny rs (p ++ t) → HoldsAny (after rs p) t
after_into rs [] t h = h
after_into rs (x ∷ p) t h = after_into (next rs x) p t (next_into (all_steps rs) x (p ++ t) (all_into rs x (p ++ t) h))

pub after_from : (rs : State) (p t : List ℕ) → HoldsAny (after rs p) t → HoldsAny rs (p ++ t)
after_from rs [] t h = h
after_from rs (x ∷ p) t h = all_from rs x (p ++ t) (next_from (all_steps rs) x (p ++ t) (after_from (next rs x) p t h))

-- whether a text is one of the rule's
abbrev pub matches : Rule → List ℕ → Bool
matches r t = some_nullable (after (r ∷ []) t)

pub matches_from : (r : Rule) (t : List ℕ) → matches r t ≡ true → Holds r t
matches_from r t h = one_of r t (rw append-nil at (after_from (r ∷ []) t [] (some_from (after (r ∷ []) t) h)))

-- ---- bytes that no set of the steps tells apart

abbrev pub is_cut : ℕ → List ℕ → Bool
is_cut m [] = false
is_cut m (c ∷ cs) = eqb m c || is_cut m cs

abbrev pub add_cut : ℕ → List ℕ → List ℕ
add_cut m cs = cond (is_cut m cs) cs (m ∷ cs)

abbrev pub set_cuts : Bytes → List ℕ → List ℕ
set_cuts [] cs = cs
set_cuts (r ∷ rs) cs = add_cut r.0 (add_cut r.1 (set_cuts rs cs))

-- where the sets of the steps begin and end
abbrev pub cuts : Steps → List ℕ
cuts [] = []
cuts (p ∷ l) = set_cuts p.0 (cuts l)

-- the last cut up to a byte
abbrev pub low : ℕ → List ℕ → ℕ
low x [] = 0
low x (c ∷ cs) = cond (leb c x) (max c (low x cs)) (low x cs)

low_le : (x : ℕ) (cs : List ℕ) → low x cs ≤ x
low_le x [] = omega arith
low_le x (c ∷ cs) = go (leb c x) refl (low_le x cs)
  where
    go : (b : Bool) → leb c x ≡ b → low x cs ≤ x → cond b (max c (low x cs)) (low x cs) ≤ x
    go true e h = let k : c ≤ x = leb-true c x e in omega arith
    go false e h = h

low_above : (x m : ℕ) (cs : List ℕ) → is_cut m cs ≡ true → m ≤ x → m ≤ low x cs
low_above x m [] e h = absurd (both_ways false refl e)
low_above x m (c ∷ cs) e h = go (leb c x) refl (or_cases (eqb m c) (is_cut m cs) e) (λ k. low_above x m cs k h)
  where
    go : (b : Bool) → leb c x ≡ b → (eqb m c ≡ true) ⊎ (is_cut m cs ≡ true) → (is_cut m cs ≡ true → m ≤ low x cs) → m ≤ cond b (max c (low x cs)) (low x cs)
    go true f (inl k) w = let same : m ≡ c = eqb-true m c k in omega arith
    go true f (inr k) w = let up : m ≤ low x cs = w k in omega arith
    go false f (inl k) w = let same : m ≡ c = eqb-true m c k in let over : x < c = leb-false c x f in absurd (omega arith)
    go false f (inr k) w = w k

-- what passes at 0 and at each cut passes at the last cut up to a byte
low_there : (f : ℕ → Bool) (x : ℕ) (cs : List ℕ) → f 0 ≡ true → list_all f cs ≡ true → f (low x cs) ≡ true
low_there f x [] h k = h
low_there f x (c ∷ cs) h k =
    let both = and_parts (f c) (list_all f cs) k in
    go (leb c x) (leb c (low x cs)) refl both.0 (low_there f x cs h both.1)
  where
    go : (b d : Bool) → leb c (low x cs) ≡ d → f c ≡ true → f (low x cs) ≡ true → f (cond b (max c (low x cs)) (low x cs)) ≡ true
    go true true e m n = let is : max c (low x cs) ≡ low x cs = (let k : c ≤ low x cs = leb-true c (low x cs) e in omega arith) in rw is n
    go true false e m n = let is : max c (low x cs) ≡ c = (let k : low x cs < c = leb-false c (low x cs) e in omega arith) in rw is m
    go false d e m n = n

same_low : (x m : ℕ) (cs : List ℕ) → is_cut m cs ≡ true → leb m x ≡ leb m (low x cs)
same_low x m cs e = go (leb m x) refl
  where
    go : (b : Bool) → leb m x ≡ b → leb m x ≡ leb m (low x cs)
    go true f = f ∙ sym (le-leb m (low x cs) (low_above x m cs e (leb-true m x f)))
    go false f = f ∙ sym (lt-leb m (low x cs) (let over : x < m = leb-false m x f in let under : low x cs ≤ x = low_le x cs in omega arith))

same_high : (x m : ℕ) (cs : List ℕ) → is_cut m cs ≡ true → ltb x m ≡ ltb (low x cs) m
same_high x m cs e = go (ltb x m) refl
  where
    go : (b : Bool) → ltb x m ≡ b → ltb x m ≡ ltb (low x cs) m
    go true f = f ∙ sym (lt-ltb (low x cs) m (let over : x < m = ltb-true x m f in let under : low x cs ≤ x = low_le x cs in omega arith))
    go false f = f ∙ sym (le-ltb (low x cs) m (low_above x m cs e (ltb-false x m f)))

abbrev SetCut : List ℕ → Bytes → Type 0
SetCut cs [] = Unit {0}
SetCut cs (r ∷ rs) = (is_cut r.0 cs ≡ true) × ((is_cut r.1 cs ≡ true) × SetCut cs rs)

abbrev StepsCut : List ℕ → Steps → Type 0
StepsCut cs [] = Unit {0}
StepsCut cs (p ∷ l) = SetCut cs p.0 × StepsCut cs l

add_wider : (m n : ℕ) (cs : List ℕ) → is_cut m cs ≡ true → is_cut m (add_cut n cs) ≡ true
add_wider m n cs h = go (is_cut n cs)
  where
    go : (b : Bool) → is_cut m (cond b cs (n ∷ cs)) ≡ true
    go true = h
    go false = or_right (eqb m n) (is_cut m cs) h

add_there : (m : ℕ) (cs : List ℕ) → is_cut m (add_cut m cs) ≡ true
add_there m cs = go (is_cut m cs) refl
  where
    go : (b : Bool) → is_cut m cs ≡ b → is_cut m (cond b cs (m ∷ cs)) ≡ true
    go true e = e
    go false e = or_left (eqb m m) (is_cut m cs) (eq-eqb m m refl)

wider_set : (cs ds : List ℕ) → ((m : ℕ) → is_cut m cs ≡ true → is_cut m ds ≡ true) → (s : Bytes) → SetCut cs s → SetCut ds s
wider_set cs ds w [] h = tt
wider_set cs ds w (r ∷ rs) h = (w r.0 h.0, (w r.1 h.1.0, wider_set cs ds w rs h.1.1))

wider_steps : (cs ds : List ℕ) → ((m : ℕ) → is_cut m cs ≡ true → is_cut m ds ≡ true) → (l : Steps) → StepsCut cs l → StepsCut ds l
wider_steps cs ds w [] h = tt
wider_steps cs ds w (p ∷ l) h = (wider_set cs ds w p.0 h.0, wider_steps cs ds w l h.1)

set_wider : (m : ℕ) (s : Bytes) (cs : List ℕ) → is_cut m cs ≡ true → is_cut m (set_cuts s cs) ≡ true
set_wider m [] cs h = h
set_wider m (r ∷ rs) cs h = add_wider m r.0 (add_cut r.1 (set_cuts rs cs)) (add_wider m r.1 (set_cuts rs cs) (set_wider m rs cs h))

set_there : (s : Bytes) (cs : List ℕ) → SetCut (set_cuts s cs) s
set_there [] cs = tt
set_there (r ∷ rs) cs = (
  add_there r.0 (add_cut r.1 (set_cuts rs cs)),
  (
    add_wider r.1 r.0 (add_cut r.1 (set_cuts rs cs)) (add_there r.1 (set_cuts rs cs)),
    wider_set (set_cuts rs cs) (set_cuts (r ∷ rs) cs) (λ m h. add_wider m r.0 (add_cut r.1 (set_cuts rs cs)) (add_wider m r.1 (set_cuts rs cs) h)) rs (set_there rs cs),
  ),
)

cuts_there : (l : Steps) → StepsCut (cuts l) l
cuts_there [] = tt
cuts_there (p ∷ l) = (set_there p.0 (cuts l), wider_steps (cuts l) (set_cuts p.0 (cuts l)) (λ m h. set_wider m p.0 (cuts l) h) l (cuts_there l))

same_has : (x : ℕ) (cs : List ℕ) (s : Bytes) → SetCut cs s → has s x ≡ has s (low x cs)
same_has x cs [] h = refl
same_has x cs (r ∷ rs) h =
    let a = same_low x r.0 cs h.0 in
    let b = same_high x r.1 cs h.1.0 in
    let c = same_has x cs rs h.1.1 in
    ap (λ d. (d && ltb x r.1) || has rs x) a ∙ (ap (λ d. (leb r.0 (low x cs) && d) || has rs x) b ∙ ap (λ d. (leb r.0 (low x cs) && ltb (low x cs) r.1) || d) c)

same_next : (x : ℕ) (cs : List ℕ) (l : Steps) → StepsCut cs l → derived l x ≡ derived l (low x cs)
same_next x cs [] h = refl
same_next x cs (p ∷ l) h =
    let a = same_has x cs p.0 h.0 in
    let b = same_next x cs l h.1 in
    ap (λ d. add_new d (is_in p.1 (derived l x)) p.1 (derived l x)) a ∙ ap (λ r. add_new (has p.0 (low x cs)) (is_in p.1 r) p.1 r) b

-- ---- all states that are reached

abbrev pub same_state : State → State → Bool
same_state [] [] = true
same_state (r ∷ rs) (q ∷ qs) = same_rule r q && same_state rs qs
same_state _ _ = false

abbrev pub in_states : State → List State → Bool
in_states s [] = false
in_states s (d ∷ ds) = same_state s d || in_states s ds

abbrev pub steps_lead : List State → Steps → Bool
steps_lead ds l = in_states (derived l 0) ds && list_all (λ c. in_states (derived l c) ds) (cuts l)

abbrev pub are_closed : List State → Bool
are_closed ds = list_all (λ s. steps_lead ds (all_steps s)) ds

-- a prefix, last byte first, and what may stand behind it
abbrev pub Path : Type 0
Path = List ℕ × State

abbrev pub longer_paths : Steps → List ℕ → List ℕ → List Path
longer_paths l p [] = []
longer_paths l p (c ∷ cs) = (c ∷ p, derived l c) ∷ longer_paths l p cs

-- the shortest prefix at whose state a check fails, or all states
pub data Explored : Type 0 where
  fails : List ℕ → Explored
  passes : List State → Explored

-- by a search of so many steps
abbrev pub explore : ℕ → (State → Bool) → List Path → List State → Explored
explore zero f todo seen = passes seen
explore (suc n) f [] seen = passes seen
explore (suc n) f (p ∷ todo) seen = elim (in_states p.1 seen) [
  | true ↦ explore n f todo seen
  | false ↦ elim (f p.1) [
    | true ↦ let l = all_steps p.1 in explore n f (todo ++ longer_paths l p.0 (0 ∷ cuts l)) (p.1 ∷ seen)
    | false ↦ fails (reverse p.0)
  ]
]

same_state_is : (s d : State) → same_state s d ≡ true → s ≡ d
same_state_is [] [] h = refl
same_state_is (r ∷ rs) (q ∷ qs) h =
    let both = and_parts (same_rule r q) (same_state rs qs) h in
    let a = same_rule_is r q both.0 in
    let b = same_state_is rs qs both.1 in
    cc (a, b)
same_state_is _ _ h = absurd (both_ways false refl h)

-- what passes at each state passes at one that is among them
pub state_found : (f : State → Bool) (ds : List State) (s : State) → in_states s ds ≡ true → list_all f ds ≡ true → f s ≡ true
state_found f [] s h k = absurd (both_ways false refl h)
state_found f (d ∷ ds) s h k =
    let all = and_parts (f d) (list_all f ds) k in
    elim (or_cases (same_state s d) (in_states s ds) h) [
      | inl here ↦ rw (same_state_is s d here) all.0
      | inr there ↦ state_found f ds s there all.1
    ]

module _ (ds : List State) (closed : are_closed ds ≡ true) where
  after_there : (p : List ℕ) (s : State) → in_states s ds ≡ true → in_states (after s p) ds ≡ true
  after_there [] s h = h
  after_there (x ∷ p) s h =
      let l = all_steps s in
      let here = state_found (λ s. steps_lead ds (all_steps s)) ds s h closed in
      let both = and_parts (in_states (derived l 0) ds) (list_all (λ c. in_states (derived l c) ds) (cuts l)) here in
      let at_low = low_there (λ c. in_states (derived l c) ds) x (cuts l) both.0 both.1 in
      after_there p (next s x) (rw (same_next x (cuts l) l (cuts_there l)) at_low)

-- ---- a fact of all prefixes, by a check of all states

abbrev each_by : List State → (State → Bool) → Rule → Bool
each_by ds f r = in_states (r ∷ []) ds && (are_closed ds && list_all f ds)

abbrev none_if : Bool → List (List ℕ)
none_if true = []
none_if false = [] ∷ []

abbrev verdict : (State → Bool) → Rule → Explored → List (List ℕ)
verdict f r (fails p) = p ∷ []
verdict f r (passes ds) = none_if (each_by ds f r)

-- where a fact is refused, state `why f r ≡ fails []`: the refusal prints the prefix
abbrev pub why : (State → Bool) → Rule → Explored
why f r = explore 20000 f (([], r ∷ []) ∷ []) []

-- nothing if the check passes at each state, else a prefix at which it fails
abbrev pub failing : (State → Bool) → Rule → List (List ℕ)
failing f r = verdict f r (why f r)

pub each : (f : State → Bool) (r : Rule) → failing f r ≡ [] → (p : List ℕ) → f (after (r ∷ []) p) ≡ true
each f r h p = go (why f r) h
  where
    holds_if : (b : Bool) → none_if b ≡ [] → b ≡ true
    holds_if true h = refl
    holds_if false h = cc h

    go : (e : Explored) → verdict f r e ≡ [] → f (after (r ∷ []) p) ≡ true
    go (fails q) h = cc h
    go (passes ds) h =
        let both = and_parts (in_states (r ∷ []) ds) (are_closed ds && list_all f ds) (holds_if (each_by ds f r) h) in
        let more = and_parts (are_closed ds) (list_all f ds) both.1 in
        state_found f ds (after (r ∷ []) p) (after_there ds more.0 p (r ∷ []) both.0) more.1

-- ---- prefixes that are cut where a character begins

-- the text is empty, or its first byte begins a character
abbrev pub Starts : List ℕ → Type 0
Starts [] = Unit {0}
Starts (x ∷ rest) = 128 ≤ x → 192 ≤ x

abbrev continuation : Bytes
continuation = (128, 192) ∷ []

-- behind the prefix the rest of a character stands
abbrev pub is_inside : State → Bool
is_inside s = not (some_nullable s) && is_void (minus (firsts (all_steps s)) continuation)

pub not_inside : (s : State) (u : List ℕ) → Starts u → HoldsAny s u → is_inside s ≡ true → ⊥
not_inside s [] b h i = both_ways (not (some_nullable s)) (not_from_true (some_nullable s) (some_into s h)) (and_parts (not (some_nullable s)) (is_void (minus (firsts (all_steps s)) continuation)) i).0
not_inside s (x ∷ u) b h i =
    let void = (and_parts (not (some_nullable s)) (is_void (minus (firsts (all_steps s)) continuation)) i).1 in
    let there : has continuation x ≡ true = within (firsts (all_steps s)) continuation void x (firsts_there (all_steps s) x u (all_into s x u h)) in
    elim (or_cases (leb 128 x && ltb x 192) false there) [
      | inl both ↦
          let parts = and_parts (leb 128 x) (ltb x 192) both in
          let from : 128 ≤ x = leb-true 128 x parts.0 in
          let to : x < 192 = ltb-true x 192 parts.1 in
          let up : 192 ≤ x = b from in
          omega arith
      | inr none ↦ both_ways false refl none
    ]

-- ---- bytes that may stand for one another

-- no cut lies inside the range
abbrev pub uncut : ℕ → ℕ → List ℕ → Bool
uncut a b cs = list_all (λ c. leb c a || leb b c) cs

cut_at : (a b m : ℕ) (cs : List ℕ) → is_cut m cs ≡ true → uncut a b cs ≡ true → (m ≤ a) ⊎ (b ≤ m)
cut_at a b m [] e h = absurd (both_ways false refl e)
cut_at a b m (c ∷ cs) e h =
    let all = and_parts (leb c a || leb b c) (uncut a b cs) h in
    elim (or_cases (eqb m c) (is_cut m cs) e) [
      | inl here ↦ let same : m ≡ c = eqb-true m c here in elim (or_cases (leb c a) (leb b c) all.0) [
        | inl k ↦ inl (rw same (leb-true c a k))
        | inr k ↦ inr (rw same (leb-true b c k))
      ]
      | inr there ↦ cut_at a b m cs there all.1
    ]

module _ (a b : ℕ) (cs : List ℕ) (none : uncut a b cs ≡ true) (d : ℕ) (from : a ≤ d) (to : d < b) where
  one_low : (m : ℕ) → is_cut m cs ≡ true → leb m d ≡ leb m a
  one_low m e = elim (cut_at a b m cs e none) [
    | inl k ↦ le-leb m d (omega arith) ∙ sym (le-leb m a k)
    | inr k ↦ lt-leb m d (omega arith) ∙ sym (lt-leb m a (omega arith))
  ]

  one_high : (m : ℕ) → is_cut m cs ≡ true → ltb d m ≡ ltb a m
  one_high m e = elim (cut_at a b m cs e none) [
    | inl k ↦ le-ltb d m (omega arith) ∙ sym (le-ltb a m k)
    | inr k ↦ lt-ltb d m (omega arith) ∙ sym (lt-ltb a m (omega arith))
  ]

  one_has : (s : Bytes) → SetCut cs s → has s d ≡ has s a
  one_has [] h = refl
  one_has (r ∷ rs) h =
      let x = one_low r.0 h.0 in
      let y = one_high r.1 h.1.0 in
      let z = one_has rs h.1.1 in
      ap (λ c. (c && ltb d r.1) || has rs d) x ∙ (ap (λ c. (leb r.0 a && c) || has rs d) y ∙ ap (λ c. (leb r.0 a && ltb a r.1) || c) z)

  one_next : (l : Steps) → StepsCut cs l → derived l d ≡ derived l a
  one_next [] h = refl
  one_next (p ∷ l) h =
      let x = one_has p.0 h.0 in
      let y = one_next l h.1 in
      ap (λ c. add_new c (is_in p.1 (derived l d)) p.1 (derived l d)) x ∙ ap (λ r. add_new (has p.0 a) (is_in p.1 r) p.1 r) y

-- the steps lead all bytes of the set where they lead m
abbrev pub leads_as : ℕ → Steps → Bytes → Bool
leads_as m l [] = true
leads_as m l (r ∷ rs) = uncut r.0 r.1 (cuts l) && (same_state (derived l r.0) (derived l m) && leads_as m l rs)

leads_there : (m : ℕ) (l : Steps) (s : Bytes) (d : ℕ) → leads_as m l s ≡ true → has s d ≡ true → derived l d ≡ derived l m
leads_there m l [] d h k = absurd (both_ways false refl k)
leads_there m l (r ∷ rs) d h k =
    let both = and_parts (uncut r.0 r.1 (cuts l)) (same_state (derived l r.0) (derived l m) && leads_as m l rs) h in
    let more = and_parts (same_state (derived l r.0) (derived l m)) (leads_as m l rs) both.1 in
    elim (or_cases (leb r.0 d && ltb d r.1) (has rs d) k) [
      | inl here ↦
          let in_range = and_parts (leb r.0 d) (ltb d r.1) here in
          one_next r.0 r.1 (cuts l) both.0 d (leb-true r.0 d in_range.0) (ltb-true d r.1 in_range.1) l (cuts_there l) ∙ same_state_is (derived l r.0) (derived l m) more.0
      | inr there ↦ leads_there m l rs d more.1 there
    ]

-- the bytes of the set, one of which is m, may stand for one another behind the prefix
abbrev pub are_alike : ℕ → Bytes → State → Bool
are_alike m s rs = leads_as m (all_steps rs) s

pub after_append : (rs : State) (p q : List ℕ) → after rs (p ++ q) ≡ after (after rs p) q
after_append rs [] q = refl
after_append rs (x ∷ p) q = after_append (next rs x) p q

-- if so behind each prefix, they may everywhere
pub alike : (m : ℕ) (s : Bytes) (r : Rule) → ((p : List ℕ) → are_alike m s (after (r ∷ []) p) ≡ true) → (d e : ℕ) → has s d ≡ true → has s e ≡ true → (p u : List ℕ) → Holds r (p ++ (d ∷ u)) → Holds r (p ++ (e ∷ u))
alike m s r h d e in_d in_e p u k =
    let here = h p in
    let l = all_steps (after (r ∷ []) p) in
    let same : derived l d ≡ derived l e = leads_there m l s d here in_d ∙ sym (leads_there m l s e here in_e) in
    one_of r (p ++ (e ∷ u)) (after_from (r ∷ []) p (e ∷ u) (all_from (after (r ∷ []) p) e u (next_from l e u (rw same at (next_into l d u (all_into (after (r ∷ []) p) d u (after_into (r ∷ []) p (d ∷ u) (inl k))))))))
