-- The version that is found is the first one, or the one that ends last.
use Rattle.std.proofs.Common.{◌≡◌, ◌∙◌, ◌≤◌, ◌<◌, ◌++◌, ◌∷◌, ℕ, Bool, true, false, List, [], IfOk, Option, Some, None, Result, Ok, Err, length, refl, subst, sym, ap, inl, inr, arith, nat_lt}
use Rattle.std.specs.Char.{is_ascii_digit}
use Rattle.std.specs.Option.{option_map}
use Rattle.std.proofs.lemmas.Bool.{cases_Bool}
use Rattle.std.proofs.lemmas.Bool.Decides.{nat_tests}
use Rattle.std.proofs.lemmas.List.Sums.{take_while-cons}
use Rattle.semver_base.specs.Grammar.{IsLongest}
use Rattle.semver_base.specs.GrammarLaws.{one_front}
use Rattle.semver_base.specs.Lexical.{IsQualifier}
use Rattle.semver_base.specs.Precedence.{number_of}
use Rattle.semver_base.specs.declared.lexical.values.Qualifier.{Qualifier}
use Rattle.semver_base.specs.declared.lexical.values.Strictness.TheVariants.{Strict}
use Rattle.semver_base.specs.declared.version.Version.{Version}
use Rattle.node_semver.specs.Coerce.{BeginsWith, BeginsWithAll, HasNoRun, IsCoerced, IsFirstRun, IsLastRun, IsPicked, IsRunBehind, leading_release, with_qualifier}
use Rattle.node_semver.specs.CoerceSteps.{BeginsWithRun, IsLeading, IsRunAt, ending_last}
use Rattle.node_semver.specs.declared.coerce.Direction.{Direction}
use Rattle.node_semver.specs.declared.coerce.Direction.TheVariants as direction
use Rattle.node_semver.specs.declared.coerce.Parts.{Parts}
use Rattle.node_semver.specs.declared.coerce.Parts.TheVariants as parts
use Rattle.node_semver.specs.declared.coerce.Run.{Run}

-- ---- one version begins at a place

pub begins_all : {text middle rest : List ℕ} {numbers : Version} {qualifier : Qualifier} → leading_release text ≡ Some (numbers, middle)
    → IsLongest (IsQualifier Strict) middle qualifier rest → BeginsWithRun parts.All text (record { version = with_qualifier numbers qualifier; behind = length rest })
begins_all {text} {middle} {rest} {numbers} {qualifier} leads goes_on = record {
  rest = rest;
  begins = record { numbers = numbers; middle = middle; qualifier = qualifier; leads = leads; goes_on = goes_on; version = refl };
  behind = refl;
}

abbrev as_some : {X : Type 0} → X → Option X
as_some x = Some x

abbrev some_pair : {X Y : Type 0} → X → Y → Option (X × Y)
some_pair x y = Some (x, y)

abbrev pair : {X Y : Type 0} → X → Y → X × Y
pair x y = (x, y)

same_pair : {X Y : Type 0} (x u : X) (y v : Y) → some_pair x y ≡ some_pair u v → (x ≡ u) × (y ≡ v)
same_pair {X = X} {Y = Y} x u y v e =
    let same : pair x y ≡ pair u v = cc e in
    (ap (λ (p : X × Y). p.0) same, ap (λ (p : X × Y). p.1) same)

one_all : (text : List ℕ) (v w : Version) (rest end : List ℕ) → BeginsWithAll text v rest → BeginsWithAll text w end → (v ≡ w) × (rest ≡ end)
one_all text v w rest end h k =
    let numbers = same_pair h.numbers k.numbers h.middle k.middle (sym h.leads ∙ k.leads) in
    let qualifiers = one_front (rw numbers.1 at h.goes_on) k.goes_on in
    (h.version ∙ (rw (numbers.0, qualifiers.0) (sym k.version)), qualifiers.1)

one_version : (kept : Parts) (text : List ℕ) (v w : Version) (rest end : List ℕ) → BeginsWith kept text v rest → BeginsWith kept text w end → (v ≡ w) × (rest ≡ end)
one_version parts.Numbers text v w rest end h k = same_pair v w rest end (sym h ∙ k)
one_version parts.All text v w rest end h k = one_all text v w rest end h k

abbrev run_of : Version → ℕ → Run
run_of version behind = record { version = version; behind = behind }

same_run : (r s : Run) → r.version ≡ s.version → r.behind ≡ s.behind → r ≡ s
same_run r s v b = ap (λ (version : Version). run_of version r.behind) v ∙ ap (run_of s.version) b

same_front : (xs ys us vs : List ℕ) → xs ++ us ≡ ys ++ vs → length xs ≡ length ys → us ≡ vs
same_front [] [] us vs e l = e
same_front [] (y ∷ ys) us vs e l = absurd (omega (arith, l))
same_front (x ∷ xs) [] us vs e l = absurd (omega (arith, l))
same_front (x ∷ xs) (y ∷ ys) us vs e l = same_front xs ys us vs (cc e) (omega (arith, l))

-- no digits are no number
none_leads : leading_release [] ≡ None
unfolding number_of
none_leads = refl

no_start : (kept : Parts) (v : Version) (rest : List ℕ) → BeginsWith kept [] v rest → ⊥
no_start parts.Numbers v rest h = cc (h, none_leads)
no_start parts.All v rest h = cc (h.leads, none_leads)

-- a version begins with a digit
no_release : (c : ℕ) (text : List ℕ) → is_ascii_digit c ≡ false → leading_release (c ∷ text) ≡ None
unfolding number_of
no_release c text other = rw (take_while-cons is_ascii_digit c text, other) refl

no_start_at : (kept : Parts) (c : ℕ) (text : List ℕ) → is_ascii_digit c ≡ false → (v : Version) (rest : List ℕ) → BeginsWith kept (c ∷ text) v rest → ⊥
no_start_at parts.Numbers c text other v rest h = cc (h, no_release c text other)
no_start_at parts.All c text other v rest h = cc (h.leads, no_release c text other)

-- of three, whichever two are compared first
ending_in_turn : (found : Option Run) (r s : Run) → ending_last (ending_last found (Some r)) (Some s) ≡ ending_last found (ending_last (Some r) (Some s))
ending_in_turn None r s = refl
ending_in_turn (Some f) r s = elim (cases_Bool (nat_lt r.behind f.behind)) [
  | inl rf ↦ elim (cases_Bool (nat_lt s.behind r.behind)) [
    | inl sr ↦ let sf : nat_lt s.behind f.behind ≡ true = grind (arith, nat_tests, rf, sr) in rw (rf, sr, sf) refl
    | inr rs ↦ rw (rf, rs, rf) refl
  ]
  | inr fr ↦ elim (cases_Bool (nat_lt s.behind r.behind)) [
    | inl sr ↦ rw (fr, sr) refl
    | inr rs ↦ let fs : nat_lt s.behind f.behind ≡ false = grind (arith, nat_tests, fr, rs) in rw (fr, rs, fs, fr) refl
  ]
]

module _ (kept : Parts) where
  one_at : (text : List ℕ) (r s : Run) → BeginsWithRun kept text r → BeginsWithRun kept text s → r ≡ s
  one_at text r s h k =
      let one = one_version kept text r.version s.version h.rest k.rest h.begins k.begins in
      same_run r s one.0 (h.behind ∙ (ap length one.1 ∙ sym k.behind))

  begun : (text before : List ℕ) (after : Bool) (run : Run) (h : IsRunBehind kept after text before run) → BeginsWithRun kept h.from run
  begun text before after run h = record { rest = h.rest; begins = h.begins; behind = h.behind }

  one_place : (after : Bool) (text : List ℕ) (before others : List ℕ) (r s : Run) → IsRunBehind kept after text before r → IsRunBehind kept after text others s
      → length before ≡ length others → r ≡ s
  one_place after text before others r s h k e =
      let front = same_front before others h.from k.from (h.split ∙ sym k.split) e in
      one_at k.from r s (subst (λ from. BeginsWithRun kept from r) front (begun text before after r h)) (begun text others after s k)

  -- ---- a byte before the text

  behind_byte : (after : Bool) (c : ℕ) (text : List ℕ) (d : ℕ) (others : List ℕ) (run : Run)
      → IsRunBehind kept after (c ∷ text) (d ∷ others) run → IsRunBehind kept (is_ascii_digit c) text others run
  behind_byte after c text d others run h =
      record { from = h.from; rest = h.rest; split = cc h.split; apart = rw same at h.apart; begins = h.begins; behind = h.behind }
    where
      same : d ≡ c
      same = cc h.split

  before_byte : (after : Bool) (c : ℕ) (text others : List ℕ) (run : Run)
      → IsRunBehind kept (is_ascii_digit c) text others run → IsRunBehind kept after (c ∷ text) (c ∷ others) run
  before_byte after c text others run h =
      record { from = h.from; rest = h.rest; split = ap (λ (xs : List ℕ). c ∷ xs) h.split; apart = h.apart; begins = h.begins; behind = h.behind }

  -- ---- none

  pub none_in_nothing : (after : Bool) → HasNoRun kept after []
  none_in_nothing after [] run h = no_start kept run.version h.rest (rw h.split at h.begins)
  none_in_nothing after (d ∷ before) run h = absurd (cc h.split)

  none_behind : (after : Bool) (c : ℕ) (text : List ℕ) → IsRunAt kept after (c ∷ text) None → HasNoRun kept (is_ascii_digit c) text → HasNoRun kept after (c ∷ text)
  none_behind after c text here later [] run h = here run h
  none_behind after c text here later (d ∷ before) run h = later before run (behind_byte after c text d before run h)

  pub none_after_digit : (text : List ℕ) → IsRunAt kept true text None
  none_after_digit text run h = absurd (cc h.apart)

  pub none_at_other : (after : Bool) (c : ℕ) (text : List ℕ) → is_ascii_digit c ≡ false → IsRunAt kept after (c ∷ text) None
  none_at_other after c text other run h = no_start_at kept c text other run.version h.rest (rw h.split at h.begins)

  run_at : (text : List ℕ) (found : Option Run) → IsLeading kept text found → IsRunAt kept false text found
  run_at text None h = λ run k. h run (subst (λ from. BeginsWithRun kept from run) k.split (begun text [] false run k))
  run_at text (Some run) h = record { from = text; rest = h.rest; split = refl; apart = refl; begins = h.begins; behind = h.behind }

  pub runs_at : {E : Type 0} (after : Bool) (text : List ℕ) → after ≡ false → (found : Result (Option Run) E) → IfOk found (IsLeading kept text) → IfOk found (IsRunAt kept after text)
  runs_at after text is (Ok found) h = rw is (run_at text found h)
  runs_at after text is (Err e) h = tt

  -- ---- the first one

  first_here : (after : Bool) (text : List ℕ) (run : Run) → IsRunBehind kept after text [] run → IsFirstRun kept after text run
  first_here after text run h = record { before = []; is_run = h; first = λ others other k. omega arith }

  first_later : (after : Bool) (c : ℕ) (text : List ℕ) (run : Run) → IsRunAt kept after (c ∷ text) None
      → IsFirstRun kept (is_ascii_digit c) text run → IsFirstRun kept after (c ∷ text) run
  first_later after c text run none h =
      record { before = c ∷ h.before; is_run = before_byte after c text h.before run h.is_run; first = first }
    where
      first : (others : List ℕ) (other : Run) → IsRunBehind kept after (c ∷ text) others other → length (c ∷ h.before) ≤ length others
      first [] other k = absurd (none other k)
      first (d ∷ others) other k = omega (arith, h.first others other (behind_byte after c text d others other k))

  -- what is first in the rest is first in the text
  pub record FirstSoFar (text : List ℕ) (after : Bool) (rest : List ℕ) : Type 0 where
    pub none : HasNoRun kept after rest → HasNoRun kept false text
    pub some : (run : Run) → IsFirstRun kept after rest run → IsFirstRun kept false text run

  pub first_start : (text : List ℕ) → FirstSoFar text false text
  first_start text = record { none = λ h. h; some = λ run h. h }

  pub first_found : (text rest : List ℕ) (after : Bool) (run : Run) → FirstSoFar text after rest → IsRunAt kept after rest (Some run) → IsFirstRun kept false text run
  first_found text rest after run h k = h.some run (first_here after rest run k)

  pub first_step : (text : List ℕ) (after : Bool) (c : ℕ) (rest : List ℕ) → FirstSoFar text after (c ∷ rest) → IsRunAt kept after (c ∷ rest) None
      → FirstSoFar text (is_ascii_digit c) rest
  first_step text after c rest h none =
      record { none = λ no. h.none (none_behind after c rest none no); some = λ run is. h.some run (first_later after c rest run none is) }

  -- ---- the one that ends last

  last_here : (after : Bool) (c : ℕ) (text : List ℕ) (run : Run) → IsRunBehind kept after (c ∷ text) [] run
      → ((others : List ℕ) (other : Run) → IsRunBehind kept (is_ascii_digit c) text others other → run.behind ≤ other.behind)
      → IsLastRun kept after (c ∷ text) run
  last_here after c text run h later =
      record { before = []; is_run = h; last = last; longest = λ others other k e. omega arith }
    where
      last : (others : List ℕ) (other : Run) → IsRunBehind kept after (c ∷ text) others other → run.behind ≤ other.behind
      last [] other k = let same : run ≡ other = one_place after (c ∷ text) [] [] run other h k refl in rw same (omega arith)
      last (d ∷ others) other k = later others other (behind_byte after c text d others other k)

  last_later : (after : Bool) (c : ℕ) (text : List ℕ) (run : Run)
      → ((other : Run) → IsRunBehind kept after (c ∷ text) [] other → run.behind < other.behind)
      → IsLastRun kept (is_ascii_digit c) text run → IsLastRun kept after (c ∷ text) run
  last_later after c text run here h =
      record { before = c ∷ h.before; is_run = before_byte after c text h.before run h.is_run; last = last; longest = longest }
    where
      last : (others : List ℕ) (other : Run) → IsRunBehind kept after (c ∷ text) others other → run.behind ≤ other.behind
      last [] other k = omega (arith, here other k)
      last (d ∷ others) other k = h.last others other (behind_byte after c text d others other k)

      longest : (others : List ℕ) (other : Run) → IsRunBehind kept after (c ∷ text) others other → other.behind ≡ run.behind
          → length (c ∷ h.before) ≤ length others
      longest [] other k e = absurd (omega (arith, e, here other k))
      longest (d ∷ others) other k e = omega (arith, h.longest others other (behind_byte after c text d others other k) e)

  -- the last one so far, or that of the rest, is the last of the text
  pub record LastSoFar (text : List ℕ) (after : Bool) (rest : List ℕ) (found : Option Run) : Type 0 where
    pub none : HasNoRun kept after rest → IsPicked direction.RightToLeft kept false text found
    pub some : (run : Run) → IsLastRun kept after rest run → IsPicked direction.RightToLeft kept false text (ending_last found (Some run))

  pub last_start : (text : List ℕ) → LastSoFar text false text None
  last_start text = record { none = λ h. h; some = λ run h. h }

  pub last_step_none : (text : List ℕ) (after : Bool) (c : ℕ) (rest : List ℕ) (found : Option Run) → LastSoFar text after (c ∷ rest) found
      → IsRunAt kept after (c ∷ rest) None → LastSoFar text (is_ascii_digit c) rest found
  last_step_none text after c rest found h none = record {
    none = λ no. h.none (none_behind after c rest none no);
    some = λ run is. h.some run (last_later after c rest run (λ other k. absurd (none other k)) is);
  }

  last_both : (text : List ℕ) (after : Bool) (c : ℕ) (rest : List ℕ) (found : Option Run) (r s : Run) → LastSoFar text after (c ∷ rest) found
      → IsRunAt kept after (c ∷ rest) (Some r) → IsLastRun kept (is_ascii_digit c) rest s
      → IsPicked direction.RightToLeft kept false text (ending_last found (ending_last (Some r) (Some s)))
  last_both text after c rest found r s h here last = elim (cases_Bool (nat_lt s.behind r.behind)) [
    | inl lower ↦
        let below : s.behind < r.behind = grind (arith, nat_tests, lower) in
        rw lower (h.some s (last_later after c rest s (λ other k. let same : r ≡ other = one_place after (c ∷ rest) [] [] r other here k refl in rw (sym same) below) last))
    | inr not_lower ↦
        let above : r.behind ≤ s.behind = grind (arith, nat_tests, not_lower) in
        rw not_lower (h.some r (last_here after c rest r here (λ others other k. omega (arith, above, last.last others other k))))
  ]

  pub last_step_some : (text : List ℕ) (after : Bool) (c : ℕ) (rest : List ℕ) (found : Option Run) (r : Run) → LastSoFar text after (c ∷ rest) found
      → IsRunAt kept after (c ∷ rest) (Some r) → LastSoFar text (is_ascii_digit c) rest (ending_last found (Some r))
  last_step_some text after c rest found r h here = record {
    none = λ no. h.some r (last_here after c rest r here (λ others other k. absurd (no others other k)));
    some = λ s is. rw (ending_in_turn found r s) (last_both text after c rest found r s h here is);
  }

  -- ---- the version

  one_first : (after : Bool) (text : List ℕ) (r s : Run) → IsFirstRun kept after text r → IsFirstRun kept after text s → r ≡ s
  one_first after text r s h k =
      one_place after text h.before k.before r s h.is_run k.is_run (omega (arith, h.first k.before s k.is_run, k.first h.before r h.is_run))

  one_last : (after : Bool) (text : List ℕ) (r s : Run) → IsLastRun kept after text r → IsLastRun kept after text s → r ≡ s
  one_last after text r s h k =
      let same : r.behind ≡ s.behind = omega (arith, h.last k.before s k.is_run, k.last h.before r h.is_run) in
      one_place after text h.before k.before r s h.is_run k.is_run
      (omega (arith, h.longest k.before s k.is_run (sym same), k.longest h.before r h.is_run same))

  one_picked : (d : Direction) (after : Bool) (text : List ℕ) (r s : Option Run) → IsPicked d kept after text r → IsPicked d kept after text s → r ≡ s
  one_picked d after text None None h k = refl
  one_picked direction.LeftToRight after text None (Some s) h k = absurd (h k.before s k.is_run)
  one_picked direction.RightToLeft after text None (Some s) h k = absurd (h k.before s k.is_run)
  one_picked direction.LeftToRight after text (Some r) None h k = absurd (k h.before r h.is_run)
  one_picked direction.RightToLeft after text (Some r) None h k = absurd (k h.before r h.is_run)
  one_picked direction.LeftToRight after text (Some r) (Some s) h k = ap as_some (one_first after text r s h k)
  one_picked direction.RightToLeft after text (Some r) (Some s) h k = ap as_some (one_last after text r s h k)

  pub one_coerced : (d : Direction) (text : List ℕ) (found other : Option Version) → IsCoerced d kept text found → IsCoerced d kept text other → other ≡ found
  one_coerced d text found other h k =
      k.version ∙ (ap (option_map (λ (r : Run). r.version)) (one_picked d false text k.run h.run k.picked h.picked) ∙ sym h.version)
