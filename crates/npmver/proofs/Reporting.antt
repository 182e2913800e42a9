-- What is printed for a question, from its result.
use Rattle.std.proofs.Common.{◌≡◌, ◌==◌, ◌<◌, ◌-◌, ℕ, false, true, Bool, suc, length, drop, take, get_or, map, arith, List, [], ◌∷◌, Option, Result, Ok, Err, Some, None, refl, sym, ap, subst, ◌∙◌, inl, inr, ◌⊎◌, codes, slice_index, eq-eqb}
use Rattle.std.proofs.lemmas.List.{take_all}
use Rattle.semver_base.specs.declared.range.PreRelease.{PreRelease}
use Rattle.semver_base.specs.declared.range.PreRelease.TheVariants.{Restricted, Admitted}
use Rattle.semver_req.specs.declared.common.values.Flavour.{Flavour}
use Rattle.semver_req.specs.declared.common.values.Flavour.TheVariants.{Npm}
use Rattle.answers.specs.Asking as fault
use Rattle.answers.specs.Asking.{Fault, Invalid, IsOutcomeOf}
use Rattle.answers.specs.declared.questions.End.TheVariants.{Highest}
use Rattle.answers.specs.Questions.{BestMatch, Canonical, Matches, Overlaps}
use Rattle.answers.specs.declared.asking.Answer.{Answer}
use Rattle.answers.specs.declared.asking.Answer.TheVariants as answer
use Rattle.answers.specs.declared.questions.Best.{Best}
use Rattle.npmver.specs.Question.{ByParser, IsPrinted, IsAsked, IsForm, IsParser, IsStatus, NoParser, Prints, asks_best, asks_fits, asks_meet, asks_normal, asks_nothing, by, by_none, form_best, form_fits, form_meet, form_normal, matching_command, npm, normal, of_reported, of_unwritten, of_out_of_memory, prints, rejects, strict}
use Rattle.npmver.specs.Reported.{OutOfMemory, Text, Reported, Usage, status_of, reported_answer, reported_best, printed_for, reported_fault, reported_match, reported_problem, reported_whether}
use Rattle.npmver.specs.declared.Line.{Line}
use Rattle.npmver.specs.declared.Line.TheVariants as line
use Rattle.npmver.specs.declared.Problem.{Problem}
use Rattle.npmver.specs.declared.Problem.TheVariants as problem

-- ---- no result is the usage

pub whether_proper : (b : Bool) → reported_whether b ≡ Usage → ⊥
whether_proper true e = cc e
whether_proper false e = cc e

pub match_proper : (a : Answer Bool) → reported_match a ≡ Usage → ⊥
match_proper (answer.Value b) e = whether_proper b e
match_proper (answer.Tag tag) e = cc e

pub best_proper : (a : Answer (Option Best)) → reported_best a ≡ Usage → ⊥
best_proper (answer.Value (Some best)) e = cc e
best_proper (answer.Value None) e = cc e
best_proper (answer.Tag tag) e = cc e

pub text_proper : (text : List ℕ) → Text text ≡ Usage → ⊥
text_proper text e = cc e

-- ---- the outcome of a question is printed

module _ {X : Type 0} (shown : X → Reported) (Asked : Result X Fault → Type 0) (proper : (x : X) → shown x ≡ Usage → ⊥) where
  no_usage : (reported : Reported) → reported ≡ Usage → Prints shown Asked reported → ⊥
  no_usage reported e (prints {x = x} a) = proper x e
  no_usage reported e (rejects a) = cc e

  abbrev reported_outcome : Result X Fault → Reported
  reported_outcome (Ok x) = shown x
  reported_outcome (Err why) = reported_fault why

  pub printed : (outcome : Result X Fault) → IsOutcomeOf fault.OutOfMemory Asked outcome → (result : Result Line Problem) → printed_for result ≡ reported_outcome outcome
      → IsPrinted (Prints shown Asked) result
  printed outcome h result e = record { reports = reports outcome e h.is; every = every; usage = λ a. absurd (no_usage Usage refl a) }
    where
      reports : (o : Result X Fault) → printed_for result ≡ reported_outcome o → (o ≡ Err fault.OutOfMemory) ⊎ Asked o → (printed_for result ≡ OutOfMemory) ⊎ Prints shown Asked (printed_for result)
      reports (Ok x) e (inl none) = absurd (cc none)
      reports (Ok x) e (inr a) = inr (subst (Prints shown Asked) (sym e) (prints a))
      reports (Err (fault.Invalid kind place failure)) e (inl none) = absurd (cc none)
      reports (Err (fault.Invalid kind place failure)) e (inr a) = inr (subst (Prints shown Asked) (sym e) (rejects a))
      reports (Err fault.OutOfMemory) e is = inl e

      same : (o : Result X Fault) → (outcome ≡ Err fault.OutOfMemory) ⊎ (outcome ≡ o) → (printed_for result ≡ OutOfMemory) ⊎ (printed_for result ≡ reported_outcome o)
      same o (inl none) = inl (e ∙ ap reported_outcome none)
      same o (inr is) = inr (e ∙ ap reported_outcome is)

      every : (reported : Reported) → Prints shown Asked reported → (printed_for result ≡ OutOfMemory) ⊎ (printed_for result ≡ reported)
      every reported (prints {x = x} a) = same (Ok x) (h.only (Ok x) a)
      every reported (rejects {kind = kind} {place = place} {failure = failure} a) = same (Err (fault.Invalid kind place failure)) (h.only (Err (fault.Invalid kind place failure)) a)

  -- out of memory
  pub ran_out : (result : Result Line Problem) → printed_for result ≡ OutOfMemory → IsPrinted (Prints shown Asked) result
  ran_out result e = record { reports = inl e; every = λ reported a. inl e; usage = λ a. absurd (no_usage Usage refl a) }

-- ---- grammars by name

-- two texts that differ at a byte aren't equal
apart : (name : List ℕ) (k : ℕ) (a b : List ℕ) → name ≡ a → name ≡ b → (slice_index a k == slice_index b k) ≡ false → ⊥
apart name k a b e f d = cc (sym d ∙ eq-eqb (slice_index a k) (slice_index b k) (ap (λ (x : List ℕ). slice_index x k) (sym e ∙ f)))

one_parser : (name : List ℕ) (f g : Flavour) → IsParser name f → IsParser name g → f ≡ g
one_parser name f g (npm a) (npm b) = refl
one_parser name f g (normal a) (normal b) = refl
one_parser name f g (strict a) (strict b) = refl
one_parser name f g (npm a) (normal b) = absurd (apart name 1 (codes "npm") (codes "normal") a b refl)
one_parser name f g (npm a) (strict b) = absurd (apart name 1 (codes "npm") (codes "strict") a b refl)
one_parser name f g (normal a) (npm b) = absurd (apart name 1 (codes "normal") (codes "npm") a b refl)
one_parser name f g (normal a) (strict b) = absurd (apart name 1 (codes "normal") (codes "strict") a b refl)
one_parser name f g (strict a) (npm b) = absurd (apart name 1 (codes "strict") (codes "npm") a b refl)
one_parser name f g (strict a) (normal b) = absurd (apart name 1 (codes "strict") (codes "normal") a b refl)

module _ (name : List ℕ) (Asked : Flavour → Reported → Type 0) where
  pub by_parser : (f : Flavour) → IsParser name f → (result : Result Line Problem) → IsPrinted (Asked f) result → IsPrinted (ByParser name Asked) result
  by_parser f r result h = record {
    reports = reports h.reports;
    every = every;
    usage = usage;
  }
    where
      reports : (printed_for result ≡ OutOfMemory) ⊎ Asked f (printed_for result) → (printed_for result ≡ OutOfMemory) ⊎ ByParser name Asked (printed_for result)
      reports (inl e) = inl e
      reports (inr a) = inr (by r a)

      every : (reported : Reported) → ByParser name Asked reported → (printed_for result ≡ OutOfMemory) ⊎ (printed_for result ≡ reported)
      every reported (by {f = g} s a) = h.every reported (subst (λ (x : Flavour). Asked x reported) (one_parser name g f s r) a)
      every reported (by_none n) = absurd (n f r)

      usage : ByParser name Asked Usage → printed_for result ≡ Usage
      usage (by {f = g} s a) = h.usage (subst (λ (x : Flavour). Asked x Usage) (one_parser name g f s r) a)
      usage (by_none n) = absurd (n f r)

  pub by_no_parser : NoParser name → IsPrinted (ByParser name Asked) (Err problem.Usage)
  by_no_parser n = record { reports = inr (by_none n); every = every; usage = λ a. refl }
    where
      every : (reported : Reported) → ByParser name Asked reported → (Usage ≡ OutOfMemory) ⊎ (Usage ≡ reported)
      every reported (by {f = f} r a) = absurd (n f r)
      every reported (by_none m) = inr refl

-- ---- arguments

-- what holds for a result holds for it under an equivalent question
same_answer : (Asked Others : Reported → Type 0) → ((reported : Reported) → Asked reported → Others reported) → ((reported : Reported) → Others reported → Asked reported)
    → (result : Result Line Problem) → IsPrinted Asked result → IsPrinted Others result
same_answer Asked Others to from result h = record {
  reports = go h.reports;
  every = λ reported a. h.every reported (from reported a);
  usage = λ a. h.usage (from Usage a);
}
  where
    go : (printed_for result ≡ OutOfMemory) ⊎ Asked (printed_for result) → (printed_for result ≡ OutOfMemory) ⊎ Others (printed_for result)
    go (inl e) = inl e
    go (inr a) = inr (to (printed_for result) a)

abbrev argument_at : List (List ℕ) → ℕ → List ℕ
argument_at arguments k = get_or arguments k []

same_argument : (arguments others : List (List ℕ)) (k : ℕ) → arguments ≡ others → argument_at arguments k ≡ argument_at others k
same_argument arguments others k e = ap (λ (x : List (List ℕ)). argument_at x k) e

same_length : (arguments others : List (List ℕ)) → arguments ≡ others → length arguments ≡ length others
same_length arguments others e = ap (λ (x : List (List ℕ)). length x) e

-- what follows three arguments
same_rest : (arguments others : List (List ℕ)) → arguments ≡ others → drop 3 arguments ≡ drop 3 others
same_rest arguments others e = ap (λ (x : List (List ℕ)). drop 3 x) e

one_command : (p q : PreRelease) → matching_command p ≡ matching_command q → p ≡ q
one_command Restricted Restricted e = refl
one_command Restricted Admitted e = absurd (apart _ 4 (codes "fits") (codes "fits-pre") refl e refl)
one_command Admitted Restricted e = absurd (apart _ 4 (codes "fits-pre") (codes "fits") refl e refl)
one_command Admitted Admitted e = refl

-- no other command begins as these do
other_command : (p : PreRelease) (name : List ℕ) → matching_command p ≡ name → (102 == slice_index name 0) ≡ false → ⊥
other_command Restricted name e d = apart _ 0 (codes "fits") name refl e d
other_command Admitted name e d = apart _ 0 (codes "fits-pre") name refl e d

pub fits_asked : (p : PreRelease) (parser requirement version : List ℕ) (result : Result Line Problem)
    → IsPrinted (ByParser parser (λ f. Prints reported_match (Matches p f requirement version))) result → IsPrinted (IsAsked (matching_command p ∷ parser ∷ requirement ∷ version ∷ [])) result
fits_asked p parser requirement version result h = same_answer _ (IsAsked arguments) (λ reported a. asks_fits p refl a) from result h
  where
    arguments : List (List ℕ)
    arguments = matching_command p ∷ parser ∷ requirement ∷ version ∷ []

    from : (reported : Reported) → IsAsked arguments reported → ByParser parser (λ f. Prints reported_match (Matches p f requirement version)) reported
    from reported (asks_fits o {parser = r} {requirement = q} {version = v} e a) =
        subst (λ (x : PreRelease). ByParser parser (λ f. Prints reported_match (Matches x f requirement version)) reported) (sym (one_command p o (same_argument arguments _ 0 e)))
        (subst (λ (x : List ℕ). ByParser x (λ f. Prints reported_match (Matches o f requirement version)) reported) (sym (same_argument arguments _ 1 e))
        (subst (λ (x : List ℕ). ByParser r (λ f. Prints reported_match (Matches o f x version)) reported) (sym (same_argument arguments _ 2 e))
        (subst (λ (x : List ℕ). ByParser r (λ f. Prints reported_match (Matches o f q x)) reported) (sym (same_argument arguments _ 3 e)) a)))
    from reported (asks_best e a) = absurd (other_command p (codes "best") (same_argument arguments _ 0 e) refl)
    from reported (asks_normal e a) = absurd (cc e)
    from reported (asks_meet e a) = absurd (cc e)
    from reported (asks_nothing n) = absurd (n (form_fits p refl))

pub best_asked : (parser requirement : List ℕ) (versions : List (List ℕ)) → 0 < length versions → (result : Result Line Problem)
    → IsPrinted (ByParser parser (λ f. Prints reported_best (BestMatch Highest Restricted f requirement versions))) result → IsPrinted (IsAsked (codes "best" ∷ parser ∷ requirement ∷ versions)) result
best_asked parser requirement [] some result h = absurd (omega (arith, some))
best_asked parser requirement (version ∷ others) some result h = same_answer _ (IsAsked arguments) (λ reported a. asks_best refl a) from result h
  where
    arguments : List (List ℕ)
    arguments = codes "best" ∷ parser ∷ requirement ∷ version ∷ others

    from : (reported : Reported) → IsAsked arguments reported → ByParser parser (λ f. Prints reported_best (BestMatch Highest Restricted f requirement (version ∷ others))) reported
    from reported (asks_best {parser = r} {requirement = q} {version = v} {versions = vs} e a) =
        subst (λ (x : List ℕ). ByParser x (λ f. Prints reported_best (BestMatch Highest Restricted f requirement (version ∷ others))) reported) (sym (same_argument arguments _ 1 e))
        (subst (λ (x : List ℕ). ByParser r (λ f. Prints reported_best (BestMatch Highest Restricted f x (version ∷ others))) reported) (sym (same_argument arguments _ 2 e))
        (subst (λ (x : List (List ℕ)). ByParser r (λ f. Prints reported_best (BestMatch Highest Restricted f q x)) reported) (sym (same_rest arguments _ e)) a))
    from reported (asks_fits o e a) = absurd (other_command o (codes "best") (sym (same_argument arguments _ 0 e)) refl)
    from reported (asks_normal e a) = absurd (cc e)
    from reported (asks_meet e a) = absurd (cc e)
    from reported (asks_nothing n) = absurd (n (form_best refl))

pub normal_asked : (parser requirement : List ℕ) (result : Result Line Problem)
    → IsPrinted (ByParser parser (λ f. Prints Text (Canonical f requirement))) result → IsPrinted (IsAsked (codes "normal" ∷ parser ∷ requirement ∷ [])) result
normal_asked parser requirement result h = same_answer _ (IsAsked arguments) (λ reported a. asks_normal refl a) from result h
  where
    arguments : List (List ℕ)
    arguments = codes "normal" ∷ parser ∷ requirement ∷ []

    from : (reported : Reported) → IsAsked arguments reported → ByParser parser (λ f. Prints Text (Canonical f requirement)) reported
    from reported (asks_fits p e a) = absurd (cc e)
    from reported (asks_best e a) = absurd (cc e)
    from reported (asks_normal {parser = r} {requirement = q} e a) =
        subst (λ (x : List ℕ). ByParser x (λ f. Prints Text (Canonical f requirement)) reported) (sym (same_argument arguments _ 1 e))
        (subst (λ (x : List ℕ). ByParser r (λ f. Prints Text (Canonical f x)) reported) (sym (same_argument arguments _ 2 e)) a)
    from reported (asks_meet e a) = absurd (apart _ 0 (codes "normal") (codes "meet") refl (same_argument arguments _ 0 e) refl)
    from reported (asks_nothing n) = absurd (n (form_normal refl))

pub meet_asked : (one other : List ℕ) (result : Result Line Problem)
    → IsPrinted (Prints reported_whether (Overlaps Npm one other)) result → IsPrinted (IsAsked (codes "meet" ∷ one ∷ other ∷ [])) result
meet_asked one other result h = same_answer _ (IsAsked arguments) (λ reported a. asks_meet refl a) from result h
  where
    arguments : List (List ℕ)
    arguments = codes "meet" ∷ one ∷ other ∷ []

    from : (reported : Reported) → IsAsked arguments reported → Prints reported_whether (Overlaps Npm one other) reported
    from reported (asks_fits p e a) = absurd (cc e)
    from reported (asks_best e a) = absurd (cc e)
    from reported (asks_normal e a) = absurd (apart _ 0 (codes "meet") (codes "normal") refl (same_argument arguments _ 0 e) refl)
    from reported (asks_meet {one = a} {other = b} e m) =
        subst (λ (x : List ℕ). Prints reported_whether (Overlaps Npm x other) reported) (sym (same_argument arguments _ 1 e)) (subst (λ (x : List ℕ). Prints reported_whether (Overlaps Npm a x) reported) (sym (same_argument arguments _ 2 e)) m)
    from reported (asks_nothing n) = absurd (n (form_meet refl))

-- ---- arguments of no form

-- they print the usage
pub no_form : (arguments : List (List ℕ)) → (IsForm arguments → ⊥) → IsPrinted (IsAsked arguments) (Err problem.Usage)
no_form arguments n = record { reports = inr (asks_nothing n); every = every; usage = λ a. refl }
  where
    every : (reported : Reported) → IsAsked arguments reported → (Usage ≡ OutOfMemory) ⊎ (Usage ≡ reported)
    every reported (asks_fits p e a) = absurd (n (form_fits p e))
    every reported (asks_best e a) = absurd (n (form_best e))
    every reported (asks_normal e a) = absurd (n (form_normal e))
    every reported (asks_meet e a) = absurd (n (form_meet e))
    every reported (asks_nothing m) = inr refl

pub no_arguments : IsForm [] → ⊥
no_arguments (form_fits p e) = cc e
no_arguments (form_best e) = cc e
no_arguments (form_normal e) = cc e
no_arguments (form_meet e) = cc e

pub no_command : (command : List ℕ) (arguments : List (List ℕ)) → ((p : PreRelease) → command ≡ matching_command p → ⊥) → (command ≡ codes "best" → ⊥) → (command ≡ codes "normal" → ⊥)
    → (command ≡ codes "meet" → ⊥) → IsForm (command ∷ arguments) → ⊥
no_command command arguments no_fits no_best no_normal no_meet (form_fits p e) = no_fits p (same_argument _ _ 0 e)
no_command command arguments no_fits no_best no_normal no_meet (form_best e) = no_best (same_argument _ _ 0 e)
no_command command arguments no_fits no_best no_normal no_meet (form_normal e) = no_normal (same_argument _ _ 0 e)
no_command command arguments no_fits no_best no_normal no_meet (form_meet e) = no_meet (same_argument _ _ 0 e)

pub no_fits : (p : PreRelease) (arguments : List (List ℕ)) → (length arguments ≡ 3 → ⊥) → IsForm (matching_command p ∷ arguments) → ⊥
no_fits p arguments other (form_fits q e) = other (let size : suc (length arguments) ≡ 4 = same_length _ _ e in omega (arith, size))
no_fits p arguments other (form_best e) = other_command p (codes "best") (same_argument _ _ 0 e) refl
no_fits p arguments other (form_normal e) = other_command p (codes "normal") (same_argument _ _ 0 e) refl
no_fits p arguments other (form_meet e) = other_command p (codes "meet") (same_argument _ _ 0 e) refl

pub no_best : (arguments : List (List ℕ)) → length arguments < 3 → IsForm (codes "best" ∷ arguments) → ⊥
no_best arguments few (form_fits p e) = other_command p (codes "best") (sym (same_argument _ _ 0 e)) refl
no_best arguments few (form_best {versions = versions} e) = let size : suc (length arguments) ≡ suc (suc (suc (suc (length versions)))) = same_length _ _ e in omega (arith, size, few)
no_best arguments few (form_normal e) = apart _ 0 (codes "best") (codes "normal") refl (same_argument _ _ 0 e) refl
no_best arguments few (form_meet e) = apart _ 0 (codes "best") (codes "meet") refl (same_argument _ _ 0 e) refl

pub no_normal : (arguments : List (List ℕ)) → (length arguments ≡ 2 → ⊥) → IsForm (codes "normal" ∷ arguments) → ⊥
no_normal arguments other (form_fits p e) = other_command p (codes "normal") (sym (same_argument _ _ 0 e)) refl
no_normal arguments other (form_best e) = apart _ 0 (codes "normal") (codes "best") refl (same_argument _ _ 0 e) refl
no_normal arguments other (form_normal e) = other (let size : suc (length arguments) ≡ 3 = same_length _ _ e in omega (arith, size))
no_normal arguments other (form_meet e) = apart _ 0 (codes "normal") (codes "meet") refl (same_argument _ _ 0 e) refl

pub no_meet : (arguments : List (List ℕ)) → (length arguments ≡ 2 → ⊥) → IsForm (codes "meet" ∷ arguments) → ⊥
no_meet arguments other (form_fits p e) = other_command p (codes "meet") (sym (same_argument _ _ 0 e)) refl
no_meet arguments other (form_best e) = apart _ 0 (codes "meet") (codes "best") refl (same_argument _ _ 0 e) refl
no_meet arguments other (form_normal e) = apart _ 0 (codes "meet") (codes "normal") refl (same_argument _ _ 0 e) refl
no_meet arguments other (form_meet e) = other (let size : suc (length arguments) ≡ 3 = same_length _ _ e in omega (arith, size))

-- ---- the texts of a list by their places

module _ {S : Type 0} (bytes : S → List ℕ) where
  pub first_text : (all : List S) (one : S) → 0 < length all → one ≡ get_or all 0 one → map bytes all ≡ bytes one ∷ map bytes (take (length all - 1) (drop 1 all))
  first_text [] one some is = absurd (omega (arith, some))
  first_text (x ∷ xs) one some is = rw (is, take_all (length (x ∷ xs) - 1) xs (omega arith)) refl

  pub two_texts : (all : List S) (one two : S) → length all ≡ 2 → one ≡ get_or all 0 one → two ≡ get_or all 1 two → map bytes all ≡ bytes one ∷ bytes two ∷ []
  two_texts (x ∷ y ∷ []) one two size is is_two = rw (is, is_two) refl
  two_texts [] one two size is is_two = absurd (omega (arith, size))
  two_texts (x ∷ []) one two size is is_two = absurd (omega (arith, size))
  two_texts (x ∷ y ∷ z ∷ zs) one two size is is_two = absurd (omega (arith, size))

  pub three_texts : (all : List S) (one two three : S) → length all ≡ 3 → one ≡ get_or all 0 one → two ≡ get_or all 1 two → three ≡ get_or all 2 three
      → map bytes all ≡ bytes one ∷ bytes two ∷ bytes three ∷ []
  three_texts (x ∷ y ∷ z ∷ []) one two three size is is_two is_three = rw (is, is_two, is_three) refl
  three_texts [] one two three size is is_two is_three = absurd (omega (arith, size))
  three_texts (x ∷ []) one two three size is is_two is_three = absurd (omega (arith, size))
  three_texts (x ∷ y ∷ []) one two three size is is_two is_three = absurd (omega (arith, size))
  three_texts (x ∷ y ∷ z ∷ w ∷ ws) one two three size is is_two is_three = absurd (omega (arith, size))

  pub two_first : (all : List S) (one two : S) → 1 < length all → one ≡ get_or all 0 one → two ≡ get_or all 1 two
      → map bytes all ≡ bytes one ∷ bytes two ∷ map bytes (take (length all - 2) (drop 2 all))
  two_first [] one two some is is_two = absurd (omega (arith, some))
  two_first (x ∷ []) one two some is is_two = absurd (omega (arith, some))
  two_first (x ∷ y ∷ xs) one two some is is_two = rw (is, is_two, take_all (length (x ∷ y ∷ xs) - 2) xs (omega arith)) refl

-- ---- statuses

not_out_of_memory : (a : Line) → reported_answer a ≡ OutOfMemory → ⊥
not_out_of_memory line.Yes e = cc e
not_out_of_memory line.No e = cc e
not_out_of_memory (line.Tag tag) e = cc e
not_out_of_memory (line.Text text) e = cc e
not_out_of_memory line.NoMatch e = cc e

pub answer_status : (arguments : List (List ℕ)) (a : Line) (s : ℕ) → IsPrinted (IsAsked arguments) (Ok a) → (s ≡ 6) ⊎ (s ≡ status_of (reported_answer a)) → IsStatus arguments s
answer_status arguments a s h is = go h.reports is
  where
    go : (reported_answer a ≡ OutOfMemory) ⊎ IsAsked arguments (reported_answer a) → (s ≡ 6) ⊎ (s ≡ status_of (reported_answer a)) → IsStatus arguments s
    go (inl e) k = absurd (not_out_of_memory a e)
    go (inr asked) (inl e) = subst (IsStatus arguments) (sym e) (of_unwritten a asked)
    go (inr asked) (inr e) = subst (IsStatus arguments) (sym e) (of_reported (reported_answer a) asked)

pub problem_status : (arguments : List (List ℕ)) (p : Problem) (s : ℕ) → IsPrinted (IsAsked arguments) (Err p) → s ≡ status_of (reported_problem p) → IsStatus arguments s
problem_status arguments p s h is = subst (IsStatus arguments) (sym is) (go h.reports)
  where
    go : (reported_problem p ≡ OutOfMemory) ⊎ IsAsked arguments (reported_problem p) → IsStatus arguments (status_of (reported_problem p))
    go (inl e) = subst (λ (t : Reported). IsStatus arguments (status_of t)) (sym e) of_out_of_memory
    go (inr asked) = of_reported (reported_problem p) asked
