-- The results of calls, from those of questions about texts.
use Rattle.std.proofs.Common.{◌≡◌, ◌∙◌, arith, ℕ, List, Ok, Err, Result, refl, sym, ap, subst, inl, inr, ◌⊎◌, IfOk, IsErrAnd, IsUtf8, MatchResult}
use Rattle.std.proofs.lemmas.Result.{err_from_is_err_and}
use Rattle.std.specs.declared.alloc.AllocError.{AllocError}
use Rattle.semver_req.specs.Viable.{IsErrorPlace, IsVersionText}
use Rattle.answers.specs.AskingLaws.{answered, by_fault, by_value, fault_as_fault, fault_no_value, out_of_memory, same_fault, same_value, value_no_fault}
use Rattle.answers.specs.Asking.{Fault, Given, Is, IsAnswer, IsOutcomeOf, OutOfMemory, fault_of, invalid, outcome_of, valid}
use Rattle.answers.specs.declared.asking.Problem.{Problem as Unanswered}
use Rattle.answers.specs.declared.asking.Problem.TheVariants as unanswered
use Rattle.semver_c.specs.Arguments.{CallFault, Called, IsArgument, IsCallAnswer, IsOnly, IsUtf8Text, NotUtf8, asked_result, call_fault, called, called_outcome, memory, no_text, call_outcome, text}
use Rattle.semver_c.specs.declared.arguments.Problem.{Problem}
use Rattle.semver_c.specs.declared.arguments.Problem.TheVariants as problem

-- ---- texts

module _ (bytes : List ℕ) where
  pub text_found : IsUtf8 bytes → IsOnly (IsUtf8Text bytes) (Ok bytes)
  text_found h = (text h, λ o a. only o a)
    where
      only : (o : Result (List ℕ) CallFault) → IsUtf8Text bytes o → Ok bytes ≡ o
      only o (text k) = refl
      only o (no_text never) = absurd (never h)

  pub text_missing : (IsUtf8 bytes → ⊥) → IsOnly (IsUtf8Text bytes) (Err NotUtf8)
  text_missing never = (no_text never, λ o a. only o a)
    where
      only : (o : Result (List ℕ) CallFault) → IsUtf8Text bytes o → Err NotUtf8 ≡ o
      only o (text k) = absurd (never k)
      only o (no_text other) = refl

-- ---- given an argument

-- the outcome of a `?`
pub exit : {E Y : Type 0} (value : E → Y) (r : Result E Problem) (p : Problem) → IsErrAnd r (λ e. e ≡ p) → call_outcome value r ≡ Err (call_fault p)
exit value (Ok x) p is = absurd is
exit value (Err e) p is = ap (λ (q : Problem). Err (call_fault q)) is

only_outcome : {X : Type 0} (Argument : Result X CallFault → Type 0) (o : Result X CallFault) → IsOnly Argument o → IsOutcomeOf memory Argument o
only_outcome Argument o h = record { is = inr h.0; only = λ p a. inr (h.1 p a) }

module _ {A Y : Type 0} (Argument : Result A CallFault → Type 0) (Asked : A → Result Y CallFault → Type 0) where
  only_value : (x : A) → IsOnly Argument (Ok x) → (o : Result Y CallFault) → IsOnly (Asked x) o → IsOnly (Given Argument Asked) o
  only_value x h o k = (valid h.0 k.0, λ p a. only p a)
    where
      only : (p : Result Y CallFault) → Given Argument Asked p → o ≡ p
      only p (valid {x = y} w a) = k.1 p (subst (λ (z : A). Asked z p) (sym (same_value x y (h.1 (Ok y) w))) a)
      only p (invalid {fault = fault} w) = absurd (value_no_fault x fault (h.1 (Err fault) w))

  only_fault : (fault : CallFault) → IsOnly Argument (Err fault) → IsOnly (Given Argument Asked) (Err fault)
  only_fault fault h = (invalid h.0, λ p a. only p a)
    where
      only : (p : Result Y CallFault) → Given Argument Asked p → Err fault ≡ p
      only p (valid {x = x} w a) = absurd (fault_no_value x fault (h.1 (Ok x) w))
      only p (invalid {fault = other} w) = fault_as_fault fault other (same_fault fault other (h.1 (Err other) w))

module _ {A E Y : Type 0} (Argument : Result A CallFault → Type 0) (Asked : A → Result Y CallFault → Type 0) (value : E → Y) (r : Result E Problem) where
  -- it is invalid
  pub without : (p : Problem) → IsOnly Argument (Err (call_fault p)) → IsErrAnd r (λ e. e ≡ p) → IsCallAnswer (Given Argument Asked) value r
  without p h is = subst (IsOutcomeOf memory (Given Argument Asked)) (sym (exit value r p is)) (by_fault memory Argument Asked (call_fault p) (only_outcome Argument (Err (call_fault p)) h))

  pub argument_without : (p : Problem) → IsOnly Argument (Err (call_fault p)) → IsErrAnd r (λ e. e ≡ p) → IsArgument (Given Argument Asked) value r
  argument_without p h is = subst (IsOnly (Given Argument Asked)) (sym (exit value r p is)) (only_fault Argument Asked (call_fault p) h)

  -- it is valid
  pub within : (x : A) → IsOnly Argument (Ok x) → IsCallAnswer (Asked x) value r → IsCallAnswer (Given Argument Asked) value r
  within x h k = by_value memory Argument Asked x (only_outcome Argument (Ok x) h) (call_outcome value r) k

  pub argument_within : (x : A) → IsOnly Argument (Ok x) → IsArgument (Asked x) value r → IsArgument (Given Argument Asked) value r
  argument_within x h k = only_value Argument Asked x h (call_outcome value r) k

-- ---- questions about texts

called_outcome_of : {X : Type 0} (Asked : Result X Fault → Type 0) (o : Result X Fault) → IsOutcomeOf OutOfMemory Asked o → IsOutcomeOf memory (Called Asked) (called_outcome o)
called_outcome_of {X = X} Asked o h = record { is = is h.is; only = λ p a. only p a }
  where
    is : (o ≡ Err OutOfMemory) ⊎ Asked o → (called_outcome o ≡ Err memory) ⊎ Called Asked (called_outcome o)
    is (inl e) = inl (ap called_outcome e)
    is (inr a) = inr (called a)

    same : (p : Result X Fault) → (o ≡ Err OutOfMemory) ⊎ (o ≡ p) → (called_outcome o ≡ Err memory) ⊎ (called_outcome o ≡ called_outcome p)
    same p (inl e) = inl (ap called_outcome e)
    same p (inr e) = inr (ap called_outcome e)

    only : (p : Result X CallFault) → Called Asked p → (called_outcome o ≡ Err memory) ⊎ (called_outcome o ≡ p)
    only p (called {outcome = q} a) = same q (h.only q a)

module _ {E Y : Type 0} (Asked : Result Y Fault → Type 0) (value : E → Y) (r : Result E Problem) where
  pub by_answer : (o : Result Y Fault) → IsOutcomeOf OutOfMemory Asked o → call_outcome value r ≡ called_outcome o → IsCallAnswer (Called Asked) value r
  by_answer o h e = subst (IsOutcomeOf memory (Called Asked)) (sym e) (called_outcome_of Asked o h)

  -- the question has no result
  pub by_problem : (why : Unanswered) → IsOutcomeOf OutOfMemory Asked (Err (fault_of why)) → (p : Problem) → IsErrAnd r (λ e. e ≡ p) → p ≡ problem.Unanswered why → IsCallAnswer (Called Asked) value r
  by_problem why h p is e = by_answer (Err (fault_of why)) h (exit value r p is ∙ ap (λ (q : Problem). Err (call_fault q)) e)

  -- memory ran out before the result
  pub by_memory : (p : Problem) → IsErrAnd r (λ e. e ≡ p) → p ≡ problem.Unanswered unanswered.OutOfMemory → IsCallAnswer (Called Asked) value r
  by_memory p is e = by_problem unanswered.OutOfMemory (out_of_memory OutOfMemory Asked) p is e

  -- the result is made from that of the question
  pub asked : (P : Unanswered → Problem → Type 0) (found : Result E Unanswered) → IsAnswer Asked value found → MatchResult found (λ v. r ≡ Ok v) (λ e. IsErrAnd r (P e))
      → ((e : Unanswered) (p : Problem) → P e p → p ≡ problem.Unanswered e) → IsCallAnswer (Called Asked) value r
  asked P (Ok v) h made gives = by_answer (Ok (value v)) h (ap (call_outcome value) made)
  asked P (Err why) h made gives =
      let p = err_from_is_err_and r made in
      by_answer (Err (fault_of why)) h (ap (call_outcome value) p.1 ∙ ap (λ (q : Problem). Err (call_fault q)) (gives why p.0 p.2))

  -- of a question that fails only out of memory
  pub asked_for : (P : AllocError → Problem → Type 0) (found : Result E AllocError) → IfOk found (λ v. IsOutcomeOf OutOfMemory Asked (Ok (value v)))
      → MatchResult found (λ v. r ≡ Ok v) (λ e. IsErrAnd r (P e)) → ((e : AllocError) (p : Problem) → P e p → p ≡ problem.Unanswered unanswered.OutOfMemory) → IsCallAnswer (Called Asked) value r
  asked_for P (Ok v) h made gives = by_answer (Ok (value v)) h (ap (call_outcome value) made)
  asked_for P (Err e) h made gives =
      let p = err_from_is_err_and r made in
      by_answer (Err OutOfMemory) (out_of_memory OutOfMemory Asked) (ap (call_outcome value) p.1 ∙ ap (λ (q : Problem). Err (call_fault q)) (gives e p.0 p.2))

-- ---- what is found of a text

-- what is found of a text, which has no other
pub only_found : {T E F : Type 0} (Found : T → Type 0) (value : E → T) (found : Result E F) → IfOk found (λ v. Found (value v)) → ((t : T) → Found t → IfOk found (λ v. value v ≡ t))
    → IfOk found (λ v. IsOutcomeOf OutOfMemory (λ (outcome : Result T Fault). (t : T) × Found t × (outcome ≡ Ok t)) (Ok (value v)))
only_found Found value (Ok v) h one = record { is = inr (value v, h, refl); only = λ o a. inr (ap Ok (one a.0 a.1) ∙ sym a.2) }
only_found Found value (Err e) h one = tt

-- a text stops being a version at one place
pub one_place : (bytes : List ℕ) {F : Type 0} (found : Result ℕ F) → IfOk found (IsErrorPlace IsVersionText bytes) → (n : ℕ) → IsErrorPlace IsVersionText bytes n → IfOk found (λ m. m ≡ n)
one_place bytes (Ok m) h n k = omega (arith, h.longest n k.boundary k.viable, k.longest m h.boundary h.viable)
one_place bytes (Err e) h n k = tt

-- the value that is asked for
pub answered_for : {T E F : Type 0} (t : T) (value : E → T) (found : Result E F) → IfOk found (λ v. value v ≡ t) → IfOk found (λ v. IsOutcomeOf OutOfMemory (Is t) (Ok (value v)))
answered_for t value (Ok v) h = answered OutOfMemory (value v) t h
answered_for t value (Err e) h = tt

-- ---- a question about an argument

same_outcome : {E Y : Type 0} (value : E → Y) (found : Result E Unanswered) → call_outcome value (asked_result found) ≡ called_outcome (outcome_of value found)
same_outcome value (Ok e) = refl
same_outcome value (Err why) = refl

module _ {A T E Y : Type 0} (Argument : Result A CallFault → Type 0) (Asked : A → Result Y Fault → Type 0) (given : T → A) (value : E → Y) (Post : T → Result E Unanswered → Type 0) where
  -- the answer to a question that is asked of an argument, if it is valid
  pub asked_of : (argument : Result T Problem) (r : Result E Problem) → IsArgument Argument given argument
      → MatchResult argument (λ t. (found : Result E Unanswered) × Post t found × (r ≡ asked_result found)) (λ p. r ≡ Err p)
      → ((t : T) (found : Result E Unanswered) → Post t found → IsAnswer (Asked (given t)) value found) → IsCallAnswer (Given Argument (λ a. Called (Asked a))) value r
  asked_of (Ok t) r h made answers =
      within Argument (λ a. Called (Asked a)) value r (given t) h
      (by_answer (Asked (given t)) value r (outcome_of value made.0) (answers t made.0 made.1) (ap (call_outcome value) made.2 ∙ same_outcome value made.0))
  asked_of (Err p) r h made answers = without Argument (λ a. Called (Asked a)) value r p h (subst (λ (s : Result E Problem). IsErrAnd s (λ e. e ≡ p)) (sym made) refl)
