-- The values of several texts.
use Rattle.std.proofs.Common.{◌≡◌, ◌++◌, ◌+◌, ◌∙◌, arith, ℕ, List, [], ◌∷◌, length, Ok, Err, Result, refl, subst}
use Rattle.answers.specs.Asking.{Each, Given, IsOutcomeOf, Is}
use Rattle.answers.specs.AskingLaws.{answered, by_fault, by_value}

module _ {X P : Type 0} (memory : P) (Argument : ℕ → List ℕ → Result X P → Type 0) where
  -- the texts have these values
  abbrev pub AreValues : ℕ → List (List ℕ) → List X → Type 0
  AreValues place [] [] = Unit {0}
  AreValues place [] (x ∷ xs) = ⊥
  AreValues place (text ∷ texts) [] = ⊥
  AreValues place (text ∷ texts) (x ∷ xs) = IsOutcomeOf memory (Argument place text) (Ok x) × AreValues (place + 1) texts xs

  -- one more text
  pub one_more : (place : ℕ) (texts : List (List ℕ)) (xs : List X) (text : List ℕ) (x : X) (at : ℕ) → at ≡ place + length xs → AreValues place texts xs
      → IsOutcomeOf memory (Argument at text) (Ok x) → AreValues place (texts ++ text ∷ []) (xs ++ x ∷ [])
  one_more place [] [] text x at e h k = (subst (λ (n : ℕ). IsOutcomeOf memory (Argument n text) (Ok x)) (e ∙ omega arith) k, tt)
  one_more place [] (y ∷ ys) text x at e h k = absurd h
  one_more place (t ∷ ts) [] text x at e h k = absurd h
  one_more place (t ∷ ts) (y ∷ ys) text x at e h k = (h.0, one_more (place + 1) ts ys text x at (e ∙ omega arith) h.1 k)

  -- all texts
  pub all_values : (place : ℕ) (texts : List (List ℕ)) (xs : List X) → AreValues place texts xs → IsOutcomeOf memory (Each Argument place texts) (Ok xs)
  all_values place [] [] h = answered memory [] [] refl
  all_values place [] (x ∷ xs) h = absurd h
  all_values place (t ∷ ts) [] h = absurd h
  all_values place (t ∷ ts) (x ∷ xs) h =
      by_value memory (Argument place t) (λ (y : X). Given (Each Argument (place + 1) ts) (λ (ys : List X). Is (y ∷ ys))) x h.0 (Ok (x ∷ xs))
      (by_value memory (Each Argument (place + 1) ts) (λ (ys : List X). Is (x ∷ ys)) xs (all_values (place + 1) ts xs h.1) (Ok (x ∷ xs)) (answered memory (x ∷ xs) (x ∷ xs) refl))

  -- the next text is invalid
  pub next_invalid : (place : ℕ) (texts more : List (List ℕ)) (xs : List X) (text : List ℕ) (fault : P) (at : ℕ) → at ≡ place + length xs → AreValues place texts xs
      → IsOutcomeOf memory (Argument at text) (Err fault) → IsOutcomeOf memory (Each Argument place (texts ++ text ∷ more)) (Err fault)
  next_invalid place [] more [] text fault at e h k =
      by_fault memory (Argument place text) (λ (y : X). Given (Each Argument (place + 1) more) (λ (ys : List X). Is (y ∷ ys))) fault
      (subst (λ (n : ℕ). IsOutcomeOf memory (Argument n text) (Err fault)) (e ∙ omega arith) k)
  next_invalid place [] more (y ∷ ys) text fault at e h k = absurd h
  next_invalid place (t ∷ ts) more [] text fault at e h k = absurd h
  next_invalid place (t ∷ ts) more (y ∷ ys) text fault at e h k =
      by_value memory (Argument place t) (λ (z : X). Given (Each Argument (place + 1) (ts ++ text ∷ more)) (λ (zs : List X). Is (z ∷ zs))) y h.0 (Err fault)
      (by_fault memory (Each Argument (place + 1) (ts ++ text ∷ more)) (λ (zs : List X). Is (y ∷ zs)) fault (next_invalid (place + 1) ts more ys text fault at (e ∙ omega arith) h.1 k))
