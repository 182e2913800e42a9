-- Parsing arguments one by one from a list of texts.
use Rattle.std.proofs.Common.{◌≡◌, ◌+◌, ◌<◌, ◌≤◌, ◌++◌, ◌∷◌, ◌∙◌, ℕ, zero, suc, arith, List, [], length, map, take, get_or, Ok, Err, Result, refl, sym, ap, subst}
use Rattle.std.proofs.lemmas.List.{map-append, take_all, take_more}
use Rattle.semver_req.specs.Parsers.{AreReadOrTags, IsReadOrTag}
use Rattle.semver_req.specs.Requirement.{Requirement}
use Rattle.answers.specs.Asking.{Each, IsOutcomeOf}
use Rattle.answers.proofs.Givens.{AreValues, all_values, next_invalid, one_more}

-- the parsed requirements, and one more
pub read_more : (reqs : List Requirement) (req : Requirement) → AreReadOrTags reqs → IsReadOrTag req.inner → AreReadOrTags (reqs ++ req ∷ [])
read_more [] req h k = (k, tt)
read_more (r ∷ rs) req h k = (h.0, read_more rs req h.1 k)

module _ {S : Type 0} (bytes : S → List ℕ) where
  -- the text at a place, and what follows it
  split_at : (xs : List S) (i : ℕ) (d : S) → i < length xs → (rest : List (List ℕ)) × (map bytes xs ≡ map bytes (take i xs) ++ bytes (get_or xs i d) ∷ rest)
  split_at [] i d within = absurd (omega (arith, within))
  split_at (x ∷ xs) zero d within = (map bytes xs, refl)
  split_at (x ∷ xs) (suc i) d within =
      let later = split_at xs i d (omega (arith, within)) in
      (later.0, ap (λ ys. bytes x ∷ ys) later.1)

  module _ {X P : Type 0} (memory : P) (Argument : ℕ → List ℕ → Result X P → Type 0) where
    pub value_more : (xs : List S) (i : ℕ) (d : S) (ys : List X) (y : X) (at : ℕ) → i < length xs → AreValues memory Argument 0 (map bytes (take i xs)) ys → at ≡ length ys
        → IsOutcomeOf memory (Argument at (bytes (get_or xs i d))) (Ok y) → AreValues memory Argument 0 (map bytes (take (i + 1) xs)) (ys ++ y ∷ [])
    value_more xs i d ys y at within h e k =
        subst (λ texts. AreValues memory Argument 0 texts (ys ++ y ∷ []))
        (sym (ap (map bytes) (take_more xs i d within) ∙ map-append bytes (take i xs) (get_or xs i d ∷ [])))
        (one_more memory Argument 0 (map bytes (take i xs)) ys (bytes (get_or xs i d)) y at (e ∙ omega arith) h k)

    pub value_missing : (xs : List S) (i : ℕ) (d : S) (ys : List X) (fault : P) (at : ℕ) → i < length xs → AreValues memory Argument 0 (map bytes (take i xs)) ys → at ≡ length ys
        → IsOutcomeOf memory (Argument at (bytes (get_or xs i d))) (Err fault) → IsOutcomeOf memory (Each Argument 0 (map bytes xs)) (Err fault)
    value_missing xs i d ys fault at within h e k =
        let cut = split_at xs i d within in
        subst (λ texts. IsOutcomeOf memory (Each Argument 0 texts) (Err fault)) (sym cut.1)
        (next_invalid memory Argument 0 (map bytes (take i xs)) cut.0 ys (bytes (get_or xs i d)) fault at (e ∙ omega arith) h k)

    pub values_of_all : (xs : List S) (i : ℕ) (ys : List X) → length xs ≤ i → AreValues memory Argument 0 (map bytes (take i xs)) ys
        → IsOutcomeOf memory (Each Argument 0 (map bytes xs)) (Ok ys)
    values_of_all xs i ys past h =
        subst (λ texts. IsOutcomeOf memory (Each Argument 0 (map bytes texts)) (Ok ys)) (take_all i xs past) (all_values memory Argument 0 (map bytes (take i xs)) ys h)
