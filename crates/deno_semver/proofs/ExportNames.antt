-- A path without its trailing `/`.
use Rattle.std.proofs.Common.{◌≡◌, ◌≢◌, ◌==◌, ℕ, List, [], ◌∷◌, ◌++◌, Bor, Option, None, Some, MatchOption, refl, sym, ap, ◌∙◌, inl, inr}
use Rattle.std.specs.Option.{unwrap_or}
use Rattle.std.proofs.lemmas.Bool.{cases_Bool, eqb-true}
use Rattle.deno_semver.specs.ExportName.{without_last_slash}

without_last : (front : List ℕ) → without_last_slash (front ++ (47 ∷ [])) ≡ front
without_last [] = refl
without_last (a ∷ []) = refl
without_last (a ∷ b ∷ rest) = ap (λ t. a ∷ t) (without_last (b ∷ rest))

no_last : (path : List ℕ) → ((front : List ℕ) → path ≢ front ++ (47 ∷ [])) → without_last_slash path ≡ path
no_last [] h = refl
no_last (a ∷ []) h = elim (cases_Bool (a == 47)) [
  | inl is ↦ absurd (h [] (rw (eqb-true a 47 is) refl))
  | inr isnt ↦ rw isnt refl
]
no_last (a ∷ b ∷ rest) h = ap (λ t. a ∷ t) (no_last (b ∷ rest) (λ front e. h (a ∷ front) (ap (λ t. a ∷ t) e)))

pub without_slash : (path : Bor (List ℕ)) (r : Option (Bor (List ℕ))) → MatchOption r ((front : List ℕ) → path.now ≢ front ++ (47 ∷ [])) (λ front. path.now ≡ front.now ++ (47 ∷ [])) → (unwrap_or r path).now ≡ without_last_slash path.now
without_slash path None none = sym (no_last path.now none)
without_slash path (Some front) is = sym (ap without_last_slash is ∙ without_last front.now)
