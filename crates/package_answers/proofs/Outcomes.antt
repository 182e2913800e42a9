-- Failures that mean that memory ran out, and the registry of a text.
use Rattle.std.proofs.Common.{◌≡◌, ◌≢◌, ◌∙◌, ℕ, List, [], Ok, Err, Some, None, Result, refl, ap, subst, inl, inr, ◌⊎◌}
use Rattle.semver_req.specs.Parsers.{Failure}
use Rattle.deno_semver.specs.declared.package.values.PackageKind.{PackageKind}
use Rattle.deno_semver.specs.declared.package.values.PackageKind.TheVariants.{Jsr, Npm}
use Rattle.package_answers.specs.References.{IsRegistryOf}

-- an error for out of memory has no other failure
pub none_shown : (failure shown : Failure) → (failure ≡ None) ⊎ (failure ≡ shown) → shown ≡ None → failure ≡ None
none_shown failure shown (inl none) m = none
none_shown failure shown (inr is) m = is ∙ m

-- the same where the failure is the error's message, which out of memory lacks
pub no_message : (message : List ℕ) (failure : Failure) → (failure ≡ None) ⊎ ((message ≢ []) × (failure ≡ Some (message, None))) → message ≡ [] → failure ≡ None
no_message message failure (inl none) m = none
no_message message failure (inr h) m = absurd (h.0 m)

pub one_registry : (text : List ℕ) (k j : PackageKind) → IsRegistryOf text k → IsRegistryOf text j → k ≡ j
one_registry text Jsr Jsr h g = refl
one_registry text Jsr Npm h g = absurd (g h.0 h.1)
one_registry text Npm Jsr h g = absurd (h g.0 g.1)
one_registry text Npm Npm h g = refl

-- outcomes of a text by the parser of its registry are outcomes by this parser, which is that of the registry
module _ {X F : Type 0} (Outcome : PackageKind → Result X F → Type 0) (text : List ℕ) (kind : PackageKind) (registry : IsRegistryOf text kind) where
  pub by_this : (j : PackageKind) (o : Result X F) → IsRegistryOf text j → Outcome j o → Outcome kind o
  by_this j o r k = subst (λ (i : PackageKind). Outcome i o) (one_registry text j kind r registry) k

  -- a value of the registry, built of both, is the one that the parser found
  pub same_of_registry : {Y : Type 0} (made : PackageKind → X → Y) (x : X) (j : PackageKind) (y : X) → IsRegistryOf text j → Outcome j (Ok y) → ((z : X) → Outcome kind (Ok z) → x ≡ z)
      → made kind x ≡ made j y
  same_of_registry made x j y r k only = ap (made kind) (only y (by_this j (Ok y) r k)) ∙ ap (λ (i : PackageKind). made i y) (one_registry text kind j registry r)

  pub in_registry : {M : Type 0} {Reported : F → Type 0} → M ⊎ ((fault : F) × Outcome kind (Err fault) × Reported fault)
      → M ⊎ ((fault : F) × ((j : PackageKind) × IsRegistryOf text j × Outcome j (Err fault)) × Reported fault)
  in_registry (inl m) = inl m
  in_registry (inr found) = inr (found.0, (kind, registry, found.1), found.2)
