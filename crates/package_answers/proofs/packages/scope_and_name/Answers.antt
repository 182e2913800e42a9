use Rattle.std.proofs.Common.{◌≡◌, ◌==◌, List, ℕ, [], ◌∷◌, Bool, true, false, None, refl, sym, ap, arith}
use Rattle.std.proofs.lemmas.Bool.Decides.{nat_tests}
use Rattle.std.proofs.lemmas.Str.Pattern.{strip_prefix_char}
use Rattle.package_answers.specs.Packages.{last_part, scope_part}
use Rattle.package_answers.proofs.packages.scope_and_name.Goals as goal

is_at : (x : ℕ) (b : Bool) → b ≡ (x == 64) → b ≡ true → x ≡ 64
is_at x b e f = grind (arith, nat_tests)

-- a name that doesn't begin with `@` has no scope
no_scope : (name : List ℕ) → ((rest : List ℕ) → name ≡ 64 ∷ rest → ⊥) → (scope_part name ≡ None) × (last_part name ≡ name)
no_scope [] h = (refl, refl)
no_scope (x ∷ more) h = go (x == 64) refl
  where
    go : (b : Bool) → b ≡ (x == 64) → (scope_part (x ∷ more) ≡ None) × (last_part (x ∷ more) ≡ x ∷ more)
    go true e = absurd (h more (ap (λ (y : ℕ). y ∷ more) (is_at x true e refl)))
    go false e = rw (sym e) (refl, refl)

pub returns-in_default-clause-scope : goal.returns-in_default-clause-scope
returns-in_default-clause-scope c = sym (no_scope c.args.name.now (strip_prefix_char 64 c.args.name.now None c.in_default.ensures.cases (omega arith))).0

pub returns-in_default-clause-last : goal.returns-in_default-clause-last
returns-in_default-clause-last c = sym (no_scope c.args.name.now (strip_prefix_char 64 c.args.name.now None c.in_default.ensures.cases (omega arith))).1
