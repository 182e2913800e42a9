-- The first character that no tag has, and the kinds that are expected.
use Rattle.std.proofs.Common.{◌≡◌, ◌+◌, ◌<◌, ◌++◌, ℕ, Bool, true, false, List, [], ◌∷◌, Option, Some, None, length, take, get_or, refl, sym, subst, MatchOption}
use Rattle.std.proofs.lemmas.List.{take_more}
use Rattle.std.specs.Str.Pattern.{FindsBy, MatchBeginsAt}
use Rattle.semver_base.specs.declared.failure.Rejection.{Rejection}
use Rattle.semver_base.specs.declared.failure.Rejection.TheVariants as rejection
use Rattle.semver_req.specs.declared.common.values.Flavour.{Flavour}
use Rattle.semver_req.specs.declared.common.values.Flavour.TheVariants.{Npm, Normal, Specifier}
use Rattle.semver_req.specs.Causes.{IsFirstOutsideTag, IsRejected, followed, front_bound, front_number, is_outside_tag, no_range, whitespace}
use Rattle.semver_req.specs.PieceReading.{large_bound, large_number, outside}
use Rattle.semver_req.specs.Kinds.{AreExpected, IsExpected, may_follow, may_not, no_kind}
use Rattle.semver_req.specs.declared.error_places.expected.Kind.{Kind}

pub first_outside : (Always : (ℕ → Bool) → Type 0) → Always is_outside_tag → (text : List ℕ) (r : Option ℕ)
    → MatchOption r ((k : ℕ → Bool) → Always k → FindsBy k text None) (MatchBeginsAt (λ s p. (k : ℕ → Bool) → Always k → FindsBy k s p) text) → IsFirstOutsideTag text r
first_outside Always h text None m = m is_outside_tag h
first_outside Always h text (Some i) m = let f = m.1 is_outside_tag h in (f.0, (m.0, f.1))

module _ (f : Flavour) (prefix : List ℕ) where
  one_more : {kinds found : List Kind} {kind : Kind} → AreExpected f prefix kinds found → IsExpected f prefix kind true → AreExpected f prefix (kinds ++ kind ∷ []) (found ++ kind ∷ [])
  one_more no_kind e = may_follow e no_kind
  one_more (may_follow k more) e = may_follow k (one_more more e)
  one_more (may_not k more) e = may_not k (one_more more e)

  none_more : {kinds found : List Kind} {kind : Kind} → AreExpected f prefix kinds found → IsExpected f prefix kind false → AreExpected f prefix (kinds ++ kind ∷ []) found
  none_more no_kind e = may_not e no_kind
  none_more (may_follow k more) e = may_follow k (none_more more e)
  none_more (may_not k more) e = may_not k (none_more more e)

  pub next_expected : (kinds found : List Kind) (i : ℕ) (d : Kind) → i < length kinds → AreExpected f prefix (take i kinds) found → {says : Bool} → says ≡ true → IsExpected f prefix (get_or kinds i d) says
      → AreExpected f prefix (take (i + 1) kinds) (found ++ get_or kinds i d ∷ [])
  next_expected kinds found i d within h is e = subst (λ ks. AreExpected f prefix ks (found ++ get_or kinds i d ∷ [])) (sym (take_more kinds i d within)) (one_more h (subst (λ b. IsExpected f prefix (get_or kinds i d) b) is e))

  pub next_not : (kinds found : List Kind) (i : ℕ) (d : Kind) → i < length kinds → AreExpected f prefix (take i kinds) found → {says : Bool} → says ≡ false → IsExpected f prefix (get_or kinds i d) says
      → AreExpected f prefix (take (i + 1) kinds) found
  next_not kinds found i d within h is e = subst (λ ks. AreExpected f prefix ks found) (sym (take_more kinds i d within)) (none_more h (subst (λ b. IsExpected f prefix (get_or kinds i d) b) is e))

-- ---- why an alternative is rejected

-- unless it is empty or a number or a bound is too large, it is outside the grammar
pub only_outside : (f : Flavour) (piece : List ℕ) (why : Rejection) → IsRejected f piece why
    → (why ≡ rejection.EmptyConstraint → ⊥) → (why ≡ rejection.NumberTooLarge → ⊥) → (why ≡ rejection.BoundTooLarge → ⊥) → IsRejected f piece rejection.UnexpectedCharacter
only_outside Npm text why (outside none) empty number bound = outside none
only_outside Npm text why (large_number cs piece large) empty number bound = absurd (number refl)
only_outside Npm text why (large_bound cs piece fit large) empty number bound = absurd (bound refl)
only_outside Normal text why (outside none) empty number bound = outside none
only_outside Normal text why (large_number cs piece large) empty number bound = absurd (number refl)
only_outside Normal text why (large_bound cs piece fit large) empty number bound = absurd (bound refl)
only_outside Specifier text why (whitespace blank) empty number bound = absurd (empty refl)
only_outside Specifier text why (no_range none filled) empty number bound = no_range none filled
only_outside Specifier text why (followed front fit more) empty number bound = followed front fit more
only_outside Specifier text why (front_number front large) empty number bound = absurd (number refl)
only_outside Specifier text why (front_bound front fit large) empty number bound = absurd (bound refl)
