-- Why a text isn't a range of the strict grammar.
use Rattle.std.proofs.Common.{◌≡◌, ℕ, true, List, refl}
use Rattle.std.proofs.lemmas.Bool.{and_from}
use Rattle.semver_base.specs.Comparators.{Comparator, comparator_range}
use Rattle.semver_base.specs.Lexical.{IsWhitespace}
use Rattle.semver_base.specs.declared.failure.Rejection.{Rejection}
use Rattle.semver_base.specs.declared.failure.Rejection.TheVariants.{UnexpectedCharacter}
use Rattle.semver_base.specs.declared.range.VersionRange.{VersionRange}
use Rattle.semver_req.specs.Causes.{IsStrictRejection, followed, front_bound, front_number, no_range}
use Rattle.semver_req.specs.Comparators.{fits}
use Rattle.semver_req.specs.Outcome.{IsSpecifierRange}
use Rattle.semver_req.specs.Single.{IsSingle, absent, is_followed, is_range, over_bound, over_number}
use Rattle.semver_req.specs.declared.specifier.Single.TheVariants.{Absent, Followed, Range, TooLarge}
use Rattle.semver_req.specs.declared.common.values.Flavour.TheVariants.{Specifier}
use Rattle.semver_req.proofs.Fitting.{whole_front}

module _ {text : List ℕ} where
  pub whole_range : {range : VersionRange} → IsSingle Specifier text (Range range) → (c : Comparator) × IsSpecifierRange text c × (fits c ≡ true) × (range ≡ comparator_range c)
  whole_range (is_range {c} longest numbers sums) = (c, whole_front longest, and_from _ _ numbers sums, refl)

  pub absent_rejection : IsSingle Specifier text Absent → (IsWhitespace text tt → ⊥) → IsStrictRejection text UnexpectedCharacter
  absent_rejection (absent none) not = no_range none not

  pub followed_rejection : IsSingle Specifier text Followed → IsStrictRejection text UnexpectedCharacter
  followed_rejection (is_followed longest numbers sums some) = followed longest (and_from _ _ numbers sums) some

  pub large_rejection : {why : Rejection} → IsSingle Specifier text (TooLarge why) → IsStrictRejection text why
  large_rejection (over_number longest large) = front_number longest large
  large_rejection (over_bound longest numbers large) = front_bound longest numbers large
