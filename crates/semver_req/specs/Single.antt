-- What a text is as one comparator without a comparison operator.
use Rattle.std.specs.Prelude.{◌≡◌, ◌<◌, ℕ, List, [], length, true, false}
use Rattle.semver_base.specs.Comparators.{Comparator, comparator_range}
use Rattle.semver_base.specs.Grammar.{HasNone, IsLongest}
use Rattle.semver_base.specs.declared.failure.Rejection.TheVariants.{BoundTooLarge, NumberTooLarge}
use Rattle.semver_req.specs.PieceReading.{numbers_fit, sums_fit}
use Rattle.semver_req.specs.Written.{IsNonPrimitive}
use Rattle.semver_req.specs.declared.specifier.Single.{Single}
use Rattle.semver_req.specs.declared.specifier.Single.TheVariants.{Absent, Followed, Range, TooLarge}
use Rattle.semver_req.specs.declared.common.values.Flavour.{Flavour}

pub data IsSingle (f : Flavour) (text : List ℕ) : Single → Type 0 where
  -- one whose numbers and bounds fit
  is_range : {c : Comparator} → IsLongest (IsNonPrimitive f) text c [] → numbers_fit c ≡ true → sums_fit c ≡ true
      → IsSingle f text (Range (comparator_range c))
  -- not one from its start on
  absent : HasNone (IsNonPrimitive f) text → IsSingle f text Absent
  -- one whose numbers and bounds fit, and something behind it
  is_followed : {c : Comparator} {rest : List ℕ} → IsLongest (IsNonPrimitive f) text c rest → numbers_fit c ≡ true
      → sums_fit c ≡ true → 0 < length rest → IsSingle f text Followed
  -- one of which a number, or else a bound, is too large, and maybe something behind it
  over_number : {c : Comparator} {rest : List ℕ} → IsLongest (IsNonPrimitive f) text c rest → numbers_fit c ≡ false
      → IsSingle f text (TooLarge NumberTooLarge)
  over_bound : {c : Comparator} {rest : List ℕ} → IsLongest (IsNonPrimitive f) text c rest → numbers_fit c ≡ true
      → sums_fit c ≡ false → IsSingle f text (TooLarge BoundTooLarge)
