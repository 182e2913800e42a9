-- Grammars by the sizes of the numbers that they admit.
use Rattle.std.specs.Prelude.{◌≡◌, ℕ, List, Bool, true, false}
use Rattle.std.specs.List.{list_all}
use Rattle.semver_base.specs.Comparators.{Comparator}
use Rattle.semver_base.specs.declared.failure.Rejection.{Rejection}
use Rattle.semver_base.specs.declared.failure.Rejection.TheVariants.{UnexpectedCharacter, NumberTooLarge}
use Rattle.semver_base.specs.declared.lexical.values.Measured.{Measured}
use Rattle.semver_base.specs.declared.lexical.values.Measured.TheVariants.{Fits, TooLarge}
use Rattle.semver_base.specs.declared.partial.Partial.{Partial}
use Rattle.semver_req.specs.PieceReading.{numbers_fit}
use Rattle.semver_req.specs.declared.error_places.Sizes.{Sizes}
use Rattle.semver_req.specs.declared.error_places.Sizes.TheVariants.{Any, Fitting}

-- the texts of a grammar whose numbers have these sizes: any, or such as fit in 64 bits
abbrev pub Sized : Sizes → (List ℕ → List Comparator → Type 0) → List ℕ → List Comparator → Type 0
Sized Any R = R
Sized Fitting R = λ text cs. R text cs × (list_all numbers_fit cs ≡ true)

-- the partial version of a comparator, unless a number in it is too large
abbrev pub admits : Sizes → Measured Partial → Bool
admits Any m = true
admits Fitting (Fits p) = true
admits Fitting TooLarge = false

-- an alternative that is rejected for this reason is one of the grammar
abbrev pub is_in_grammar : Sizes → Rejection → Bool
is_in_grammar sizes UnexpectedCharacter = false
is_in_grammar Fitting NumberTooLarge = false
is_in_grammar sizes rejection = true
