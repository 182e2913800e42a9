-- Comparators as the parsers return them: an operator, and the partial version after it.
use Rattle.std.specs.Prelude.{◌≡◌, ℕ, List, ◌∷◌, Option, Some, None, codes}
use Rattle.semver_base.specs.Characters.{caret_sign, tilde_sign}
use Rattle.semver_base.specs.Comparators.{Caret, Comparator, OfPrimitive, Bare, Tilde}
use Rattle.semver_base.specs.Grammar.{Either, HasNone, IsLongest, IsSeen, IsText}
use Rattle.semver_base.specs.declared.lexical.values.Measured.{Measured}
use Rattle.semver_base.specs.declared.partial.Partial.{Partial}
use Rattle.semver_req.specs.Comparators.{IsLed, HasOperator, IsBare}
use Rattle.semver_req.specs.Partials.{IsPartial, sized_partial}
use Rattle.semver_req.specs.declared.common.comparator.Operator.{Operator}
use Rattle.semver_req.specs.declared.common.comparator.Operator.TheVariants as operator
use Rattle.semver_req.specs.declared.common.comparator.Written.{Written}
use Rattle.semver_req.specs.declared.common.values.Flavour.{Flavour}
use Rattle.semver_req.specs.declared.common.values.Flavour.TheVariants.{Npm}

-- the comparator of an operator and a partial version
abbrev pub comparator_of : Operator → Partial → Comparator
comparator_of operator.Tilde p = Tilde p
comparator_of operator.Caret p = Caret p
comparator_of (operator.Primitive kind) p = OfPrimitive kind p
comparator_of operator.Absent p = Bare p

-- rest is what follows a `~` or a `^`, or the whole text if it begins with neither
abbrev pub IsOperatorCut : List ℕ → Operator → List ℕ → Type 0
IsOperatorCut text operator.Tilde rest = text ≡ tilde_sign ∷ rest
IsOperatorCut text operator.Caret rest = text ≡ caret_sign ∷ rest
IsOperatorCut text (operator.Primitive kind) rest = ⊥
IsOperatorCut text operator.Absent rest =
    (rest ≡ text)
    × ((after : List ℕ) → text ≡ tilde_sign ∷ after → ⊥)
    × ((after : List ℕ) → text ≡ caret_sign ∷ after → ⊥)

-- a comparator without a leading comparison operator
abbrev pub IsNonPrimitive : Flavour → List ℕ → Comparator → Type 0
IsNonPrimitive f = Either (HasOperator f) (IsBare f)

-- the longest prefix that is a comparator of the grammar has this operator and this partial version, and rest follows it
pub record IsFront (R : List ℕ → Comparator → Type 0) (text : List ℕ) (written : Written) (rest : List ℕ) : Type 0 where
  pub partial : Partial
  pub longest : IsLongest R text (comparator_of written.operator partial) rest
  pub seen : written.partial ≡ sized_partial partial

-- what a parser of comparators returns
abbrev pub ReadsComparator : (List ℕ → Comparator → Type 0) → List ℕ → Option (Written × List ℕ) → Type 0
ReadsComparator R text None = HasNone R text
ReadsComparator R text (Some p) = IsFront R text p.0 p.1

-- ---- npm's comparators, in the steps in which they are parsed

-- npm's tilde
abbrev pub IsTildes : List ℕ → Unit {0} → Type 0
IsTildes = Either (IsText (codes "~>")) (IsText (codes "~"))

-- rest is what follows a `~>`, a `~` or a `^`, or the whole text if it begins with none
abbrev pub IsNpmOperatorCut : List ℕ → Operator → List ℕ → Type 0
IsNpmOperatorCut text operator.Tilde rest = IsLongest IsTildes text tt rest
IsNpmOperatorCut text operator.Caret rest = IsOperatorCut text operator.Caret rest
IsNpmOperatorCut text (operator.Primitive kind) rest = ⊥
IsNpmOperatorCut text operator.Absent rest = IsOperatorCut text operator.Absent rest

-- a parsed partial version, with an operator
abbrev pub with_operator : Operator → Option (Measured Partial × List ℕ) → Option (Written × List ℕ)
with_operator m None = None
with_operator m (Some p) = Some (record { operator = m; partial = p.0 }, p.1)

-- the result of parsing the partial version after an operator
abbrev pub ReadsOperatorForm : Operator → (List ℕ → Partial → Type 0) → List ℕ → Option (Written × List ℕ) → Type 0
ReadsOperatorForm m B text None = HasNone B text
ReadsOperatorForm m B text (Some p) = (p.0.operator ≡ m) × IsSeen sized_partial B text p.0.partial p.1

-- what follows a `~` or a `^` is led, and anything else has the operator other
abbrev pub ReadsByOperator : Operator → Operator → List ℕ → Option (Written × List ℕ) → Type 0
ReadsByOperator operator.Tilde other = ReadsOperatorForm operator.Tilde IsLed
ReadsByOperator operator.Caret other = ReadsOperatorForm operator.Caret IsLed
ReadsByOperator (operator.Primitive kind) other = ReadsOperatorForm other (IsPartial Npm)
ReadsByOperator operator.Absent other = ReadsOperatorForm other (IsPartial Npm)

-- the text is split after its operator, and what follows parses to this
pub record IsNpmFront (other : Operator) (text : List ℕ) (answer : Option (Written × List ℕ)) : Type 0 where
  pub operator : Operator
  pub rest : List ℕ
  pub cut : IsNpmOperatorCut text operator rest
  pub reads : ReadsByOperator operator other rest answer
