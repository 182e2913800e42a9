-- Which leading comparators have numbers that fit.
use Rattle.std.proofs.Common.{◌≡◌, ℕ, true, false, List, [], ◌++◌, append-nil, refl, sym, ap, ◌∙◌, inl, inr, ◌&&◌}
use Rattle.std.proofs.lemmas.Bool.{cases_Bool}
use Rattle.std.proofs.lemmas.List.Folds.{list_all-append}
use Rattle.semver_base.specs.Comparators.{Comparator}
use Rattle.semver_base.specs.Grammar.{IsLongest}
use Rattle.semver_base.specs.PartialTable.{all_fit, number_fits}
use Rattle.semver_base.specs.declared.lexical.values.Measured.{Measured}
use Rattle.semver_base.specs.declared.lexical.values.Measured.TheVariants.{Fits, TooLarge}
use Rattle.semver_base.specs.declared.partial.Partial.{Partial}
use Rattle.semver_base.specs.declared.partial.XRange.{XRange}
use Rattle.semver_base.specs.declared.partial.XRange.TheVariants.{Wildcard, Val}
use Rattle.semver_req.specs.Comparators.{comparator_numbers, component_numbers, numbers}
use Rattle.semver_req.specs.Partials.{component_fits, partial_fits}
use Rattle.semver_req.specs.Written.{IsFront, comparator_of}
use Rattle.semver_req.specs.declared.common.comparator.Operator.{Operator}
use Rattle.semver_req.specs.declared.common.comparator.Operator.TheVariants as operator

component_all : (x : XRange) → all_fit (component_numbers x) ≡ component_fits x
component_all Wildcard = refl
component_all (Val n) = elim (cases_Bool (number_fits n)) [ inl fits ↦ rw fits refl | inr over ↦ rw over refl ]

pub numbers_all : (p : Partial) → all_fit (numbers p) ≡ partial_fits p
numbers_all p =
    list_all-append number_fits (component_numbers p.major ++ component_numbers p.minor) (component_numbers p.patch)
    ∙ (ap (λ b. b && all_fit (component_numbers p.patch)) (list_all-append number_fits (component_numbers p.major) (component_numbers p.minor))
    ∙ rw (component_all p.major, component_all p.minor, component_all p.patch) refl)

pub comparator_all : (m : Operator) (p : Partial) → all_fit (comparator_numbers (comparator_of m p)) ≡ partial_fits p
comparator_all operator.Tilde p = numbers_all p
comparator_all operator.Caret p = numbers_all p
comparator_all (operator.Primitive kind) p = numbers_all p
comparator_all operator.Absent p = numbers_all p

-- a prefix whose numbers fit
pub record FittingFront (R : List ℕ → Comparator → Type 0) (text : List ℕ) (m : Operator) (p : Partial) (rest : List ℕ) : Type 0 where
  pub longest : IsLongest R text (comparator_of m p) rest
  pub numbers_fit : all_fit (comparator_numbers (comparator_of m p)) ≡ true

-- a prefix of which some number doesn't fit
pub record LargeFront (R : List ℕ → Comparator → Type 0) (text : List ℕ) (m : Operator) (p : Partial) (rest : List ℕ) : Type 0 where
  pub longest : IsLongest R text (comparator_of m p) rest
  pub number_large : all_fit (comparator_numbers (comparator_of m p)) ≡ false

module _ {R : List ℕ → Comparator → Type 0} {text rest : List ℕ} {m : Operator} where
  pub fitting : {p : Partial} → IsFront R text (record { operator = m; partial = Fits p }) rest → FittingFront R text m p rest
  fitting {p} f = elim (cases_Bool (partial_fits f.partial)) [
    | inl fit ↦
        let seen : Fits p ≡ Fits f.partial = f.seen ∙ rw fit refl in
        let same : f.partial ≡ p = cc in
        record { longest = rw same at f.longest; numbers_fit = comparator_all m p ∙ (ap partial_fits (sym same) ∙ fit) }
    | inr over ↦ let seen : Fits p ≡ TooLarge = f.seen ∙ rw over refl in absurd (cc seen)
  ]

  pub too_large : {answer : Measured Partial} → answer ≡ TooLarge → (f : IsFront R text (record { operator = m; partial = answer }) rest) → LargeFront R text m f.partial rest
  too_large e f = elim (cases_Bool (partial_fits f.partial)) [
    | inl fit ↦ let seen : TooLarge ≡ Fits f.partial = sym e ∙ (f.seen ∙ rw fit refl) in absurd (cc seen)
    | inr over ↦ record { longest = f.longest; number_large = comparator_all m f.partial ∙ over }
  ]

-- the longest prefix is the whole text if nothing is left
pub whole_front : {V : Type 0} {A : List ℕ → V → Type 0} {text : List ℕ} {c : V} → IsLongest A text c [] → A text c
whole_front p = let whole = p.text_is ∙ append-nil p.front in rw whole p.stands
