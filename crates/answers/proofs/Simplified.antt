-- A short range that matches the same versions of a list: there is one.
use Rattle.std.proofs.Common.{◌≡◌, ◌∙◌, ◌⊎◌, ℕ, Bool, false, List, [], ◌∷◌, None, Ok, Err, Result, Equal, IsPermutation, refl, sym, ap, subst, inl, inr}
use Rattle.std.proofs.lemmas.Cmp.{tied_itself}
use Rattle.std.proofs.lemmas.List.Sorted.{IsPermutation-sym, IsPermutation-trans}
use Rattle.semver_base.specs.Precedence.{version_cmp}
use Rattle.semver_base.specs.PrecedenceLaws.{version-anti, version_total}
use Rattle.semver_base.specs.declared.range.PreRelease.{PreRelease}
use Rattle.semver_base.specs.declared.version.Version.{Version}
use Rattle.semver_req.specs.Ascending.{AscendingArrangementsTie, Tie}
use Rattle.semver_req.specs.Requirement.{Requirement, tag_of}
use Rattle.semver_req.specs.declared.common.values.Flavour.{Flavour}
use Rattle.semver_req.specs.declared.range_set_or_tag.RangeSetOrTag.{RangeSetOrTag}
use Rattle.semver_req.specs.declared.range_set_or_tag.RangeSetOrTag.TheVariants as inner
use Rattle.answers.specs.Asking.{Fault, IsOutcomeOf, OrElse, OutOfMemory, of_fault, of_value}
use Rattle.answers.specs.AskingLaws.{as_fault, as_value, same_fault, same_value, value_no_fault}
use Rattle.answers.specs.Reading.{IsRangeAt}
use Rattle.answers.specs.Simplifying.{IsAscending, Simplified, SimplifiedOf, made_text, match_same, shorter}
use Rattle.answers.specs.declared.asking.Answer.{Answer}
use Rattle.answers.specs.declared.asking.Answer.TheVariants.{Value}

-- ---- one arrangement is ascending

ties_self : (xs : List Version) → Tie version_cmp xs xs
ties_self [] = tt
ties_self (x ∷ xs) = (tied_itself version_total x, ties_self xs)

tied_same : (xs ys : List Version) → Tie version_cmp xs ys → xs ≡ ys
tied_same [] [] h = refl
tied_same [] (y ∷ ys) h = absurd h
tied_same (x ∷ xs) [] h = absurd h
tied_same (x ∷ xs) (y ∷ ys) h = rw (version-anti x y h.0, tied_same xs ys h.1) refl

one_sorted : AscendingArrangementsTie Version → (versions xs ys : List Version) → IsAscending versions xs → IsAscending versions ys → ys ≡ xs
one_sorted tie versions xs ys h k =
    let moved = IsPermutation-trans xs versions ys (IsPermutation-sym versions xs h.same) k.same in
    tied_same ys xs (tie version_cmp version_total xs xs ys h.ascends (ties_self xs) moved k.ascends)

-- ---- the answer

abbrev answered : List ℕ → Result (Answer (List ℕ)) Fault
answered text = Ok (Value text)

module _ (flag : PreRelease) (f : Flavour) (text : List ℕ) (versions sorted : List Version) (is_same : Bool) where
  -- whether the range made of sorted versions matches the same
  abbrev Same : RangeSetOrTag → List Version → Result Bool Fault → Type 0
  Same read them = OrElse (IsRangeAt f 0 (made_text flag read them)) (λ (req : Requirement). match_same flag read them req.inner) false

  pub simplified_answer : AscendingArrangementsTie Version → (read : RangeSetOrTag) → tag_of read ≡ None → IsAscending versions sorted
      → IsOutcomeOf OutOfMemory (Same read sorted) (Ok is_same) → (simplified : List ℕ) → simplified ≡ shorter is_same (made_text flag read sorted) text
      → IsOutcomeOf OutOfMemory (SimplifiedOf flag f text read versions) (Ok (Value simplified))
  simplified_answer tie (inner.Tag tag) none h same simplified e = absurd (cc none)
  simplified_answer tie (inner.RangeSet set) none h same simplified e = record { is = inr (is same.is); only = λ o a. inr (ap answered (only a.0 a.1) ∙ sym a.2) }
    where
      read : RangeSetOrTag
      read = inner.RangeSet set

      was : (as_value is_same ≡ as_fault OutOfMemory) ⊎ Same read sorted (Ok is_same) → Same read sorted (Ok is_same)
      was (inl never) = absurd (value_no_fault is_same OutOfMemory never)
      was (inr a) = a

      is : (as_value is_same ≡ as_fault OutOfMemory) ⊎ Same read sorted (Ok is_same) → (s : List ℕ) × Simplified flag f text read versions s × (answered simplified ≡ Ok (Value s))
      is a = (simplified, record { sorted = sorted; is_sorted = h; is_same = is_same; is_same_is = was a; is = e }, refl)

      as_same : (b : Bool) → (as_value is_same ≡ as_fault OutOfMemory) ⊎ (as_value {P = Fault} is_same ≡ as_value b) → is_same ≡ b
      as_same b (inl never) = absurd (value_no_fault is_same OutOfMemory never)
      as_same b (inr it) = same_value {P = Fault} is_same b it

      only : (s : List ℕ) → Simplified flag f text read versions s → simplified ≡ s
      only s k =
          let order : k.sorted ≡ sorted = one_sorted tie versions sorted k.sorted h k.is_sorted in
          let here : Same read sorted (Ok k.is_same) = subst (λ (them : List Version). Same read them (Ok k.is_same)) order k.is_same_is in
          let alike : is_same ≡ k.is_same = as_same k.is_same (same.only (Ok k.is_same) here) in
          e ∙ ap (λ (b : Bool). shorter b (made_text flag read sorted) text) alike
          ∙ ap (λ (them : List Version). shorter k.is_same (made_text flag read them) text) (sym order) ∙ sym k.is

-- whether it matches the same is always answered, if memory doesn't run out
pub never_invalid : {X Y : Type 0} (Argument : Result X Fault → Type 0) (made : X → Y) (other : Y) (fault : Fault) → IsOutcomeOf OutOfMemory (OrElse Argument made other) (Err fault) → fault ≡ OutOfMemory
never_invalid {X = X} {Y = Y} Argument made other fault h = of (as_fault fault) refl h.is
  where
    of : (o : Result Y Fault) → o ≡ as_fault fault → (as_fault {X = Y} fault ≡ as_fault OutOfMemory) ⊎ OrElse Argument made other o → fault ≡ OutOfMemory
    of o e (inl none) = same_fault {X = Y} fault OutOfMemory none
    of _ e (inr (of_value {x = x} k)) = absurd (value_no_fault (made x) fault e)
    of _ e (inr (of_fault k)) = absurd (value_no_fault other fault e)
