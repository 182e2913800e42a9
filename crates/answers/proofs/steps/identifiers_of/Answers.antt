use Rattle.std.proofs.Common.{◌≡◌, ◌∙◌, ◌⊎◌, ℕ, List, None, Some, Err, sym, inl, inr}
use Rattle.semver_req.specs.Parsers.{Failure}
use Rattle.node_semver.specs.Identifiers.{IsPre, IsNoPre, invalid_message}
use Rattle.answers.specs.ReadingLaws.{was_not_parsed, was_parsed}
use Rattle.answers.specs.Steps.{IsPreRead}
use Rattle.answers.specs.declared.asking.Kind.TheVariants as kind
use Rattle.answers.proofs.steps.identifiers_of.Goals as goal

pub returns-in-Ok : goal.returns-in-Ok
returns-in-Ok c =
    was_parsed kind.Step 0 (IsPreRead c.args.text.now) c.in-Ok.identifiers c.in-Ok.ensures.read
    (λ other is. sym (c.in-Ok.ensures.only other is)) (λ failure some none. none.1 c.in-Ok.identifiers c.in-Ok.ensures.read)

-- what is said of a text that isn't identifiers
IsSaid : List ℕ → Failure → Type 0
IsSaid text failure = (failure ≡ None) ⊎ ((failure ≡ Some (invalid_message, None)) × IsNoPre text)

memory : (text : List ℕ) (failure : Failure) → IsSaid text failure → (other : List (List ℕ)) → IsPre text other → failure ≡ None
unfolding IsSaid
memory text failure (inl none) other is = none
memory text failure (inr said) other is = absurd (said.1 other is)

one : (text : List ℕ) (failure : Failure) → IsSaid text failure → (other : Failure) → IsPreRead text (Err other) → (failure ≡ None → ⊥)
    → (other ≡ None → ⊥) → failure ≡ other
unfolding IsSaid
one text failure (inl none) other is some more = absurd (some none)
one text failure (inr said) other is some more = said.0 ∙ sym is.0

pub returns-in-Err : goal.returns-in-Err
unfolding IsSaid
returns-in-Err c =
    let text = c.args.text.now in
    let said = c.in-Err.ensures.rejected in
    rw c.of.ensures (was_not_parsed kind.Step 0 (IsPreRead text) c.in-Err.failure said (memory text c.in-Err.failure said) (one text c.in-Err.failure said))
