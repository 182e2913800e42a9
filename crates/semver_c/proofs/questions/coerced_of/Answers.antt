use Rattle.std.proofs.Common.{◌≡◌, ◌∙◌, ℕ, List, Ok, Option, Result, ap, inr, refl, sym}
use Rattle.semver_base.specs.declared.version.Version.{Version}
use Rattle.node_semver.specs.Coerce.{IsCoerced}
use Rattle.node_semver.specs.declared.coerce.Direction.{Direction}
use Rattle.node_semver.specs.declared.coerce.Parts.{Parts}
use Rattle.answers.specs.Asking.{IsOutcomeOf}
use Rattle.answers.specs.declared.asking.Answer.{Answer}
use Rattle.answers.specs.declared.asking.Answer.TheVariants.{Value}
use Rattle.semver_c.specs.Arguments.{CallFault, memory}
use Rattle.semver_c.specs.Questions.{Holds}
use Rattle.semver_c.proofs.Asking.{within, without}
use Rattle.semver_c.proofs.questions.coerced_of.Goals as goal

abbrev as_value : Option Version → Result (Answer (Option Version)) CallFault
as_value found = Ok (Value found)

held : (d : Direction) (kept : Parts) (text : List ℕ) (found : Option Version) → IsCoerced d kept text found
    → ((other : Option Version) → IsCoerced d kept text other → other ≡ found) → IsOutcomeOf memory (Holds d kept text) (as_value found)
held d kept text found is one = record { is = inr (found, is, refl); only = λ o a. inr (ap as_value (sym (one a.0 a.1)) ∙ sym a.2) }

pub returns-in_err-direction : goal.returns-in_err-direction
returns-in_err-direction c = without _ _ (λ x. x) c.from_residual.result _ c.in_err-direction.ensures c.from_residual.ensures.1

pub returns-in_err-text : goal.returns-in_err-text
returns-in_err-text c =
    let r = c.from_residual-in_err-text in
    within _ _ (λ x. x) r.result _ c.in_ok-direction.ensures (without _ _ (λ x. x) r.result _ c.in_err-text.ensures r.ensures.1)

pub returns-in-Ok : goal.returns-in-Ok
returns-in-Ok c =
    let found = rw c.parts.ensures at c.in-Ok.ensures.found in
    let only = rw c.parts.ensures at c.in-Ok.ensures.only in
    let result = Ok (Value c.in-Ok.found) in
    within _ _ (λ x. x) result _ c.in_ok-direction.ensures (within _ _ (λ x. x) result _ c.in_ok-text.ensures (held _ _ c.in_ok-text.text.now c.in-Ok.found found only))
