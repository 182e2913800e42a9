use Rattle.std.proofs.Common.{◌≡◌, ◌∙◌, ◌⊎◌, ℕ, List, None, Some, Result, Ok, Err, ap, sym, inl, inr, string_bytes}
use Rattle.std.proofs.lemmas.Result.{err_from_is_err_and}
use Rattle.semver_req.specs.Parsers.{Failure}
use Rattle.node_semver.specs.Increment.{incremented, refusal_message}
use Rattle.answers.specs.Asking.{Fault, Invalid, IsOutcomeOf, OutOfMemory, fault_of, problem_of}
use Rattle.answers.specs.AskingLaws.{by_value, by_fault, out_of_memory}
use Rattle.answers.specs.Steps.{Was, shown}
use Rattle.answers.specs.declared.asking.Kind.TheVariants as kind
use Rattle.answers.proofs.steps.incremented.Goals as goal

pub returns-in_err-version : goal.returns-in_err-version
returns-in_err-version c =
    let p = err_from_is_err_and c.from_residual.result c.from_residual.ensures.1 in
    rw (p.1, p.2) (by_fault _ _ _ _ c.in_err-version.ensures)

pub returns-in_err-identifiers : goal.returns-in_err-identifiers
returns-in_err-identifiers c =
    let p = err_from_is_err_and c.from_residual-in_err-identifiers.result c.from_residual-in_err-identifiers.ensures.1 in
    rw (p.1, p.2) (by_value _ _ _ _ c.in_ok-version.ensures _ (by_fault _ _ _ _ c.in_err-identifiers.ensures))

was : (known outcome : Result (List ℕ) Fault) → outcome ≡ known → IsOutcomeOf OutOfMemory (Was known) outcome
was known outcome e = record { is = inr e; only = λ other a. inr (e ∙ sym a) }

abbrev said : List ℕ → Failure
said message = Some (message, None)

refused : (known : Result (List ℕ) Fault) (message : List ℕ) (failure : Failure) → (failure ≡ None) ⊎ (failure ≡ said message)
    → Err (Invalid kind.Step 0 (said message)) ≡ known → IsOutcomeOf OutOfMemory (Was known) (Err (fault_of (problem_of kind.Step 0 failure)))
refused known message failure (inl none) e = rw none (out_of_memory OutOfMemory (Was known))
refused known message failure (inr is) e = rw is (was known _ e)

abbrev as_text : List ℕ → Result (List ℕ) Fault
as_text text = Ok text

pub returns-in-Ok : goal.returns-in-Ok
returns-in-Ok c =
    let next = incremented c.args.release_type c.in_ok-identifiers.identifiers c.args.base c.in_ok-version.version in
    by_value _ _ _ _ c.in_ok-version.ensures _ (by_value _ _ _ _ c.in_ok-identifiers.ensures _
    (was (shown next) (Ok (string_bytes c.in_ok-text_of_version-in-Ok.field-0)) (ap as_text c.in_ok-text_of_version-in-Ok.ensures ∙ ap shown (sym c.in-Ok.ensures.value))))

pub returns : goal.returns
returns c =
    let next = incremented c.args.release_type c.in_ok-identifiers.identifiers c.args.base c.in_ok-version.version in
    let message = refusal_message c.in-Err-Refused.why in
    let failure : (c.with_texts-failure.result ≡ None) ⊎ (c.with_texts-failure.result ≡ said message) = rw c.message.ensures at c.with_texts-failure.ensures in
    let why : next ≡ Err c.in-Err-Refused.why = rw c.in-Err-Refused.field-0-is at c.in-Err-Refused.ensures.refused in
    by_value _ _ _ _ c.in_ok-version.ensures _ (by_value _ _ _ _ c.in_ok-identifiers.ensures _
    (rw c.of.ensures (refused (shown next) message c.with_texts-failure.result failure (ap shown (sym why)))))
