use Rattle.std.proofs.Common.{◌≡◌, ◌∙◌, Ok, arith, inl, inr, rules}
use Rattle.std.proofs.lemmas.Bool.{cases_lt}
use Rattle.semver_req.proofs.VersionTexts.{none_made}
use Rattle.semver_req.proofs.error_places.is_viable_version.Goals as goal

pub loop-ending-init : goal.loop-ending-init
loop-ending-init c = λ k less made. omega arith

pub loop-ending-preserved : goal.loop-ending-preserved
loop-ending-preserved c = λ k less made. elim (cases_lt k c.loop-ending.ending-index) [
  | inl earlier ↦ c.loop-ending.invariant k earlier made
  | inr there ↦
      let same : k ≡ c.loop-ending.ending-index = omega arith in
      let it = rw same at made in
      let none = c.in-Err.ensures.answer (Ok it.0) (rw (c.deref.ensures ∙ c.in_ok-text.ensures.ok) it.1) in
      cc (c.if-is_memory.ensures.1 none)
]

pub returns-in-Ok : goal.returns-in-Ok
returns-in-Ok c = search rules

pub returns : goal.returns
returns c = (
  λ t. cc t,
  λ v. absurd (none_made c.args.prefix.now c.utf8.prefix
      (λ m. c.loop-ending.invariant 0 (omega (arith, c.loop-ending-test.false)) m)
      (λ m. c.loop-ending.invariant 1 (omega (arith, c.loop-ending-test.false)) m)
      (λ m. c.loop-ending.invariant 2 (omega (arith, c.loop-ending-test.false)) m)
      (λ m. c.loop-ending.invariant 3 (omega (arith, c.loop-ending-test.false)) m)
      (λ m. c.loop-ending.invariant 4 (omega (arith, c.loop-ending-test.false)) m)
      (λ m. c.loop-ending.invariant 5 (omega (arith, c.loop-ending-test.false)) m) v),
)
