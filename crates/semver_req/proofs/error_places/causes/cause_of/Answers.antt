use Rattle.std.proofs.Common.{◌≡◌, ◌∙◌, arith, inl, inr, rules, take, ◌<◌, ◌⊎◌, IfSome}
use Rattle.std.proofs.lemmas.Fn.{always_returns_same}
use Rattle.semver_req.specs.Causes.{bound_too_large, empty, no_tag, too_large, unexpected}
use Rattle.semver_req.proofs.ErrorCauses.{first_outside, only_outside}
use Rattle.semver_req.proofs.ViableParts.{slice_front}
use Rattle.semver_req.proofs.error_places.causes.cause_of.Goals as goal
use Rattle.semver_req.proofs.error_places.causes.cause_of.Goals.{in_default-outside-via-in-Some+then-place-eq0+else-end-gt0, in_default-outside-via-in-Some+else-place-eq0, in_default-outside-via-in_default-outside}

pub returns-in-EmptyConstraint-clause-value : goal.returns-in-EmptyConstraint-clause-value
returns-in-EmptyConstraint-clause-value c =
    let outside = first_outside _ (always_returns_same _ _ _ (λ a r f' k. search rules)) c.args.piece.now c.find-outside.result c.find-outside.ensures.cases in
    (c.find-outside.result, outside, empty)

pub returns-in_ok-longest_viable-in-NumberTooLarge-clause-value : goal.returns-in_ok-longest_viable-in-NumberTooLarge-clause-value
returns-in_ok-longest_viable-in-NumberTooLarge-clause-value c =
    let outside = first_outside _ (always_returns_same _ _ _ (λ a r f' k. search rules)) c.args.piece.now c.find-outside.result c.find-outside.ensures.cases in
    (c.find-outside.result, outside, too_large c.in_ok-longest_viable-in-NumberTooLarge.ensures)

pub returns-in_ok-large_bound-in-BoundTooLarge-clause-value : goal.returns-in_ok-large_bound-in-BoundTooLarge-clause-value
returns-in_ok-large_bound-in-BoundTooLarge-clause-value c =
    let outside = first_outside _ (always_returns_same _ _ _ (λ a r f' k. search rules)) c.args.piece.now c.find-outside.result c.find-outside.ensures.cases in
    (c.find-outside.result, outside, bound_too_large c.in_ok-large_bound-in-BoundTooLarge.ensures)

pub returns-in-Some-clause-value : goal.returns-in-Some-clause-value
returns-in-Some-clause-value c =
    let outside = first_outside _ (always_returns_same _ _ _ (λ a r f' k. search rules)) c.args.piece.now c.find-outside.result c.find-outside.ensures.cases in
    (c.find-outside.result, outside, no_tag (rw c.if-place-eq0.true at c.in_ok-place-in_default.ensures) c.in-Some.is c.if-end-gt0.true)

pub returns-in-Some-clause-rejected : goal.returns-in-Some-clause-rejected
returns-in-Some-clause-rejected c = only_outside c.args.flavour c.args.piece.now c.args.rejection c.requires c.in_default.not-EmptyConstraint c.in_default.not-NumberTooLarge c.in_default.not-BoundTooLarge

pub returns-in_ok-expected-in_default-outside-clause-value : goal.returns-in_ok-expected-in_default-outside-clause-value
returns-in_ok-expected-in_default-outside-clause-value c =
    let outside = first_outside _ (always_returns_same _ _ _ (λ a r f' k. search rules)) c.args.piece.now c.find-outside.result c.find-outside.ensures.cases in
    let place = c.in_ok-place-in_default.place in
    let front : c.range.result.now ≡ take place c.args.piece.now = c.range.ensures.value ∙ slice_front c.args.piece.now place in
    let no_tag : (0 < place) ⊎ IfSome c.find-outside.result (λ n. n ≡ 0) = elim c.in_default-outside.branch [
      | in_default-outside-via-in-Some+then-place-eq0+else-end-gt0 w ↦ inr (rw w.in-Some.is (omega (arith, w.if-end-gt0.false)))
      | in_default-outside-via-in-Some+else-place-eq0 w ↦ inl (omega (arith, w.if-place-eq0.false))
      | in_default-outside-via-in_default-outside w ↦ inr (rw w.in_default-outside.is tt)
    ] in
    (c.find-outside.result, outside, unexpected c.in_ok-place-in_default.ensures no_tag (rw front at c.in_ok-expected-in_default-outside.ensures))

pub returns-in_ok-expected-in_default-outside-clause-rejected : goal.returns-in_ok-expected-in_default-outside-clause-rejected
returns-in_ok-expected-in_default-outside-clause-rejected c = only_outside c.args.flavour c.args.piece.now c.args.rejection c.requires c.in_default.not-EmptyConstraint c.in_default.not-NumberTooLarge c.in_default.not-BoundTooLarge
