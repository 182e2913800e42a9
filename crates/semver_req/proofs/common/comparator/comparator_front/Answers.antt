use Rattle.std.proofs.lemmas.Result.{IfOk-weaker}
use Rattle.semver_base.specs.Grammar.{answer_of}
use Rattle.semver_req.specs.Partials.{IsPartial}
use Rattle.semver_req.specs.declared.common.comparator.Operator.TheVariants as operator
use Rattle.semver_req.specs.declared.common.values.Flavour.TheVariants.{Npm}
use Rattle.semver_req.proofs.NpmComparators.{non_primitive_npm, operator_form_read, spaced_npm, unspaced_npm}
use Rattle.semver_req.proofs.Operators.{no_primitive_kind, primitive_kind_front_read}
use Rattle.semver_req.proofs.common.comparator.comparator_front.Goals as goal

pub returns-in-None : goal.returns-in-None
returns-in-None c = rw c.in-Npm.is (IfOk-weaker c.npm_by_operator.result _ _ (λ r h. non_primitive_npm (answer_of r) c.in-None.ensures h) c.npm_by_operator.ensures)

pub returns-in-Some-after_some_whitespace : goal.returns-in-Some-after_some_whitespace
returns-in-Some-after_some_whitespace c =
    rw c.in-Npm.is (IfOk-weaker c.npm_by_operator-in-Some-after_some_whitespace.result _ _ (λ r h. spaced_npm c.in-Some.ensures (answer_of r) c.in-Some-after_some_whitespace.ensures h) c.npm_by_operator-in-Some-after_some_whitespace.ensures)

pub returns-in_ok-partial_front-in-None-after_some_whitespace : goal.returns-in_ok-partial_front-in-None-after_some_whitespace
returns-in_ok-partial_front-in-None-after_some_whitespace c =
    let read = answer_of c.in_ok-partial_front-in-None-after_some_whitespace.field-0 in
    rw c.in-Npm.is (unspaced_npm c.in-Some.ensures (answer_of c.with_operator.result) c.in-None-after_some_whitespace.ensures
    (rw c.with_operator.ensures (operator_form_read (operator.Primitive c.in-Some.kind) (IsPartial Npm) c.in-Some.rest.now read c.in_ok-partial_front-in-None-after_some_whitespace.ensures)))

pub returns-in-None-primitive_kind_front : goal.returns-in-None-primitive_kind_front
returns-in-None-primitive_kind_front c =
    rw c.in-Normal.is (IfOk-weaker c.non_primitive_front.result _ _ (λ r h. no_primitive_kind (answer_of r) c.in-None-primitive_kind_front.ensures h) c.non_primitive_front.ensures)

pub returns-in_ok-partial-in-Some-primitive_kind_front : goal.returns-in_ok-partial-in-Some-primitive_kind_front
returns-in_ok-partial-in-Some-primitive_kind_front c =
    let read = answer_of c.in_ok-partial-in-Some-primitive_kind_front.partial in
    rw (c.in-Normal.is, c.with_operator-in-Some-primitive_kind_front.ensures) (primitive_kind_front_read c.in-Some-primitive_kind_front.ensures read c.after_whitespace.ensures c.in_ok-partial-in-Some-primitive_kind_front.ensures)
