use Rattle.std.proofs.Common.{◌∙◌, inr, sym, ap}
use Rattle.serde_json.specs.View.{view}
use Rattle.semver_base.specs.declared.range.RangeBound.TheVariants as bound
use Rattle.deno_semver.specs.Json.{IsJsonOfRangeBound}
use Rattle.deno_semver.proofs.JsonReading.{bound_of, bound_read, exit_answer, exit_rejected, no_bound_of}
use Rattle.deno_semver.proofs.json.object.RangeBoundJsonForm.from_json.Goals as goal

pub returns-then-len-ne1-clause-rejected : goal.returns-then-len-ne1-clause-rejected
returns-then-len-ne1-clause-rejected c = inr (no_bound_of _ c.in-Some.members.now.entries c.in-Some.ensures (λ one. c.if-len-ne1.true (c.len.ensures.len ∙ one)))

pub returns-then-len-ne1-clause-answer : goal.returns-then-len-ne1-clause-answer
returns-then-len-ne1-clause-answer c x h = absurd (no_bound_of _ c.in-Some.members.now.entries c.in-Some.ensures (λ one. c.if-len-ne1.true (c.len.ensures.len ∙ one)) x h)

pub returns-in_err-of_member-clause-rejected : goal.returns-in_err-of_member-clause-rejected
returns-in_err-of_member-clause-rejected c =
    exit_rejected IsJsonOfRangeBound (view c.args.value.now) c.from_residual.result _ c.from_residual.ensures.1
    (λ x h. let b = bound_of (view c.args.value.now) _ c.in-Some.ensures x h in c.in_err-of_member.ensures.answer b.0 b.2)

pub returns-in_err-of_member-clause-answer : goal.returns-in_err-of_member-clause-answer
returns-in_err-of_member-clause-answer c x h =
    let b = bound_of (view c.args.value.now) _ c.in-Some.ensures x h in
    exit_answer x c.from_residual.result _ c.from_residual.ensures.1 (c.in_err-of_member.ensures.answer b.0 b.2)

pub returns-clause-read : goal.returns-clause-read
returns-clause-read c =
    bound_read (view c.args.value.now) c.in-Some.members.now.entries c.in-Some.ensures (sym c.len.ensures.len ∙ c.if-len-ne1.false) c.in_ok-of_member.field-0 c.in_ok-of_member.ensures.read

pub returns-clause-answer : goal.returns-clause-answer
returns-clause-answer c x h =
    let b = bound_of (view c.args.value.now) _ c.in-Some.ensures x h in
    ap bound.Version (c.in_ok-of_member.ensures.answer b.0 b.2) ∙ sym b.1
