use Rattle.std.proofs.Common.{◌∙◌, refl}
use Rattle.std.proofs.lemmas.Bool.{both_ways}
use Rattle.std.proofs.lemmas.Result.{IfOk-weaker}
use Rattle.semver_req.proofs.ViableParts.{range_viable, range_with, range_with_viable}
use Rattle.semver_req.proofs.error_places.is_viable_range.Goals as goal

pub returns-then-branch : goal.returns-then-branch
returns-then-branch c = (λ t. range_viable c.args.sizes c.args.prefix.now (c.in_ok-is_range.ensures.0 c.if-branch.true), λ v. refl)

pub returns : goal.returns
returns c =
    let e = c.deref.ensures ∙ c.in_ok-text.ensures.ok in
    let fact = c.in_ok-is_range in
    IfOk-weaker c.is_range-2.result _ _
    (λ b h. (λ t. range_with_viable c.args.sizes c.args.prefix.now c.deref.result.now e (h.0 t), λ v. h.1 (range_with c.args.sizes c.args.prefix.now c.deref.result.now e (λ k. both_ways fact.field-0 c.if-branch.false (fact.ensures.1 k)) v)))
    c.is_range-2.ensures
