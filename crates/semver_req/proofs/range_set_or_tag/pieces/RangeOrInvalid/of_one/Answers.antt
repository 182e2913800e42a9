use Rattle.std.proofs.Common.{[], refl, ◌∙◌}
use Rattle.std.proofs.lemmas.Result.{IfOk-weaker}
use Rattle.semver_req.proofs.Joining.{and_bound, and_range}
use Rattle.semver_req.proofs.range_set_or_tag.pieces.RangeOrInvalid.of_one.Goals as goal

pub returns-in_ok-into_stopped-in-Ok : goal.returns-in_ok-into_stopped-in-Ok
returns-in_ok-into_stopped-in-Ok c = λ p seen.
    and_range c.args.written.operator [] p refl (rw c.in-Fits.is at seen) c.in-Ok.ensures.range c.in-Ok.ensures.fits c.in_ok-into_stopped-in-Ok.ensures

pub returns-in-Err : goal.returns-in-Err
returns-in-Err c = λ p seen.
    IfOk-weaker c.no_range.result _ _ (λ read bound. bound.0 ∙ and_bound c.args.written.operator [] p refl (rw c.in-Fits.is at seen) c.in-Err.ensures.rejected bound.1) c.no_range.ensures
