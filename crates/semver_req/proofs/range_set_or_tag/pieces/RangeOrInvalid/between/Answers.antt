use Rattle.std.proofs.Common.{◌∙◌, ap, rules, sym}
use Rattle.semver_req.specs.declared.common.HyphenRange.{HyphenRange}
use Rattle.semver_req.proofs.Joining.{fitting_partial}
use Rattle.semver_req.proofs.range_set_or_tag.pieces.RangeOrInvalid.between.Goals as goal

pub returns-in-Ok-as_upper_bound : goal.returns-in-Ok-as_upper_bound
returns-in-Ok-as_upper_bound c = λ v is.
    let lower = fitting_partial v.0 (sym c.in-Fits.is ∙ ap (λ (h : HyphenRange). h.lower) is) in
    let upper = fitting_partial v.1 (sym c.in-Fits-upper.is ∙ ap (λ (h : HyphenRange). h.upper) is) in
    search rules
