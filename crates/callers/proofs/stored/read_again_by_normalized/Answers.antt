use Rattle.callers.proofs.ReadAgain.{of_tag, of_text}
use Rattle.semver_req.specs.Pieces.{normal}
use Rattle.semver_req.specs.declared.common.values.Flavour.TheVariants.{Normal}
use Rattle.callers.proofs.stored.read_again_by_normalized.Goals as goal

pub returns-clause-ranges : goal.returns-clause-ranges
returns-clause-ranges c =
    let s = c.in_ok-stored.ensures in
    of_text (λ e. e.source) Normal normal c.args.requirement.now.inner _ s.text s.forms s.retained_means s.equal s.stable c.parse_from_normalized.result (rw c.as_str.ensures.value at c.parse_from_normalized.ensures.reads)

pub returns-clause-tag : goal.returns-clause-tag
returns-clause-tag c = of_tag (λ e. e.source) Normal normal c.args.requirement.now.inner _ c.in_ok-stored.ensures.text c.parse_from_normalized.result (rw c.as_str.ensures.value at c.parse_from_normalized.ensures.reads)
