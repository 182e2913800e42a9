use Rattle.std.proofs.Common.{Ok, subst, sym}
use Rattle.callers.proofs.ReadAgain.{reported_of_ranges}
use Rattle.callers.specs.Stored.{AllowsAsBefore, OfRanges}
use Rattle.semver_base.specs.Failure.{source_of}
use Rattle.callers.proofs.stored.allows_when_stored_as_normalized.Goals as goal

pub returns-clause-ranges : goal.returns-clause-ranges
returns-clause-ranges c =
    subst (λ allowance. OfRanges (AllowsAsBefore (source_of {parser = 2}) c.args.version.now (Ok allowance)) c.args.requirement.now.inner) (sym c.allowance_by.ensures)
    (reported_of_ranges c.args.requirement.now.inner c.in_ok-again.again.inner c.args.version.now c.in_ok-again.ensures.ranges)
