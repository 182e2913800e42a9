use Rattle.std.proofs.Common.{ap}
use Rattle.std.proofs.lemmas.Result.{IfErr-weaker, IfOk-weaker}
use Rattle.semver_req.specs.SpecifierRejections.{is_out_of_memory}
use Rattle.semver_req.specs.declared.range_set_or_tag.RangeSetOrTag.TheVariants as inner
use Rattle.semver_req.proofs.SpecifierRanges.{absent_reading, absent_rejection, followed_rejection, large_reading, large_rejection, memory_err, range_reading}
use Rattle.semver_req.proofs.specifier.read.Goals as goal

pub returns-in_err-found-clause-rejection : goal.returns-in_err-found-clause-rejection
returns-in_err-found-clause-rejection c = memory_err c.from_residual.result _ c.from_residual.ensures.1 is_out_of_memory

pub returns-in_err-ranges-in-Range-clause-rejection : goal.returns-in_err-ranges-in-Range-clause-rejection
returns-in_err-ranges-in-Range-clause-rejection c = memory_err c.from_residual-in_err-ranges-in-Range.result _ c.from_residual-in_err-ranges-in-Range.ensures.1 is_out_of_memory

pub returns-in_ok-ranges-in-Range-clause-reading : goal.returns-in_ok-ranges-in-Range-clause-reading
returns-in_ok-ranges-in-Range-clause-reading c =
    range_reading (rw c.in-Range.is at c.in_ok-found.ensures) (inner.RangeSet (record { 0 = c.in_ok-ranges-in-Range.ranges })) (ap (λ r. inner.RangeSet (record { 0 = r })) c.in_ok-ranges-in-Range.ensures)

pub returns-in-Absent-clause-reading : goal.returns-in-Absent-clause-reading
returns-in-Absent-clause-reading c = IfOk-weaker c.whole_text_as_tag.result _ _ (absent_reading (rw c.in-Absent.is at c.in_ok-found.ensures)) c.whole_text_as_tag.ensures.tag

pub returns-in-Absent-clause-rejection : goal.returns-in-Absent-clause-rejection
returns-in-Absent-clause-rejection c = IfErr-weaker c.whole_text_as_tag.result _ _ (absent_rejection (rw c.in-Absent.is at c.in_ok-found.ensures)) c.whole_text_as_tag.ensures.no_tag

pub returns-in-Followed-clause-rejection : goal.returns-in-Followed-clause-rejection
returns-in-Followed-clause-rejection c = followed_rejection (rw c.in-Followed.is at c.in_ok-found.ensures) c.of_rejection.result c.of_rejection.ensures

pub returns-in-TooLarge-clause-reading : goal.returns-in-TooLarge-clause-reading
returns-in-TooLarge-clause-reading c =
    IfOk-weaker c.whole_text_as_tag-in-TooLarge.result _ _ (large_reading (rw c.in-TooLarge.is at c.in_ok-found.ensures)) c.whole_text_as_tag-in-TooLarge.ensures.tag

pub returns-in-TooLarge-clause-rejection : goal.returns-in-TooLarge-clause-rejection
returns-in-TooLarge-clause-rejection c =
    IfErr-weaker c.whole_text_as_tag-in-TooLarge.result _ _ (large_rejection (rw c.in-TooLarge.is at c.in_ok-found.ensures)) c.whole_text_as_tag-in-TooLarge.ensures.no_tag
