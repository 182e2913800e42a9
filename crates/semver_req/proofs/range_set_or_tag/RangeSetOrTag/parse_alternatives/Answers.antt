use Rattle.std.proofs.Common.{List, None, ap, refl}
use Rattle.semver_base.specs.declared.range.VersionRange.{VersionRange}
use Rattle.semver_req.specs.PieceReading.{IsCutRejection, is_out_of_memory}
use Rattle.semver_req.specs.declared.range_set_or_tag.RangeSetOrTag.{RangeSetOrTag}
use Rattle.semver_req.specs.declared.range_set_or_tag.RangeSetOrTag.TheVariants as inner
use Rattle.semver_req.proofs.ParserAnswers.{err_reports}
use Rattle.semver_req.proofs.ShortComparators.{piece_reading, whole_cut}
use Rattle.semver_req.proofs.range_set_or_tag.RangeSetOrTag.parse_alternatives.Goals as goal

abbrev set : List VersionRange → RangeSetOrTag
set ranges = inner.RangeSet (record { 0 = ranges })

pub returns-in_err-ranges-clause-rejection : goal.returns-in_err-ranges-clause-rejection
returns-in_err-ranges-clause-rejection c = err_reports (λ e. e) c.from_residual.result None (IsCutRejection c.args.flavour c.args.text.now) c.from_residual.ensures.1 is_out_of_memory

pub returns-in_err-ranges-2-clause-rejection : goal.returns-in_err-ranges-2-clause-rejection
returns-in_err-ranges-2-clause-rejection c = err_reports (λ e. e) c.from_residual-in_err-ranges-2.result None (IsCutRejection c.args.flavour c.args.text.now) c.from_residual-in_err-ranges-2.ensures.1 is_out_of_memory

pub returns-in-Some-clause-reading : goal.returns-in-Some-clause-reading
returns-in-Some-clause-reading c = piece_reading c.args.flavour c.requires (set c.in_ok-ranges.ranges) (c.in-Some.ensures c.requires) (ap set (rw c.into_range.ensures at c.in_ok-ranges.ensures))

pub returns-in-Some-2-clause-reading : goal.returns-in-Some-2-clause-reading
returns-in-Some-2-clause-reading c = whole_cut c.args.flavour c.requires (set c.in-Some-2.ranges) (rw c.in-Some-2.is at c.in_ok-ranges-2.ensures) (ap set refl)
