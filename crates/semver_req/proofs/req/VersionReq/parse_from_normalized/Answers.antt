use Rattle.std.proofs.Common.{None, refl}
use Rattle.semver_base.specs.PartialTable.{release_range}
use Rattle.semver_req.specs.PieceReading.{IsCutRejection, is_out_of_memory}
use Rattle.semver_req.specs.Pieces.{normal}
use Rattle.semver_req.specs.Requirement.{of_range}
use Rattle.semver_req.specs.declared.common.values.Flavour.TheVariants.{Normal}
use Rattle.semver_req.proofs.ParserAnswers.{answers_err, answers_read, err_reports}
use Rattle.semver_req.proofs.PiecesRead.{normal_reading}
use Rattle.semver_req.proofs.ShortComparators.{comparator_piece, piece_reading}
use Rattle.semver_req.proofs.req.VersionReq.parse_from_normalized.Goals as goal

pub returns-in_err-inner-clause-reads : goal.returns-in_err-inner-clause-reads
returns-in_err-inner-clause-reads c =
    answers_err Normal c.args.text.now (λ e. e.source) c.from_residual-in_err-inner.result c.in_err-inner.field-0.0 c.from_residual-in_err-inner.ensures.1 c.in_err-inner.ensures.rejected

pub returns-in_err-raw_text-clause-rejection : goal.returns-in_err-raw_text-clause-rejection
returns-in_err-raw_text-clause-rejection c =
    err_reports (λ e. e.source) c.from_residual.result None (IsCutRejection Normal c.args.text.now) c.from_residual.ensures.1 is_out_of_memory

pub returns-clause-reads : goal.returns-clause-reads
returns-clause-reads c = (answers_read Normal c.args.text.now (λ e. e.source) (record { raw_text = c.in_ok-raw_text.raw_text; inner = c.in_ok-inner.inner }) c.utf8.text c.in_ok-inner.ensures.reading c.in_ok-raw_text.ensures.value)

pub returns-in_err-of_range-clause-rejection : goal.returns-in_err-of_range-clause-rejection
returns-in_err-of_range-clause-rejection c =
    err_reports (λ e. e.source) c.from_residual-in_err-of_range.result None (IsCutRejection Normal c.args.text.now) c.from_residual-in_err-of_range.ensures.1 is_out_of_memory

pub returns-in-Some-clause-reads : goal.returns-in-Some-clause-reads
returns-in-Some-clause-reads c =
    let req = of_range c.in_ok-raw_text.raw_text (release_range c.in-Some.range) in
    let piece = comparator_piece Normal normal c.in-Some.ensures in
    rw (c.in_ok-of_range.ensures, c.into_range.ensures) (answers_read Normal c.args.text.now (λ e. e.source) req c.utf8.text (normal_reading req.inner (piece_reading Normal normal req.inner piece refl)) c.in_ok-raw_text.ensures.value)
