use Rattle.std.proofs.Common.{◌∙◌, None, refl, subst, sym}
use Rattle.std.specs.Str.{trim}
use Rattle.semver_base.specs.PartialTable.{release_range}
use Rattle.semver_req.specs.Parsers.{IsCutReading}
use Rattle.semver_req.specs.PieceReading.{IsCutRejection, is_out_of_memory}
use Rattle.semver_req.specs.Pieces.{npm}
use Rattle.semver_req.specs.Requirement.{of_range}
use Rattle.semver_req.specs.declared.common.values.Flavour.TheVariants.{Npm}
use Rattle.semver_req.proofs.ParserAnswers.{answers_err, answers_read, err_reports}
use Rattle.semver_req.proofs.PiecesRead.{npm_reading}
use Rattle.semver_req.proofs.ShortComparators.{comparator_piece, piece_reading, untrimmed}
use Rattle.semver_req.proofs.npm.parse_npm_version_req.Goals as goal

pub returns-in_err-raw_text-clause-rejection : goal.returns-in_err-raw_text-clause-rejection
returns-in_err-raw_text-clause-rejection c =
    err_reports (λ e. e.source) c.from_residual.result None (IsCutRejection Npm (trim c.args.text.now)) c.from_residual.ensures.1 is_out_of_memory

pub returns-in_err-of_range-clause-rejection : goal.returns-in_err-of_range-clause-rejection
returns-in_err-of_range-clause-rejection c =
    err_reports (λ e. e.source) c.from_residual-in_err-of_range.result None (IsCutRejection Npm (trim c.args.text.now)) c.from_residual-in_err-of_range.ensures.1 is_out_of_memory

pub returns-in-Some-clause-reads : goal.returns-in-Some-clause-reads
returns-in-Some-clause-reads c =
    let req = of_range c.in_ok-raw_text.raw_text (release_range c.in-Some.range) in
    let same = untrimmed Npm c.in-Some.ensures in
    let reading = piece_reading Npm npm req.inner (comparator_piece Npm npm c.in-Some.ensures) refl in
    rw (c.in_ok-of_range.ensures, c.into_range.ensures) (answers_read Npm c.args.text.now (λ e. e.source) req c.utf8.text (npm_reading req.inner (subst (λ text. IsCutReading Npm text req.inner) (sym same) reading)) (c.in_ok-raw_text.ensures.value ∙ sym same))

pub returns-in_err-raw_text-2-clause-rejection : goal.returns-in_err-raw_text-2-clause-rejection
returns-in_err-raw_text-2-clause-rejection c =
    err_reports (λ e. e.source) c.from_residual-in_err-raw_text-2.result None (IsCutRejection Npm (trim c.args.text.now)) c.from_residual-in_err-raw_text-2.ensures.1 is_out_of_memory

pub returns-in_err-inner-clause-reads : goal.returns-in_err-inner-clause-reads
returns-in_err-inner-clause-reads c =
    answers_err Npm c.args.text.now (λ e. e.source) c.from_residual-in_err-inner.result c.in_err-inner.field-0.0 c.from_residual-in_err-inner.ensures.1 (rw c.trim-text.ensures.trim at c.in_err-inner.ensures.rejected)

pub parse_alternatives-requires : goal.parse_alternatives-requires
parse_alternatives-requires c = npm

pub returns-clause-reads : goal.returns-clause-reads
returns-clause-reads c = rw c.from_raw_text_and_inner.ensures (answers_read Npm c.args.text.now (λ e. e.source) (record { raw_text = c.in_ok-raw_text-2.raw_text; inner = c.in_ok-inner.inner }) c.utf8.text (npm_reading c.in_ok-inner.inner (rw c.trim-text.ensures.trim at c.in_ok-inner.ensures.reading)) (c.in_ok-raw_text-2.ensures.value ∙ c.trim-text.ensures.trim))
