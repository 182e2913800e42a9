use Rattle.std.proofs.Common.{◌≡◌, None, refl, ◌⊎◌}
use Rattle.semver_base.specs.Lexical.{IsWhitespace}
use Rattle.semver_base.specs.PartialTable.{release_range}
use Rattle.semver_req.specs.Requirement.{of_range}
use Rattle.semver_req.specs.SpecifierRejections.{IsSpecifierRejection, empty_constraint, is_out_of_memory}
use Rattle.semver_req.specs.declared.common.values.Flavour.TheVariants.{Specifier}
use Rattle.semver_req.specs.declared.range_set_or_tag.RangeSetOrTag.{RangeSetOrTag}
use Rattle.semver_req.specs.declared.range_set_or_tag.RangeSetOrTag.TheVariants as inner
use Rattle.semver_req.proofs.ShortComparators.{short_single, whole_strict}
use Rattle.semver_req.proofs.ParserAnswers.{answers_err, answers_read, err_reports}
use Rattle.semver_req.proofs.SpecifierRanges.{range_reading, whitespace_rejection, rejection_whitespace, rejection_outcome}
use Rattle.semver_req.proofs.specifier.parse_version_req_from_specifier.Goals as goal

pub returns-in_err-inner-clause-reads : goal.returns-in_err-inner-clause-reads
returns-in_err-inner-clause-reads c =
    answers_err Specifier c.args.text.now (λ e. e.source) c.from_residual-in_err-inner.result c.in_err-inner.field-0.0 c.from_residual-in_err-inner.ensures.1 (rejection_outcome c.in_err-inner.ensures.rejection)

pub returns-in_err-inner-clause-empty : goal.returns-in_err-inner-clause-empty
returns-in_err-inner-clause-empty c =
    λ b. err_reports (λ e. e.source) c.from_residual-in_err-inner.result c.in_err-inner.field-0.0 (λ f. (f ≡ None) ⊎ (f ≡ empty_constraint)) c.from_residual-in_err-inner.ensures.1 (whitespace_rejection b c.in_err-inner.ensures.rejection)

pub returns-in_err-inner-clause-empty_only : goal.returns-in_err-inner-clause-empty_only
returns-in_err-inner-clause-empty_only c =
    err_reports (λ e. e.source) c.from_residual-in_err-inner.result c.in_err-inner.field-0.0 (λ f. f ≡ empty_constraint → IsWhitespace c.args.text.now tt) c.from_residual-in_err-inner.ensures.1 (rejection_whitespace c.in_err-inner.ensures.rejection)

pub returns-in_err-raw_text-clause-rejection : goal.returns-in_err-raw_text-clause-rejection
returns-in_err-raw_text-clause-rejection c = err_reports (λ e. e.source) c.from_residual.result None (IsSpecifierRejection c.args.text.now) c.from_residual.ensures.1 is_out_of_memory

pub returns-clause-reads : goal.returns-clause-reads
returns-clause-reads c = rw c.from_raw_text_and_inner-2.ensures (answers_read Specifier c.args.text.now (λ e. e.source) (record { raw_text = c.in_ok-raw_text.raw_text; inner = c.in_ok-inner.inner }) c.utf8.text c.in_ok-inner.ensures.reading c.in_ok-raw_text.ensures.value)

pub returns-in_err-of_range-clause-rejection : goal.returns-in_err-of_range-clause-rejection
returns-in_err-of_range-clause-rejection c =
    err_reports (λ e. e.source) c.from_residual-in_err-of_range.result None (IsSpecifierRejection c.args.text.now) c.from_residual-in_err-of_range.ensures.1 is_out_of_memory

pub returns-in-Some-clause-reads : goal.returns-in-Some-clause-reads
returns-in-Some-clause-reads c =
    let req = of_range c.in_ok-raw_text.raw_text (release_range c.in-Some.range) in
    rw (c.in_ok-of_range.ensures, c.into_range.ensures) (answers_read Specifier c.args.text.now (λ e. e.source) req c.utf8.text (range_reading (short_single Specifier c.in-Some.ensures) req.inner refl) c.in_ok-raw_text.ensures.value)

pub returns-in_err-ranges-clause-rejection : goal.returns-in_err-ranges-clause-rejection
returns-in_err-ranges-clause-rejection c =
    err_reports (λ e. e.source) c.from_residual-in_err-ranges.result None (IsSpecifierRejection c.args.text.now) c.from_residual-in_err-ranges.ensures.1 is_out_of_memory

pub returns-in-Some-2-clause-reads : goal.returns-in-Some-2-clause-reads
returns-in-Some-2-clause-reads c =
    let set : RangeSetOrTag = inner.RangeSet (record { 0 = c.in-Some-2.ranges }) in
    rw c.from_raw_text_and_inner.ensures (answers_read Specifier c.args.text.now (λ e. e.source) (record { raw_text = c.in_ok-raw_text.raw_text; inner = set }) c.utf8.text (whole_strict set (rw c.in-Some-2.is at c.in_ok-ranges.ensures) refl) c.in_ok-raw_text.ensures.value)
