use Rattle.std.proofs.Common.{◌≡◌, None, sym, subst}
use Rattle.std.proofs.lemmas.Result.{err_from_is_err_and}
use Rattle.callers.proofs.ReadAgain.{only_memory}
use Rattle.semver_req.specs.Parsers.{Failure}
use Rattle.semver_base.specs.Failure.{source_of}
use Rattle.std.specs.Str.{trim}
use Rattle.semver_req.specs.PieceReading.{IsCutRejection, is_out_of_memory}
use Rattle.semver_req.specs.declared.common.values.Flavour.TheVariants.{Npm}
use Rattle.callers.proofs.stored.npm_text_allows_when_stored.Goals as goal

pub returns-in_err-allows_when_stored_as_normalized-clause-rejection : goal.returns-in_err-allows_when_stored_as_normalized-clause-rejection
returns-in_err-allows_when_stored_as_normalized-clause-rejection c =
    let read = c.in_ok-requirement.ensures.reads in
    let e = c.in_err-allows_when_stored_as_normalized in
    let p = err_from_is_err_and c.from_residual-in_err-allows_when_stored_as_normalized.result c.from_residual-in_err-allows_when_stored_as_normalized.ensures.1 in
    let none : e.field-0.0.source ≡ None = only_memory source_of e.field-0.0 c.args.version.now Npm c.args.text.now c.in_ok-requirement.requirement.inner tt read.read_set read.tag e.ensures.ranges e.ensures.tag in
    rw p.1 (subst (λ (failure : Failure). IsCutRejection Npm (trim c.args.text.now) failure) (sym (p.2)) (subst (λ (failure : Failure). IsCutRejection Npm (trim c.args.text.now) failure) (sym none) is_out_of_memory))
