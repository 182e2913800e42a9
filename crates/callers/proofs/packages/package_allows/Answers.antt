use Rattle.std.proofs.Common.{Err, Ok, subst, sym}
use Rattle.std.proofs.lemmas.Result.{err_from_is_err_and}
use Rattle.callers.specs.Packages.{AllowsPackage}
use Rattle.semver_req.specs.declared.common.values.Flavour.TheVariants.{Specifier}
use Rattle.callers.proofs.PackagesAllowed.{both_read, package_rejected, version_rejected}
use Rattle.callers.proofs.packages.package_allows.Goals as goal

pub returns-in_err-req : goal.returns-in_err-req
returns-in_err-req c =
    let p = err_from_is_err_and c.from_residual.result c.from_residual.ensures.1 in
    rw (p.1, p.2) (package_rejected Specifier c.args.text.now c.args.version.now c.in_err-req.field-0.0 c.in_err-req.ensures.rejected c.in_err-req.ensures.answer)

pub returns-in_err-version : goal.returns-in_err-version
returns-in_err-version c =
    let p = err_from_is_err_and c.from_residual-in_err-version.result c.from_residual-in_err-version.ensures.1 in
    let r = c.in_ok-req in
    rw (p.1, p.2) (version_rejected Specifier c.args.text.now c.args.version.now r.req r.ensures.read c.in_err-version.field-0.0 c.in_err-version.ensures.rejected c.in_err-version.ensures.answer)

pub returns : goal.returns
returns c =
    let v = c.in_ok-version in
    let r = c.in_ok-req in
    subst (λ allowance. AllowsPackage Specifier c.args.text.now c.args.version.now (Ok allowance)) (sym c.allowance_by.ensures)
    (both_read Specifier c.args.text.now c.args.version.now r.req v.version r.ensures.read r.ensures.answer v.ensures.read (λ fault k. v.ensures.answer (Err fault) k) (λ w k. v.ensures.answer (Ok w) k) c.retained_sets_mean_their_trees.ensures)
