use Rattle.std.proofs.Common.{Err, Ok, ap, subst, sym, ◌∙◌}
use Rattle.std.proofs.lemmas.Result.{err_from_is_err_and}
use Rattle.callers.specs.Allowance.{allowance_of}
use Rattle.callers.specs.References.{AllowsReference}
use Rattle.deno_semver.specs.declared.package.values.PackageReq.{PackageReq}
use Rattle.callers.proofs.ReferencesAllowed.{both_read, reference_rejected, version_rejected}
use Rattle.callers.proofs.packages.reference_allows.Goals as goal

pub returns-in_err-reference : goal.returns-in_err-reference
returns-in_err-reference g c =
    let p = err_from_is_err_and c.from_residual.result c.from_residual.ensures.1 in
    rw (p.1, p.2) (reference_rejected g.R.Registry.kind c.args.text.now c.args.version.now c.in_err-reference.field-0.0 c.in_err-reference.ensures.parsed.rejected c.in_err-reference.ensures.parsed.answer)

pub returns-in_err-version : goal.returns-in_err-version
returns-in_err-version g c =
    let p = err_from_is_err_and c.from_residual-in_err-version.result c.from_residual-in_err-version.ensures.1 in
    let r = c.in_ok-reference in
    rw (p.1, p.2) (version_rejected g.R.Registry.kind c.args.text.now c.args.version.now r.reference r.ensures.parsed.read r.ensures.parsed.answer c.in_err-version.field-0.0 c.in_err-version.ensures.rejected c.in_err-version.ensures.answer)

pub returns : goal.returns
returns g c =
    let v = c.in_ok-version in
    let r = c.in_ok-reference in
    let reported = c.allowance_by.ensures ∙ ap (λ (req : PackageReq). allowance_of req.version_req.inner v.version) c.req.ensures in
    subst (λ allowance. AllowsReference g.R.Registry.kind c.args.text.now c.args.version.now (Ok allowance)) (sym reported)
    (both_read g.R.Registry.kind c.args.text.now c.args.version.now r.reference v.version r.ensures.parsed.read r.ensures.parsed.answer v.ensures.read (λ fault k. v.ensures.answer (Err fault) k) (λ w k. v.ensures.answer (Ok w) k) c.retained_sets_mean_their_trees.ensures)
