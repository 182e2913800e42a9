use Rattle.std.proofs.Common.{◌≡◌, arith, rules, sym, ◌∙◌}
use Rattle.deno_semver.specs.CutLaws.{none_passes}
use Rattle.deno_semver.specs.PackageText.{without_slash}
use Rattle.package_answers.specs.Errors as at
use Rattle.package_answers.proofs.PackagePlaces.{at_first, at_path, body_is, is_scope_alone, lacks_at_sign, lacks_name}
use Rattle.package_answers.proofs.packages.fault_place.Goals as goal

pub returns-in-MissingAtSymbol-clause-place : goal.returns-in-MissingAtSymbol-clause-place
returns-in-MissingAtSymbol-clause-place c = λ f fault h. rw (lacks_at_sign f fault (rw c.in-MissingAtSymbol.is at h)) at.no_at

pub returns-in-NoPackageName-clause-place : goal.returns-in-NoPackageName-clause-place
returns-in-NoPackageName-clause-place c =
    λ f fault h. rw (lacks_name f fault (rw c.in-NoPackageName.is at h), c.unwrap_or-body.ensures, body_is c.args.text c.after.result c.after.ensures) at.no_name

pub returns-in-Some-clause-place : goal.returns-in-Some-clause-place
returns-in-Some-clause-place c =
    let parts = at_first c.unwrap_or-body.result.now c.in-Some._scope.now c.in-Some.rest.now c.in-Some.ensures.cases in
    let body : c.unwrap_or-body.result.now ≡ without_slash c.args.text.now = rw c.unwrap_or-body.ensures (body_is c.args.text c.after.result c.after.ensures) in
    λ f fault h. rw (is_scope_alone f fault (rw c.in-InvalidPackageName.is at h)) (at.no_last c.in-Some._scope.now c.in-Some.rest.now (sym body ∙ parts.0) parts.1)

pub returns-in-None-clause-place : goal.returns-in-None-clause-place
returns-in-None-clause-place c =
    let body : c.unwrap_or-body.result.now ≡ without_slash c.args.text.now = rw c.unwrap_or-body.ensures (body_is c.args.text c.after.result c.after.ensures) in
    λ f fault h. rw (is_scope_alone f fault (rw c.in-InvalidPackageName.is at h)) (at.no_slash (rw body at (none_passes 47 c.unwrap_or-body.result.now (omega arith) c.in-None.ensures.cases)))

pub returns-in-Some-code_snippet-clause-place : goal.returns-in-Some-code_snippet-clause-place
returns-in-Some-code_snippet-clause-place c =
    λ f fault h. rw c.saturating_sub.ensures (at_path f c.args.text.now fault c.args.error.now h (search rules))
