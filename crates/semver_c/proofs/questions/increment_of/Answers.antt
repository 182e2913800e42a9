use Rattle.std.proofs.Common.{rules, string_bytes}
use Rattle.semver_c.proofs.Asking.{asked, within, without}
use Rattle.semver_c.proofs.questions.increment_of.Goals as goal

pub returns-in_err-release_type : goal.returns-in_err-release_type
returns-in_err-release_type c = without _ _ string_bytes c.from_residual.result _ c.in_err-release_type.ensures c.from_residual.ensures.1

pub returns-in_err-base : goal.returns-in_err-base
returns-in_err-base c =
    let r = c.from_residual-in_err-base in
    within _ _ string_bytes r.result _ c.in_ok-release_type.ensures (without _ _ string_bytes r.result _ c.in_err-base.ensures r.ensures.1)

pub returns-in_err-version : goal.returns-in_err-version
returns-in_err-version c =
    let r = c.from_residual-in_err-version in
    within _ _ string_bytes r.result _ c.in_ok-release_type.ensures
    (within _ _ string_bytes r.result _ c.in_ok-base.ensures (without _ _ string_bytes r.result _ c.in_err-version.ensures r.ensures.1))

pub returns-in_err-identifiers : goal.returns-in_err-identifiers
returns-in_err-identifiers c =
    let r = c.from_residual-in_err-identifiers in
    within _ _ string_bytes r.result _ c.in_ok-release_type.ensures
    (within _ _ string_bytes r.result _ c.in_ok-base.ensures
    (within _ _ string_bytes r.result _ c.in_ok-version.ensures (without _ _ string_bytes r.result _ c.in_err-identifiers.ensures r.ensures.1)))

pub returns : goal.returns
returns c =
    let r = c.map_err in
    within _ _ string_bytes r.result _ c.in_ok-release_type.ensures
    (within _ _ string_bytes r.result _ c.in_ok-base.ensures
    (within _ _ string_bytes r.result _ c.in_ok-version.ensures
    (within _ _ string_bytes r.result _ c.in_ok-identifiers.ensures (asked _ string_bytes r.result _ c.incremented.result c.incremented.ensures r.ensures.cases (λ e p made. search rules)))))
