use Rattle.std.proofs.Common.{◌≡◌, ◌<◌, ◌⊎◌, length, arith, None, rules}
use Rattle.std.proofs.lemmas.Bool.Decides.{nat_tests}
use Rattle.std.proofs.lemmas.Result.{err_from_is_err_and}
use Rattle.semver_base.specs.VersionGrammar.{version_failure}
use Rattle.semver_base.specs.VersionParserSteps.{IsFittingNumber}
use Rattle.semver_base.proofs.VersionReading.{all_read, lead_of, left_over, major_rejected, mapped_error, minor_missing, minor_rejected, patch_missing, patch_rejected, shown_rejection, triple_outcome, triple_read}
use Rattle.semver_base.proofs.version.read.Goals as goal

pub returns-in_err-major-clause-rejected : goal.returns-in_err-major-clause-rejected
returns-in_err-major-clause-rejected c =
    let p = err_from_is_err_and c.from_residual.result c.from_residual.ensures.1 in
    let made = mapped_error _ _ c.fitting_number.result c.map_err.result c.map_err.ensures.cases c.in_err-major.was c.fitting_number.ensures.rejected in
    let shown : (c.in_err-major.field-0.0 ≡ None) ⊎ (c.in_err-major.field-0.0 ≡ version_failure made.0 c.args.text.now) = search rules in
    let lead = lead_of c.args.text c.unwrap_or.result c.after_whitespace-unsigned.result c.map_or-bare.result c.after.result c.after-2.result c.after.ensures c.unwrap_or.ensures c.after_whitespace-unsigned.ensures c.after-2.ensures c.map_or-bare.ensures in
    rw (p.1, p.2) (shown_rejection (triple_outcome lead (major_rejected made.1)) shown)

pub returns-in_default-clause-rejected : goal.returns-in_default-clause-rejected
returns-in_default-clause-rejected c =
    let major : IsFittingNumber c.map_or-bare.result.now c.in_ok-major.major c.in_ok-major.rest.now = search rules in
    let lead = lead_of c.args.text c.unwrap_or.result c.after_whitespace-unsigned.result c.map_or-bare.result c.after.result c.after-2.result c.after.ensures c.unwrap_or.ensures c.after_whitespace-unsigned.ensures c.after-2.ensures c.map_or-bare.ensures in
    shown_rejection (triple_outcome lead (minor_missing major c.in_default.ensures)) c.failure.ensures

pub returns-in_err-minor-clause-rejected : goal.returns-in_err-minor-clause-rejected
returns-in_err-minor-clause-rejected c =
    let major : IsFittingNumber c.map_or-bare.result.now c.in_ok-major.major c.in_ok-major.rest.now = search rules in
    let p = err_from_is_err_and c.from_residual-in_err-minor.result c.from_residual-in_err-minor.ensures.1 in
    let made = mapped_error _ _ c.fitting_number-2.result c.map_err-2.result c.map_err-2.ensures.cases c.in_err-minor.was c.fitting_number-2.ensures.rejected in
    let shown : (c.in_err-minor.field-0.0 ≡ None) ⊎ (c.in_err-minor.field-0.0 ≡ version_failure made.0 c.args.text.now) = search rules in
    let lead = lead_of c.args.text c.unwrap_or.result c.after_whitespace-unsigned.result c.map_or-bare.result c.after.result c.after-2.result c.after.ensures c.unwrap_or.ensures c.after_whitespace-unsigned.ensures c.after-2.ensures c.map_or-bare.ensures in
    rw (p.1, p.2) (shown_rejection (triple_outcome lead (minor_rejected major c.in-Some.ensures made.1)) shown)

pub returns-in_default-after-clause-rejected : goal.returns-in_default-after-clause-rejected
returns-in_default-after-clause-rejected c =
    let major : IsFittingNumber c.map_or-bare.result.now c.in_ok-major.major c.in_ok-major.rest.now = search rules in
    let minor : IsFittingNumber c.in-Some.rest.now c.in_ok-minor.minor c.in_ok-minor.rest.now = search rules in
    let lead = lead_of c.args.text c.unwrap_or.result c.after_whitespace-unsigned.result c.map_or-bare.result c.after.result c.after-2.result c.after.ensures c.unwrap_or.ensures c.after_whitespace-unsigned.ensures c.after-2.ensures c.map_or-bare.ensures in
    shown_rejection (triple_outcome lead (patch_missing major c.in-Some.ensures minor c.in_default-after.ensures)) c.failure-in_default-after.ensures

pub returns-in_err-patch-clause-rejected : goal.returns-in_err-patch-clause-rejected
returns-in_err-patch-clause-rejected c =
    let major : IsFittingNumber c.map_or-bare.result.now c.in_ok-major.major c.in_ok-major.rest.now = search rules in
    let minor : IsFittingNumber c.in-Some.rest.now c.in_ok-minor.minor c.in_ok-minor.rest.now = search rules in
    let p = err_from_is_err_and c.from_residual-in_err-patch.result c.from_residual-in_err-patch.ensures.1 in
    let made = mapped_error _ _ c.fitting_number-3.result c.map_err-3.result c.map_err-3.ensures.cases c.in_err-patch.was c.fitting_number-3.ensures.rejected in
    let shown : (c.in_err-patch.field-0.0 ≡ None) ⊎ (c.in_err-patch.field-0.0 ≡ version_failure made.0 c.args.text.now) = search rules in
    let lead = lead_of c.args.text c.unwrap_or.result c.after_whitespace-unsigned.result c.map_or-bare.result c.after.result c.after-2.result c.after.ensures c.unwrap_or.ensures c.after_whitespace-unsigned.ensures c.after-2.ensures c.map_or-bare.ensures in
    rw (p.1, p.2) (shown_rejection (triple_outcome lead (patch_rejected major c.in-Some.ensures minor c.in-Some-after.ensures made.1)) shown)

pub returns-then-not-is_empty-clause-rejected : goal.returns-then-not-is_empty-clause-rejected
returns-then-not-is_empty-clause-rejected c =
    let more : 0 < length c.in_ok-qualifier.rest.now = grind (arith, nat_tests) in
    let major : IsFittingNumber c.map_or-bare.result.now c.in_ok-major.major c.in_ok-major.rest.now = search rules in
    let minor : IsFittingNumber c.in-Some.rest.now c.in_ok-minor.minor c.in_ok-minor.rest.now = search rules in
    let patch : IsFittingNumber c.in-Some-after.rest.now c.in_ok-patch.patch c.in_ok-patch.rest.now = search rules in
    let lead = lead_of c.args.text c.unwrap_or.result c.after_whitespace-unsigned.result c.map_or-bare.result c.after.result c.after-2.result c.after.ensures c.unwrap_or.ensures c.after_whitespace-unsigned.ensures c.after-2.ensures c.map_or-bare.ensures in
    shown_rejection (left_over lead (triple_read major c.in-Some.ensures minor c.in-Some-after.ensures patch) c.in_ok-qualifier.ensures more) c.failure-then-not-is_empty.ensures

pub returns-clause-read : goal.returns-clause-read
returns-clause-read c =
    let empty : length c.in_ok-qualifier.rest.now ≡ 0 = grind (arith, nat_tests) in
    let major : IsFittingNumber c.map_or-bare.result.now c.in_ok-major.major c.in_ok-major.rest.now = search rules in
    let minor : IsFittingNumber c.in-Some.rest.now c.in_ok-minor.minor c.in_ok-minor.rest.now = search rules in
    let patch : IsFittingNumber c.in-Some-after.rest.now c.in_ok-patch.patch c.in_ok-patch.rest.now = search rules in
    let lead = lead_of c.args.text c.unwrap_or.result c.after_whitespace-unsigned.result c.map_or-bare.result c.after.result c.after-2.result c.after.ensures c.unwrap_or.ensures c.after_whitespace-unsigned.ensures c.after-2.ensures c.map_or-bare.ensures in
    all_read lead (triple_read major c.in-Some.ensures minor c.in-Some-after.ensures patch) c.in_ok-qualifier.ensures empty
