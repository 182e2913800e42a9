use Rattle.std.proofs.Common.{sym, subst, ap, ◌∙◌}
use Rattle.serde_json.specs.Data.{string}
use Rattle.deno_semver.specs.Stored.{IsStoredReq}
use Rattle.deno_semver.proofs.json.text.PackageReqJsonForm.to_json.Goals as goal

pub returns-clause-read_again : goal.returns-clause-read_again
returns-clause-read_again c =
    let req = c.args.self.now in
    λ text u h. subst (λ d. IsStoredReq req d) (sym (c.string_json.ensures ∙ ap string c.in_ok-normal.ensures)) (c.stored_requirements_are_read_again.ensures req text u h)
