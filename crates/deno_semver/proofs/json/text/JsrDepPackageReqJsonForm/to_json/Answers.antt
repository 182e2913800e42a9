use Rattle.std.proofs.Common.{sym, subst, ap, ◌∙◌}
use Rattle.std.proofs.lemmas.Result.{IfOk-weaker}
use Rattle.serde_json.specs.Data.{string}
use Rattle.deno_semver.specs.Stored.{IsStoredDependency}
use Rattle.deno_semver.proofs.StoredDependencies.{stored_dependency}
use Rattle.deno_semver.proofs.json.text.JsrDepPackageReqJsonForm.to_json.Goals as goal

pub returns-clause-read_again : goal.returns-clause-read_again
returns-clause-read_again c =
    let d = c.args.self.now in
    IfOk-weaker c.try_from_str.result _ _ (λ json is text u h. subst (λ j. IsStoredDependency d j) (sym (is ∙ ap string (c.as_str.ensures.value ∙ c.in_ok-normal.ensures))) (stored_dependency c.stored_requirements_are_read_again.ensures d text u h)) c.try_from_str.ensures
