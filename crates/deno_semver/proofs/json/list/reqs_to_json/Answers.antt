use Rattle.std.proofs.Common.{sym, subst, ap, ◌∙◌}
use Rattle.serde_json.specs.Data.{array}
use Rattle.serde_json.specs.View.{items_of}
use Rattle.serde_json.proofs.Views.{view-Array}
use Rattle.deno_semver.specs.StoredList.{IsStoredList, ParsesToEqualList}
use Rattle.deno_semver.proofs.StoredLists.{npm_reqs, stable_list}
use Rattle.deno_semver.proofs.json.list.reqs_to_json.Goals as goal

pub returns-clause-read_again : goal.returns-clause-read_again
returns-clause-read_again c h =
    let reqs = c.args.reqs.now in
    let is = view-Array c.in_ok-items_json.field-0 ∙ ap (λ items. array (items_of items)) c.in_ok-items_json.ensures in
    subst (IsStoredList reqs) (sym is) (npm_reqs c.stored_requirements_are_read_again.ensures reqs h)

pub returns-clause-stable : goal.returns-clause-stable
returns-clause-stable c h =
    let reqs = c.args.reqs.now in
    let is = view-Array c.in_ok-items_json.field-0 ∙ ap (λ items. array (items_of items)) c.in_ok-items_json.ensures in
    subst (λ d. ParsesToEqualList d reqs) (sym is) (stable_list reqs h)
