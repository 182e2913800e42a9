use Rattle.std.proofs.Common.{◌≡◌, IfOk, rules}
use Rattle.serde_json.specs.View.{view}
use Rattle.serde_json.specs.declared.value.Value.{the_lemmas}
use Rattle.answers.specs.ExplainedJson.{lowest_json}
use Rattle.answers.proofs.explained_json.matches_json.Goals as goal
use Rattle.answers.proofs.explained_json.matches_json.Goals.{in-Some, in-None}

pub returns : goal.returns
returns c =
    let lowest : IfOk c.match-matches.lowest (λ json. view json ≡ lowest_json c.args.matches.now.lowest) = elim c.match-matches.branch [
      | in-Some w ↦ rw (w.lowest-is, w.in-Some.is) w.displayed_json-lowest.ensures
      | in-None w ↦ rw (w.lowest-is, w.in-None.is) (search (rules, the_lemmas))
    ] in
    c.into_json.ensures _ (c.put_text.ensures _ (c.put-5.ensures _ _ (c.put-4.ensures _ _ (c.put-3.ensures _ _ (c.put-2.ensures _ _ (c.put.ensures _ _ c.new.ensures c.comparators_json.ensures) c.bound_json.ensures) lowest) c.pre_releases_json.ensures) c.bound_json-2.ensures))
