use Rattle.std.proofs.Common.{◌≡◌, ◌∙◌, ap, map, rules}
use Rattle.serde_json.specs.Data.{array, string}
use Rattle.serde_json.specs.View.{items_of, view}
use Rattle.serde_json.proofs.Views.{view-Array}
use Rattle.answers.specs.ExplainedJson.{numbers_text, pre_releases}
use Rattle.answers.proofs.explained_json.pre_releases_json.Goals as goal

pub returns-in-Admitted : goal.returns-in-Admitted
returns-in-Admitted c = rw c.in-Admitted.is c.text_json.ensures

pub returns-in_ok-push_numbers-in-Restricted-2 : goal.returns-in_ok-push_numbers-in-Restricted-2
returns-in_ok-push_numbers-in-Restricted-2 c =
    let made = c.push_numbers-in-Restricted.new.items in
    let all : map view made.items ≡ map string (map numbers_text (pre_releases c.args.matches.now)) = search rules in
    rw c.in-Restricted.is (view-Array made ∙ ap (λ items. array (items_of items)) all)
