use Rattle.std.proofs.Common.{◌≡◌, rules}
use Rattle.answers.specs.Parts.{is_inclusive}
use Rattle.answers.proofs.parts.bound_json.Goals as goal

pub returns-in-Version : goal.returns-in-Version
returns-in-Version c =
    let is : c.eq.result ≡ is_inclusive c.in-Version.bound.kind = search rules in
    rw c.in-Version.is (rw is at (c.into_json.ensures _ (c.put-in-Version.ensures _ _ (c.put.ensures _ _ c.new.ensures c.from.ensures) c.displayed_json.ensures)))
