use Rattle.std.proofs.Common.{◌≡◌, ◌==◌, ◌&&◌, false, is_none, length, not, rules}
use Rattle.semver_req.specs.Requirement.{Requirement, tag_of}
use Rattle.answers.specs.Reading.{IsRangeAt}
use Rattle.answers.specs.Simplifying.{match_same}
use Rattle.answers.proofs.LineMatches.{invalid_proper, made_of_value, other_of_fault}
use Rattle.answers.proofs.simplifying.matches_same.Goals as goal
use Rattle.answers.proofs.simplifying.matches_same.Goals.{then-is_range, else-is_range, then-not-is_empty, else-not-is_empty}

pub returns-in-Ok : goal.returns-in-Ok
returns-in-Ok c =
    let same = λ (req : Requirement). match_same c.args.pre_release c.args.own.now.inner c.args.versions.now req.inner in
    let range : c.if-not-is_empty.is_range ≡ (not (length c.args.versions.now == 0) && is_none (tag_of c.in-Ok.other.inner)) = elim c.if-not-is_empty.branch [
      | then-not-is_empty w ↦ search rules
      | else-not-is_empty w ↦ search rules
    ] in
    let is : c.if-is_range.result ≡ same c.in-Ok.other = elim c.if-is_range.branch [
      | then-is_range w ↦ search rules
      | else-is_range w ↦ search rules
    ] in
    rw is (made_of_value (IsRangeAt c.args.flavour 0 c.args.text.now) same false c.in-Ok.other c.in-Ok.ensures.answer)

pub returns-in-Err-Invalid : goal.returns-in-Err-Invalid
returns-in-Err-Invalid c =
    let same = λ (req : Requirement). match_same c.args.pre_release c.args.own.now.inner c.args.versions.now req.inner in
    other_of_fault (IsRangeAt c.args.flavour 0 c.args.text.now) same false _ c.in-Err-Invalid.ensures.answer (rw c.in-Err-Invalid.field-0-is (invalid_proper _ _ _))
