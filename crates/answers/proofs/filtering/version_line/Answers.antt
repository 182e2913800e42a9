use Rattle.std.proofs.Common.{None, Some}
use Rattle.semver_base.specs.declared.version.Version.{Version}
use Rattle.answers.specs.Reading.{IsVersionAt}
use Rattle.answers.proofs.LineMatches.{invalid_proper, made_of_value, other_of_fault}
use Rattle.answers.proofs.filtering.version_line.Goals as goal

pub returns-in-Ok-clause-answer : goal.returns-in-Ok-clause-answer
returns-in-Ok-clause-answer c = made_of_value (IsVersionAt c.args.place c.args.text.now) (λ (v : Version). Some v) None c.in-Ok.version c.in-Ok.ensures

pub returns-in-Err-Invalid-clause-answer : goal.returns-in-Err-Invalid-clause-answer
returns-in-Err-Invalid-clause-answer c =
    other_of_fault (IsVersionAt c.args.place c.args.text.now) (λ (v : Version). Some v) None _ c.in-Err-Invalid.ensures (rw c.in-Err-Invalid.field-0-is (invalid_proper _ _ _))
