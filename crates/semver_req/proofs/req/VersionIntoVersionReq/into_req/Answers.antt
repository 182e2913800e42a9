use Rattle.std.proofs.Common.{◌≡◌, IfOk, rules}
use Rattle.std.proofs.lemmas.Result.{IfOk-weaker}
use Rattle.semver_req.specs.Requirement.{pinned}
use Rattle.semver_req.proofs.Pinned.{pinned_means, pinned_read, pinned_stable}
use Rattle.semver_req.proofs.req.VersionIntoVersionReq.into_req.Goals as goal

pub returns-clause-matches : goal.returns-clause-matches
returns-clause-matches c =
    let value : IfOk c.of_range.result (λ req. req ≡ pinned c.args.self) = search rules in
    IfOk-weaker c.of_range.result _ _ (λ req is. rw is (pinned_means c.args.self)) value

pub returns-clause-read_set : goal.returns-clause-read_set
returns-clause-read_set c =
    let value : IfOk c.of_range.result (λ req. req ≡ pinned c.args.self) = search rules in
    IfOk-weaker c.of_range.result _ _ (λ req is. rw is (pinned_read c.args.self)) value

pub returns-clause-stable : goal.returns-clause-stable
returns-clause-stable c =
    let value : IfOk c.of_range.result (λ req. req ≡ pinned c.args.self) = search rules in
    IfOk-weaker c.of_range.result _ _ (λ req is. rw is (pinned_stable c.args.self)) value
