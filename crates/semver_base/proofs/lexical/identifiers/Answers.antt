use Rattle.std.proofs.Common.{rules}
use Rattle.semver_base.specs.ListLaws.{listed_none, so_far_more, so_far_one}
use Rattle.semver_base.specs.TokenLaws.{byte_longest, byte_none, identifiers_listing}
use Rattle.semver_base.proofs.Numbers.{run_seen, run_unseen}
use Rattle.semver_base.proofs.lexical.identifiers.Goals as goal

pub returns-then-is_empty : goal.returns-then-is_empty
returns-then-is_empty c = listed_none (run_unseen c.identifier_front.ensures (search rules))

pub returns-in_default : goal.returns-in_default
returns-in_default c =
    rw (c.in_ok-of_one.ensures, c.in_ok-only.ensures.value) ((so_far_one identifiers_listing (run_seen c.identifier_front.ensures (search rules))).at_end (byte_none 46 _ _ (search rules) c.after.ensures))

pub returns : goal.returns
returns c =
    let one = so_far_one identifiers_listing (run_seen c.identifier_front.ensures (search rules)) in
    let two = so_far_more identifiers_listing one (byte_longest 46 c.identifier_front.result.1.now c.in-Some.next.now c.in-Some.ensures) (run_seen c.identifier_front-2.ensures (search rules)) in
    rw (c.in_ok-of_two.ensures, c.in_ok-first.ensures.value, c.in_ok-second.ensures.value) (two.at_end (byte_none 46 _ _ (search rules) c.after-else-is_empty-2.ensures))
