use Rattle.std.proofs.Common.{rules}
use Rattle.semver_base.specs.ListLaws.{listed_none, so_far_more, so_far_one}
use Rattle.semver_base.specs.TokenLaws.{byte_longest, identifiers_listing}
use Rattle.semver_base.proofs.Numbers.{run_seen, run_unseen}
use Rattle.semver_base.proofs.lexical.many_identifiers.Goals as goal

pub returns-then-is_empty : goal.returns-then-is_empty
returns-then-is_empty c = listed_none (run_unseen c.identifier_front.ensures (search rules))

pub loop-next-init : goal.loop-next-init
loop-next-init c = record {
  is_text = search rules;
  so_far = rw (c.in_ok-push_identifier.ensures, c.new-ids.ensures.items) (so_far_one identifiers_listing (run_seen c.identifier_front.ensures (search rules)));
}

pub returns-then-is_empty-2 : goal.returns-then-is_empty-2
returns-then-is_empty-2 c =
    rw c.in_ok-from_vec.ensures (c.loop-next.invariant.so_far.at_separator c.in-Some.next.now tt (byte_longest 46 c.loop-next.rest.now c.in-Some.next.now c.in-Some.ensures) (run_unseen c.identifier_front-in-Some.ensures (search rules)))

pub loop-next-preserved : goal.loop-next-preserved
loop-next-preserved c = record {
  is_text = search rules;
  so_far = rw c.in_ok-push_identifier-2.ensures (so_far_more identifiers_listing c.loop-next.invariant.so_far (byte_longest 46 c.loop-next.rest.now c.in-Some.next.now c.in-Some.ensures) (run_seen c.identifier_front-in-Some.ensures (search rules)));
}
