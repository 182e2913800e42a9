use Rattle.std.proofs.Common.{inl, inr}
use Rattle.semver_req.specs.ShortComparators.{IsFewer}
use Rattle.semver_req.proofs.ShortComparators.{none_behind, one_behind, two_behind}
use Rattle.semver_req.proofs.common.short.short_partial.Goals as goal

pub returns-then-is_empty : goal.returns-then-is_empty
returns-then-is_empty c = record { rest = c.in_ok-numbers.rest.now; front = c.in_ok-numbers.ensures.numbers; wildcards = none_behind c.in_ok-numbers.rest.now c.if-is_empty.ensures }

pub returns-in-One : goal.returns-in-One
returns-in-One c =
    let fewer : IsFewer c.in_ok-numbers.numbers = elim c.in-One.is [ inl one ↦ rw one.1 tt | inr two ↦ rw two.2 tt ] in
    record { rest = c.in_ok-numbers.rest.now; front = c.in_ok-numbers.ensures.numbers; wildcards = one_behind c.in_ok-rest.rest.now c.in_ok-rest.ensures c.if-is_empty-2.ensures fewer }

pub returns-in-One-numbers : goal.returns-in-One-numbers
returns-in-One-numbers c = record {
  rest = c.in_ok-numbers.rest.now;
  front = c.in_ok-numbers.ensures.numbers;
  wildcards = rw c.in-One-numbers.is (two_behind c.in_ok-rest.rest.now c.in_ok-after_wildcard.field-0.now c.in_ok-rest.ensures c.in_ok-after_wildcard.ensures c.if-is_empty-3.ensures);
}
