use Rattle.std.proofs.Common.{◌≡◌, [], subst, sym, arith, codes}
use Rattle.std.specs.Cmp.{unsigned_Decides}
use Rattle.std.specs.Cmp.Lexicographic.{pointwise_decides}
use Rattle.std.proofs.lemmas.Bool.Decides.{nat_tests}
use Rattle.std.proofs.lemmas.List.{nil_from_length}
use Rattle.semver_base.specs.Comparators.{comparator_line}
use Rattle.semver_base.specs.PartialTable.{IsLineRange, with_qualifier}
use Rattle.semver_req.specs.Written.{comparator_of}
use Rattle.semver_req.specs.ShortComparators.{IsQualifiedComparator, is_qualified, is_star}
use Rattle.semver_req.proofs.ShortComparators.{qualified_line}
use Rattle.semver_req.proofs.common.short.star_or_qualified.Goals as goal

pub returns : goal.returns
returns c =
    let operator = c.split_operator-operator.result.0 in
    let cut = c.split_operator-operator.ensures in
    let qualifier = c.in_ok-qualifier.qualifier in
    let nil : c.in_ok-qualifier.rest.now ≡ [] = nil_from_length c.in_ok-qualifier.rest.now (grind (arith, nat_tests, sym c.if-not-is_empty.ensures)) in
    let whole : IsQualifiedComparator c.args.flavour c.args.text.now c.in_ok-range.range = record {
      operator = operator;
      rest = c.split_operator-operator.result.1.now;
      numbers = c.in-Some.numbers;
      behind = c.in-Some.rest.now;
      qualifier = qualifier;
      cut = cut;
      front = c.in-Some.ensures.numbers;
      longest = rw nil at (rw c.strictness.ensures at c.in_ok-qualifier.ensures);
      line = subst (IsLineRange (comparator_line (comparator_of operator (with_qualifier qualifier c.in-Some.numbers)))) (sym c.in_ok-range.ensures) (qualified_line operator qualifier c.in-Some.numbers c.args.text.now c.split_operator-operator.result.1.now cut c.in-Some-numbers_range.ensures);
    } in
    rw c.in_ok-of_one-2.ensures (is_qualified whole)

pub returns-then-eq : goal.returns-then-eq
returns-then-eq c = rw (c.in_ok-of_one.ensures, c.all.ensures) (is_star ((pointwise_decides unsigned_Decides c.args.text.now (codes "*")).0 (sym c.if-eq.ensures)))
