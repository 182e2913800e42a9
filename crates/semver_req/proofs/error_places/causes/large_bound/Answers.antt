use Rattle.std.proofs.Common.{[], ◌∷◌, ◌++◌, rules, refl, sym, ◌∙◌}
use Rattle.semver_base.specs.ListLaws.{so_far_more, so_far_one}
use Rattle.semver_req.specs.Written.{comparator_of}
use Rattle.semver_req.proofs.LargeBounds.{at_no_overflow, at_none, first_before, first_overflows, next_before, next_overflows, one_more_none}
use Rattle.semver_req.proofs.GrammarFacts.{listing}
use Rattle.semver_req.proofs.PieceReadings.{list_shorter}
use Rattle.semver_req.proofs.error_places.causes.large_bound.Goals as goal

pub returns-in_default : goal.returns-in_default
returns-in_default c = at_none c.args.flavour c.args.piece.now c.requires (rw c.in_default.is at c.in_ok-first.ensures)

pub returns-then-branch : goal.returns-then-branch
returns-then-branch c =
    let front = rw c.in-Some.is at c.in_ok-first.ensures in
    first_overflows c.args.flavour c.args.piece.now front.longest (search rules)

pub loop-next-init : goal.loop-next-init
loop-next-init c =
    let front = rw c.in-Some.is at c.in_ok-first.ensures in
    record {
      is_text = search rules;
      items = comparator_of c.in-Some.first.operator front.partial ∷ [];
      so_far = so_far_one (listing c.args.flavour) front.longest;
      none = search rules;
      reaches = first_before c.args.flavour c.args.piece.now (comparator_of c.in-Some.first.operator front.partial) front.longest (sym (c.in_ok-overflows.ensures front.partial front.seen) ∙ c.if-branch.false);
    }

pub loop-next-preserved : goal.loop-next-preserved
loop-next-preserved c =
    let i = c.loop-next.invariant in
    let front = rw c.in-Some-2.is at c.in_ok-written.ensures in
    let next = comparator_of c.in-Some-2.written.operator front.partial in
    let says = c.in_ok-overflows-2.ensures front.partial front.seen in
    record {
      is_text = search rules;
      items = i.items ++ next ∷ [];
      so_far = so_far_more (listing c.args.flavour) i.so_far c.in-Some-after_separator.ensures front.longest;
      none = one_more_none i.items next i.none says c.if-branch-2.false;
      reaches = next_before c.args.flavour c.args.piece.now i.reaches c.in-Some-after_separator.ensures next front.longest (sym says ∙ c.if-branch-2.false);
    }

pub loop-next-smaller : goal.loop-next-smaller
loop-next-smaller c =
    let front = rw c.in-Some-2.is at c.in_ok-written.ensures in
    list_shorter c.args.flavour c.in-Some-after_separator.ensures front.longest

pub returns-in_default-2 : goal.returns-in_default-2
returns-in_default-2 c =
    let i = c.loop-next.invariant in
    at_no_overflow c.args.flavour c.args.piece.now c.requires (i.so_far.at_separator _ _ c.in-Some-after_separator.ensures (rw c.in_default-2.is at c.in_ok-written.ensures)) i.none

pub returns-then-branch-2 : goal.returns-then-branch-2
returns-then-branch-2 c =
    let i = c.loop-next.invariant in
    let front = rw c.in-Some-2.is at c.in_ok-written.ensures in
    next_overflows c.args.flavour c.args.piece.now i.reaches c.in-Some-after_separator.ensures _ refl front.longest (sym (c.in_ok-overflows-2.ensures front.partial front.seen) ∙ c.if-branch-2.true)

pub returns : goal.returns
returns c =
    let i = c.loop-next.invariant in
    at_no_overflow c.args.flavour c.args.piece.now c.requires (i.so_far.at_end c.in_default-after_separator.ensures) i.none
