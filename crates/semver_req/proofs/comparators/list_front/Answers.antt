use Rattle.std.proofs.Common.{[], ◌∷◌, ◌++◌, rules}
use Rattle.std.proofs.lemmas.List.{map-append}
use Rattle.semver_base.specs.ListLaws.{listed_none, so_far_more, so_far_one}
use Rattle.semver_req.specs.ComparatorLists.{told}
use Rattle.semver_req.proofs.ComparatorLists.{listing_items}
use Rattle.semver_req.proofs.GrammarFacts.{listing}
use Rattle.semver_req.proofs.PieceReadings.{list_shorter}
use Rattle.semver_req.proofs.comparators.list_front.Goals as goal

pub returns-in_default : goal.returns-in_default
returns-in_default c = listed_none (rw c.in_default.is at c.in_ok-first.ensures)

pub loop-next-init : goal.loop-next-init
loop-next-init c =
    let first = rw c.in-Some.is at c.in_ok-first.ensures in
    record {
      is_text = search rules;
      so_far = rw (c.in_ok-push.ensures.items, c.new-items.ensures.items) (so_far_one (listing_items c.args.flavour (listing c.args.flavour)) first);
    }

pub loop-next-smaller : goal.loop-next-smaller
loop-next-smaller c =
    let item = rw c.in-Some-2.is at c.in_ok-item.ensures in
    list_shorter c.args.flavour c.in-Some-after_separator.ensures item

pub loop-next-preserved : goal.loop-next-preserved
loop-next-preserved c =
    let item = rw c.in-Some-2.is at c.in_ok-item.ensures in
    record {
      is_text = search rules;
      so_far = rw (c.in_ok-push-2.ensures.items, map-append told c.loop-next.items.items (c.in-Some-2.item ∷ []))
          (so_far_more (listing_items c.args.flavour (listing c.args.flavour)) c.loop-next.invariant.so_far c.in-Some-after_separator.ensures item);
    }

pub returns-in_default-2 : goal.returns-in_default-2
returns-in_default-2 c = c.loop-next.invariant.so_far.at_separator _ tt c.in-Some-after_separator.ensures (rw c.in_default-2.is at c.in_ok-item.ensures)

pub returns : goal.returns
returns c = c.loop-next.invariant.so_far.at_end c.in_default-after_separator.ensures
