use Rattle.std.proofs.Common.{◌++◌, rules}
use Rattle.semver_req.proofs.ListedFronts.{item_shorter, items_text, listed_here, listed_start, longer_by, next_text, two_items}
use Rattle.semver_req.proofs.error_places.listed_front.Goals as goal

pub returns-in_default : goal.returns-in_default
returns-in_default c = listed_start c.args.flavour c.args.sizes c.args.text.now c.utf8.text

pub returns-in_default-2 : goal.returns-in_default-2
returns-in_default-2 c = listed_start c.args.flavour c.args.sizes c.args.text.now c.utf8.text

pub loop-next-init : goal.loop-next-init
loop-next-init c =
    let first = rw c.in-Some.is at c.in_ok-second.ensures in
    let second = rw c.in-Some-2.is at c.in_ok-third.ensures in
    record {
      is_text = search rules;
      done = (first.item ++ first.separator) ++ (second.item ++ second.separator);
      text_is = items_text c.args.flavour c.args.sizes first second;
      long = two_items c.args.flavour c.args.sizes first second;
      listed = listed_start c.args.flavour c.args.sizes c.args.text.now c.utf8.text;
    }

pub loop-next-preserved : goal.loop-next-preserved
loop-next-preserved c =
    let loop = c.loop-next.invariant in
    let item = rw c.in-Some-3.is at c.in_ok-next.ensures in
    record {
      is_text = search rules;
      done = loop.done ++ (item.item ++ item.separator);
      text_is = next_text c.args.flavour c.args.sizes loop.done loop.text_is item;
      long = longer_by c.args.flavour c.args.sizes loop.long item;
      listed = listed_here c.args.flavour c.args.sizes loop.done loop.text_is c.requires loop.long item loop.is_text;
    }

pub loop-next-smaller : goal.loop-next-smaller
loop-next-smaller c =
    let item = rw c.in-Some-3.is at c.in_ok-next.ensures in
    item_shorter c.args.flavour c.args.sizes item

pub returns : goal.returns
returns c = c.loop-next.invariant.listed
