use Rattle.std.proofs.Common.{[], ◌∷◌, ◌++◌, ◌∙◌, rules}
use Rattle.semver_base.specs.ListLaws.{so_far_more, so_far_one}
use Rattle.semver_req.specs.Written.{comparator_of}
use Rattle.semver_req.proofs.Joining.{and_bound, and_invalid, and_large, and_range}
use Rattle.semver_req.proofs.GrammarFacts.{listing}
use Rattle.semver_req.proofs.PieceReadings.{list_shorter}
use Rattle.semver_req.proofs.range_set_or_tag.pieces.RangeOrInvalid.comparators.Goals as goal

pub loop-next-init : goal.loop-next-init
loop-next-init c = record {
  is_text = search rules;
  others = [];
  so_far = λ piece front. so_far_one (listing c.args.flavour) front.longest;
  read = λ p seen. c.in_ok-read.ensures p seen;
}

pub loop-next-preserved-in_default-TooLarge : goal.loop-next-preserved-in_default-TooLarge
loop-next-preserved-in_default-TooLarge c =
    let front = rw c.in-Some-2.is at c.in_ok-written.ensures in
    let loop = c.loop-next.invariant in
    record {
      is_text = search rules;
      others = loop.others ++ comparator_of c.in-Some-2.written.operator front.partial ∷ [];
      so_far = λ piece first. so_far_more (listing c.args.flavour) (loop.so_far piece first) c.in-Some.ensures front.longest;
      read = λ p seen.
          let others = comparator_of c.args.first.operator p ∷ loop.others in
          and_large c.in-Some-2.written.operator others front.partial (rw c.in_default-TooLarge.is-1 at front.seen);
    }

pub loop-next-smaller-in_default-TooLarge : goal.loop-next-smaller-in_default-TooLarge
loop-next-smaller-in_default-TooLarge c =
    let front = rw c.in-Some-2.is at c.in_ok-written.ensures in
    list_shorter c.args.flavour c.in-Some.ensures front.longest

pub loop-next-preserved-in-Invalid-Fits : goal.loop-next-preserved-in-Invalid-Fits
loop-next-preserved-in-Invalid-Fits c =
    let front = rw c.in-Some-2.is at c.in_ok-written.ensures in
    let loop = c.loop-next.invariant in
    record {
      is_text = search rules;
      others = loop.others ++ comparator_of c.in-Some-2.written.operator front.partial ∷ [];
      so_far = λ piece first. so_far_more (listing c.args.flavour) (loop.so_far piece first) c.in-Some.ensures front.longest;
      read = λ p seen.
          let others = comparator_of c.args.first.operator p ∷ loop.others in
          and_invalid c.in-Some-2.written.operator others front.partial (rw c.in-Invalid-Fits.is-0 at (loop.read p seen)) (rw c.in-Invalid-Fits.is-1 at front.seen);
    }

pub loop-next-smaller-in-Invalid-Fits : goal.loop-next-smaller-in-Invalid-Fits
loop-next-smaller-in-Invalid-Fits c =
    let front = rw c.in-Some-2.is at c.in_ok-written.ensures in
    list_shorter c.args.flavour c.in-Some.ensures front.longest

pub loop-next-preserved-in_ok-clamp_into-in-Ok : goal.loop-next-preserved-in_ok-clamp_into-in-Ok
loop-next-preserved-in_ok-clamp_into-in-Ok c =
    let front = rw c.in-Some-2.is at c.in_ok-written.ensures in
    let loop = c.loop-next.invariant in
    record {
      is_text = search rules;
      others = loop.others ++ comparator_of c.in-Some-2.written.operator front.partial ∷ [];
      so_far = λ piece first. so_far_more (listing c.args.flavour) (loop.so_far piece first) c.in-Some.ensures front.longest;
      read = λ p seen.
          let others = comparator_of c.args.first.operator p ∷ loop.others in
          and_range c.in-Some-2.written.operator others front.partial (rw c.in-Range-Fits.is-0 at (loop.read p seen)) (rw c.in-Range-Fits.is-1 at front.seen) c.in-Ok.ensures.range c.in-Ok.ensures.fits c.in_ok-clamp_into-in-Ok.ensures.value;
    }

pub loop-next-smaller-in_ok-clamp_into-in-Ok : goal.loop-next-smaller-in_ok-clamp_into-in-Ok
loop-next-smaller-in_ok-clamp_into-in-Ok c =
    let front = rw c.in-Some-2.is at c.in_ok-written.ensures in
    list_shorter c.args.flavour c.in-Some.ensures front.longest

pub loop-next-preserved : goal.loop-next-preserved
loop-next-preserved c =
    let front = rw c.in-Some-2.is at c.in_ok-written.ensures in
    let loop = c.loop-next.invariant in
    record {
      is_text = search rules;
      others = loop.others ++ comparator_of c.in-Some-2.written.operator front.partial ∷ [];
      so_far = λ piece first. so_far_more (listing c.args.flavour) (loop.so_far piece first) c.in-Some.ensures front.longest;
      read = λ p seen.
          let others = comparator_of c.args.first.operator p ∷ loop.others in
          c.in_ok-read-in-Err.ensures.0 ∙ and_bound c.in-Some-2.written.operator others front.partial (rw c.in-Range-Fits.is-0 at (loop.read p seen)) (rw c.in-Range-Fits.is-1 at front.seen) c.in-Err.ensures.rejected c.in_ok-read-in-Err.ensures.1;
    }

pub loop-next-smaller : goal.loop-next-smaller
loop-next-smaller c =
    let front = rw c.in-Some-2.is at c.in_ok-written.ensures in
    list_shorter c.args.flavour c.in-Some.ensures front.longest

pub returns-in_default-2 : goal.returns-in_default-2
returns-in_default-2 c =
    λ piece first.
    let loop = c.loop-next.invariant in
    record {
      value = comparator_of c.args.first.operator first.partial ∷ loop.others;
      longest = (loop.so_far piece first).at_separator _ tt c.in-Some.ensures (rw c.in_default-2.is at c.in_ok-written.ensures);
      seen = loop.read first.partial first.seen;
    }

pub returns : goal.returns
returns c =
    λ piece first.
    let loop = c.loop-next.invariant in
    record {
      value = comparator_of c.args.first.operator first.partial ∷ loop.others;
      longest = (loop.so_far piece first).at_end c.in_default.ensures;
      seen = loop.read first.partial first.seen;
    }
