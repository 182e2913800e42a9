use Rattle.std.proofs.Common.{ap, refl, sym}
use Rattle.semver_req.specs.Pieces.{IsHyphen, hyphen}
use Rattle.semver_req.specs.declared.range_set_or_tag.pieces.RangeOrInvalid.{RangeOrInvalid}
use Rattle.semver_req.proofs.Hyphens.{follows_pair, no_pair}
use Rattle.semver_req.proofs.PiecesRead.{whole_of}
use Rattle.semver_req.proofs.comparators.hyphen_range.Goals as goal
use Rattle.semver_req.proofs.comparators.hyphen_range.Goals.{in_default-via-in-Some+else-is_empty, in_default-via-in_default}

pub returns-in-Some : goal.returns-in-Some
returns-in-Some c =
    let pair = rw c.in-Some.is at c.in_ok-found-in-Npm.ensures in
    let whole : IsHyphen c.args.alternative.now (hyphen pair.value) = record { value = pair.value; stands = whole_of pair.longest (sym c.if-is_empty.ensures); is = refl } in
    (hyphen pair.value, c.in-Npm.is, whole, ap (λ (read : RangeOrInvalid). (c.args.alternative.now, read)) (c.in_ok-parsed-in-Some.ensures pair.value pair.seen))

pub returns : goal.returns
returns c = λ cs npm h. elim c.in_default.branch [
  | in_default-via-in-Some+else-is_empty w ↦
      let pair = rw w.in-Some.is at c.in_ok-found-in-Npm.ensures in
      follows_pair pair.longest (sym w.if-is_empty.ensures) cs h
  | in_default-via-in_default w ↦ no_pair (rw w.in_default.is at c.in_ok-found-in-Npm.ensures) cs h
]
