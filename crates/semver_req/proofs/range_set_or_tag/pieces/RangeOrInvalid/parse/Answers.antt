use Rattle.std.proofs.Common.{◌↔◌, IsTrue, None, Some, refl, rules, sym}
use Rattle.std.proofs.lemmas.Bool.{both_ways}
use Rattle.semver_req.specs.PieceSteps.{IsEverything, IsWholeRead}
use Rattle.semver_req.specs.Pieces.{IsFilled, IsHyphen, hyphen}
use Rattle.semver_req.proofs.Hyphens.{follows_pair, no_pair}
use Rattle.semver_req.proofs.PiecesRead.{filled_or_outside, followed_whitespace, nothing_more, npm_hyphen_or_none, npm_list, whole_of}
use Rattle.semver_req.proofs.range_set_or_tag.pieces.RangeOrInvalid.parse.Goals as goal
use Rattle.semver_req.proofs.range_set_or_tag.pieces.RangeOrInvalid.parse.Goals.{then-is_followed, else-is_followed, in-Npm+in_ok-read-in-Npm+in-Some, in-Npm+in_ok-read-in-Npm+in-None+in_ok-rest-in-None+in-Some-2+in_ok-between-in-Some-2, in-Npm+in_ok-read-in-Npm+in-None+in_ok-rest-in-None+in_default, in_default-via-in-Some-2+else-is_empty-2, in_default-via-in_default, in-Normal+in_ok-read-in-Normal, in-Specifier}

pub returns-then-is_empty : goal.returns-then-is_empty
returns-then-is_empty c =
    let everything : IsTrue c.is_empty.result ↔ IsEverything c.args.is_followed c.args.piece.now = elim c.if-is_followed.branch [
      | then-is_followed w ↦ followed_whitespace c.args.is_followed c.args.piece.now w.after_whitespace-filling.result.now c.is_empty.result w.if-is_followed.true (rw w.filling-is at c.is_empty.ensures) w.after_whitespace-filling.ensures
      | else-is_followed w ↦ nothing_more c.args.is_followed c.args.piece.now c.is_empty.result w.if-is_followed.false (rw w.filling-is at c.is_empty.ensures)
    ] in
    search rules

pub returns : goal.returns
returns c =
    let filled : IsWholeRead (IsFilled c.args.flavour) c.args.piece.now c.match-flavour.read = elim c.match-flavour.branch [
      | in-Npm+in_ok-read-in-Npm+in-Some w ↦ rw (w.in-Npm.is, w.read-is) (npm_list (rw w.in-Some.is at w.in_ok-read-in-Npm.ensures))
      | in-Npm+in_ok-read-in-Npm+in-None+in_ok-rest-in-None+in-Some-2+in_ok-between-in-Some-2 w ↦
          let pair = rw w.in-Some-2.is at w.in_ok-rest-in-None.ensures in
          let read : IsWholeRead IsHyphen c.args.piece.now (Some w.in_ok-between-in-Some-2.field-0) = (hyphen pair.value, record { value = pair.value; stands = whole_of pair.longest (sym w.if-is_empty-2.ensures); is = refl }, w.in_ok-between-in-Some-2.ensures pair.value pair.seen) in
          rw (w.in-Npm.is, w.read-is) (npm_hyphen_or_none (Some w.in_ok-between-in-Some-2.field-0) (rw w.in-None.is at w.in_ok-read-in-Npm.ensures) read)
      | in-Npm+in_ok-read-in-Npm+in-None+in_ok-rest-in-None+in_default w ↦
          let none : IsWholeRead IsHyphen c.args.piece.now None = elim w.in_default.branch [
            | in_default-via-in-Some-2+else-is_empty-2 v ↦
                let pair = rw v.in-Some-2.is at w.in_ok-rest-in-None.ensures in
                follows_pair pair.longest (sym v.if-is_empty-2.ensures)
            | in_default-via-in_default v ↦ no_pair (rw v.in_default.is at w.in_ok-rest-in-None.ensures)
          ] in
          rw (w.in-Npm.is, w.read-is) (npm_hyphen_or_none None (rw w.in-None.is at w.in_ok-read-in-Npm.ensures) none)
      | in-Normal+in_ok-read-in-Normal w ↦ rw (w.in-Normal.is, w.read-is) w.in_ok-read-in-Normal.ensures
      | in-Specifier w ↦ rw (w.in-Specifier.is, w.read-is) (search rules)
    ] in
    let everything : IsTrue c.is_empty.result ↔ IsEverything c.args.is_followed c.args.piece.now = elim c.if-is_followed.branch [
      | then-is_followed w ↦ followed_whitespace c.args.is_followed c.args.piece.now w.after_whitespace-filling.result.now c.is_empty.result w.if-is_followed.true (rw w.filling-is at c.is_empty.ensures) w.after_whitespace-filling.ensures
      | else-is_followed w ↦ nothing_more c.args.is_followed c.args.piece.now c.is_empty.result w.if-is_followed.false (rw w.filling-is at c.is_empty.ensures)
    ] in
    rw c.unwrap_or.ensures (filled_or_outside c.args.flavour c.args.is_followed c.args.piece.now c.match-flavour.read filled (λ h. both_ways c.is_empty.result c.if-is_empty.false (everything.1 h)))
