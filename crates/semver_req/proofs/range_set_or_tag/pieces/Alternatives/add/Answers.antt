use Rattle.std.proofs.Common.{arith}
use Rattle.std.proofs.lemmas.Str.Pattern.{strip_suffix_char}
use Rattle.semver_req.proofs.ShortComparators.{piece_added, unclosed}
use Rattle.semver_req.proofs.range_set_or_tag.pieces.Alternatives.add.Goals as goal

pub returns-in-Some : goal.returns-in-Some
returns-in-Some c =
    let more = c.in_ok-retain.ensures in
    let r = c.strip_suffix.result in
    let shorter = unclosed c.args.piece c.unwrap_or.result r (strip_suffix_char 32 c.args.piece.now r c.strip_suffix.ensures.cases (omega arith)) c.unwrap_or.ensures in
    piece_added shorter (c.in-Some.ensures c.requires) c.into_range.ensures more.ranges more.rejected more.is_only
