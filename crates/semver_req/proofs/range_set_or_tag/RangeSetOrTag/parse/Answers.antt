use Rattle.std.proofs.lemmas.Result.{IfOk-weaker}
use Rattle.semver_req.specs.Pieces.{normal}
use Rattle.semver_req.proofs.PiecesRead.{normal_reading}
use Rattle.semver_req.proofs.range_set_or_tag.RangeSetOrTag.parse.Goals as goal

pub parse_alternatives-requires : goal.parse_alternatives-requires
parse_alternatives-requires c = normal

pub returns-clause-reading : goal.returns-clause-reading
returns-clause-reading c = IfOk-weaker c.parse_alternatives.result _ _ normal_reading c.parse_alternatives.ensures.reading
