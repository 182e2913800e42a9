use Rattle.std.proofs.lemmas.Result.{IfOk-weaker}
use Rattle.semver_req.specs.Pieces.{npm}
use Rattle.semver_req.proofs.PiecesRead.{npm_reading}
use Rattle.semver_req.proofs.range_set_or_tag.RangeSetOrTag.parse_npm.Goals as goal

pub parse_alternatives-requires : goal.parse_alternatives-requires
parse_alternatives-requires c = npm

pub returns-clause-reading : goal.returns-clause-reading
returns-clause-reading c = IfOk-weaker c.parse_alternatives.result _ _ npm_reading (rw c.trim.ensures.trim at c.parse_alternatives.ensures.reading)
