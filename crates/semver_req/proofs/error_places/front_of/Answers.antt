use Rattle.semver_req.specs.Pieces.{npm, normal}
use Rattle.semver_req.proofs.error_places.front_of.Goals as goal

pub listed_front-requires : goal.listed_front-requires
listed_front-requires c = npm

pub listed_front-requires-in-Normal : goal.listed_front-requires-in-Normal
listed_front-requires-in-Normal c = normal

pub returns-in-Npm : goal.returns-in-Npm
returns-in-Npm c = rw (c.in-Ranges.is, c.in-Npm.is) c.listed_front.ensures

pub returns-in-Normal : goal.returns-in-Normal
returns-in-Normal c = rw (c.in-Ranges.is, c.in-Normal.is) c.listed_front-in-Normal.ensures
