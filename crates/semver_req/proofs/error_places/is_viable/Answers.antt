use Rattle.std.proofs.Common.{◌≡◌, []}
use Rattle.semver_req.specs.Pieces.{npm, normal}
use Rattle.semver_req.proofs.error_places.is_viable.Goals as goal

pub is_viable_piece-requires : goal.is_viable_piece-requires
is_viable_piece-requires c = record { splits = npm; behind = rw (c.in-Ranges.is, c.in-Npm.is) at c.requires }

pub is_viable_piece-requires-in-Normal : goal.is_viable_piece-requires-in-Normal
is_viable_piece-requires-in-Normal c = record { splits = normal; behind = rw (c.in-Ranges.is, c.in-Normal.is) at c.requires }

pub returns-in-Npm : goal.returns-in-Npm
returns-in-Npm c = rw (c.in-Ranges.is, c.in-Npm.is) c.is_viable_piece.ensures

pub returns-in-Normal : goal.returns-in-Normal
returns-in-Normal c = rw (c.in-Ranges.is, c.in-Normal.is) c.is_viable_piece-in-Normal.ensures

pub returns-in-Specifier : goal.returns-in-Specifier
returns-in-Specifier c =
    let none : c.args.front.now ≡ [] = rw (c.in-Ranges.is, c.in-Specifier.is) at c.requires in
    rw (c.in-Ranges.is, c.in-Specifier.is, none) c.is_viable_range.ensures

pub returns-in-Versions : goal.returns-in-Versions
returns-in-Versions c = let none : c.args.front.now ≡ [] = rw c.in-Versions.is at c.requires in rw (c.in-Versions.is, none) c.is_viable_version.ensures
