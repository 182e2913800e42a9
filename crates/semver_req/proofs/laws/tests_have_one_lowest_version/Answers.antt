use Rattle.std.proofs.Common.{sym}
use Rattle.semver_req.proofs.OnlyLowest.{only_lowest}
use Rattle.semver_req.proofs.laws.tests_have_one_lowest_version.Goals as goal

pub returns : goal.returns
returns c test lowest other h k = sym (only_lowest c.read_versions_are_readable.ensures test lowest h.lowest h.no_build h.reads_back other k.lowest k.no_build k.reads_back)
